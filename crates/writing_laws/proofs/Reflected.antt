-- The test `producible` (specs/Producible.antt of writing_check) holds of a lent table exactly where the table is Producible, so exactly where some message of bytes reads to it.
--
--   producible_true    the test passed: Producible             producible_claims   Producible: the test passes
--   refused_exact      19 exactly where no message of bytes reads to the table
-- Trusts: nothing.
use mathlib.Core.Path.{◌≡◌, refl, sym, ap, ◌∙◌}
use mathlib.Core.Bool.{Bool, true, false, not}
use borrow.Author.Tests.{leb-true, not-true}
use Rattle.wire.proofs.Laws.{both}
use Rattle.table.specs.Table.{limited_to, rules_of, classifiers_of, channels_of, empty_rule, empty_classifier}
use Rattle.table.specs.declared.Table.{Table}
use Rattle.table.proofs.Laws.{length-rules_of_le, length-classifiers_of_le, length-channels_of_le}
use Rattle.element_tests.specs.Tests.{no_channel}
use Rattle.named.specs.Named.{Found, Nothing, Number, unanswered}
use Rattle.writing_entries.specs.Entries.{is_zero, sound_rule, unused_rule, sound_classifier, unused_classifier}
use Rattle.writing_check.specs.Producible.{is_nothing, producible}
use Rattle.writing_laws.specs.Claims.{Producible}
use Rattle.writing_laws.specs.Typed.{Typed}
use Rattle.writing_laws.proofs.Exact.{ReadsTo, producible_exact}
use Rattle.writing_laws.proofs.Passed.{listed_tested, listed_test, clash, all_take, all-passed, all_passes, anything}
use Rattle.writing_laws.proofs.TestedRule.{zero_true, some_true, true_some, rule_true, rule_claims, rule-empty, unused_rule_lem}
use Rattle.writing_laws.proofs.TestedClassifier.{classifier_true, classifier_claims, classifier-empty, unused_classifier_lem}

nothing_true : (f : Found) → is_nothing f ≡ true → f ≡ Nothing
nothing_true Nothing e = refl
nothing_true (Number i j) e = absurd (clash e)

pub producible_true : (t : Table) → Typed t → producible t ≡ true → Producible t
unfolding producible rules_of classifiers_of channels_of
producible_true t y e =
    let a = both _ _ e in
    let b = both _ _ a.1 in
    let c = both _ _ b.1 in
    let d = both _ _ c.1 in
    let f = both _ _ d.1 in
    let g = both _ _ f.1 in
    let h = both _ _ g.1 in
    let i = both _ _ h.1 in
    let j = both _ _ i.1 in
    let k = both _ _ j.1 in
    let l = both _ _ k.1 in
    let m = both _ _ l.1 in
    let n = both _ _ m.1 in
    record {
      channels = listed_tested is_zero 0 32 (λ x w. zero_true x) t.channelcount t.channels (anything t.channels) y.channels (leb-true _ _ a.0) b.0;
      classifiers = listed_tested unused_classifier empty_classifier 32 (λ x w. classifier-empty x) t.classifiercount t.classifiers (anything t.classifiers) y.classifiers (leb-true _ _ d.0) f.0;
      rules = listed_tested unused_rule empty_rule 32 rule-empty t.rulecount t.rules y.rule y.rules (leb-true _ _ h.0) i.0;
      channel = all-passed (λ hertz. not (no_channel hertz)) (λ x w s. (not-true (no_channel x) s, w)) (all_take (limited_to 32 t.channelcount) y.channel) c.0;
      classifier = all-passed sound_classifier classifier_true (all_take (limited_to 32 t.classifiercount) y.classifier) g.0;
      rule = all-passed sound_rule rule_true (all_take (limited_to 32 t.rulecount) y.rule) j.0;
      tdsg1 = (some_true _ k.0, y.tdsg1);
      tdsg2 = (some_true _ l.0, y.tdsg2);
      tdsg3 = y.tdsg3;
      tdsg4 = y.tdsg4;
      ruleapart = m.0;
      classifierapart = n.0;
      answered = nothing_true (unanswered t) n.1;
    }

pub producible_claims : (t : Table) → Producible t → producible t ≡ true
unfolding producible
producible_claims t g =
    let c = listed_test is_zero 0 32 refl g.channels (length-channels_of_le t) in
    let q = listed_test unused_classifier empty_classifier 32 unused_classifier_lem g.classifiers (length-classifiers_of_le t) in
    let r = listed_test unused_rule empty_rule 32 unused_rule_lem g.rules (length-rules_of_le t) in
    rw (
      c.0,
      c.1,
      q.0,
      q.1,
      r.0,
      r.1,
      all_passes (λ hertz. not (no_channel hertz)) (λ n w. ap not w.0) g.channel,
      all_passes sound_classifier classifier_claims g.classifier,
      all_passes sound_rule rule_claims g.rule,
      true_some t.timers.tdsg1 g.tdsg1.0,
      true_some t.timers.tdsg2 g.tdsg2.0,
      g.ruleapart,
      g.classifierapart,
      g.answered,
    ) refl

-- REQ 01, refusal 19: exactly where no message of bytes reads to the lent table
pub refused_exact : (t : Table) → Typed t → (producible t ≡ false → ReadsTo t → ⊥) × ((ReadsTo t → ⊥) → producible t ≡ false)
refused_exact t y = (
  λ e r. clash (sym e ∙ producible_claims t ((producible_exact t).1 r)),
  λ never. on (producible t) refl never,
)
  where
    on : (b : Bool) → producible t ≡ b → (ReadsTo t → ⊥) → b ≡ false
    on true e never = absurd (never ((producible_exact t).0 (producible_true t y e)))
    on false e never = refl
