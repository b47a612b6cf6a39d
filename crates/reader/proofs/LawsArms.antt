-- Laws of the arms of the loop over the top-level elements (specs/Steps.antt), over plain values: what a turn does with an element by its type.
--
--   rule-put, rule_left, rule_taken                    a rule: it is put in its place; there is none; it is refused with 14
--   classifier-put, classifier_left, classifier_taken  a classifier, the same
--   taking_configuration, taking_other                 a configuration; an element of another type
-- Trusts: nothing.
use Prim.Native.Nat.{ℕ, ◌<◌}
use mathlib.Core.Path.{◌≡◌, refl, sym, ◌∙◌}
use mathlib.Core.List.{List}
use Rattle.std.proofs.Common.{None, Some, Ok, Err}
use lib.ListN.{length}
use Rattle.refusals.specs.declared.Fault.{Fault}
use Rattle.table.specs.declared.Rule.{Rule}
use Rattle.table.specs.declared.Classifier.{Classifier}
use Rattle.table.specs.declared.Table.{Table}
use Rattle.children.specs.Rows.{type_at}
use Rattle.rules.specs.Rules.{rule_at}
use Rattle.classifiers.specs.Classifiers.{classifier_at}
use Rattle.configurations.specs.Configurations.{configuration_at}
use Rattle.rows.specs.Rows.{tested_at}
use Rattle.rows.specs.Told.{tested_of}
use Rattle.rows.specs.declared.Next.{Next}
use Rattle.rows.specs.declared.Tally.{Tally}
use Rattle.reader.specs.Take.{with_configuration}
use Rattle.reader.specs.Steps.{PlaceFor, TakesUp}
use Rattle.reader.proofs.LawsRead.{is_taken_rule, is_taken_classifier, is_taken_configuration, is_taken_other}
use Rattle.reader.proofs.LawsRead.{with_element-rule, with_element-classifier, with_element_configuration, with_element-other}
use Rattle.reader.proofs.Kept.{pushed_rule, pushed_classifier, kept_rule, kept_classifier, kept_configuration}
use Rattle.reader.proofs.Kept.{with_rule_pushed, with_rule-full, with_classifier_pushed, with_classifier-full}
use Rattle.reader.proofs.LawsTaking.{Taking}
use Rattle.reader.proofs.LawsTurn.{taking_on, turn_taken}

module _ {msg ids carried : List ℕ} {t : Table} {at : ℕ} {tally : Tally} (k : Taking msg ids carried t at tally) (inside : at < length msg)
    (next : Next) (e : tested_of at (Ok next) ≡ tested_at msg at tally) where
  module _ (kind : type_at msg at ≡ 50) {q : Rule} (read : q ≡ rule_at msg at) (m : List ℕ) where
    pub rule_taken : (f : Fault) → PlaceFor ids t.rulecount q.number at (Err f) m → TakesUp msg (Err f)
    rule_taken f p = turn_taken k inside next e (sym (is_taken_rule msg at t kind read k.kept.ruled) ∙ p.0) f p.1 p.2

    pub rule-put : {place : ℕ} → PlaceFor ids t.rulecount q.number at (Ok (Some place)) m → Taking msg m carried (pushed_rule place q t) next.place next.tally
    rule-put {place} p =
        let room : place < 32 = rw p.2 p.1 in
        taking_on k inside next e (sym (is_taken_rule msg at t kind read k.kept.ruled) ∙ p.0)
        (with_rule_pushed q t p.2 room ∙ with_element-rule msg at t kind read)
        (kept_rule k.kept q p.2 room p.3)

    pub rule_left : PlaceFor ids t.rulecount q.number at (Ok None) m → Taking msg m carried t next.place next.tally
    rule_left p =
        taking_on k inside next e (sym (is_taken_rule msg at t kind read k.kept.ruled) ∙ p.0)
        (with_rule-full q t p.1 ∙ with_element-rule msg at t kind read)
        (rw p.2 k.kept)

  module _ (kind : type_at msg at ≡ 23) {q : Classifier} (read : q ≡ classifier_at msg at) (m : List ℕ) where
    pub classifier_taken : (f : Fault) → PlaceFor carried t.classifiercount q.number at (Err f) m → TakesUp msg (Err f)
    classifier_taken f p = turn_taken k inside next e (sym (is_taken_classifier msg at t kind read k.kept.classified) ∙ p.0) f p.1 p.2

    pub classifier-put : {place : ℕ} → PlaceFor carried t.classifiercount q.number at (Ok (Some place)) m
        → Taking msg ids m (pushed_classifier place q t) next.place next.tally
    classifier-put {place} p =
        let room : place < 32 = rw p.2 p.1 in
        taking_on k inside next e (sym (is_taken_classifier msg at t kind read k.kept.classified) ∙ p.0)
        (with_classifier_pushed q t p.2 room ∙ with_element-classifier msg at t kind read)
        (kept_classifier k.kept q p.2 room p.3)

    pub classifier_left : PlaceFor carried t.classifiercount q.number at (Ok None) m → Taking msg ids m t next.place next.tally
    classifier_left p =
        taking_on k inside next e (sym (is_taken_classifier msg at t kind read k.kept.classified) ∙ p.0)
        (with_classifier-full q t p.1 ∙ with_element-classifier msg at t kind read)
        (rw p.2 k.kept)

  pub taking_configuration : type_at msg at ≡ 51 → Taking msg ids carried (with_configuration (configuration_at msg at) t) next.place next.tally
  taking_configuration kind =
      taking_on k inside next e
      (is_taken_configuration msg at t kind)
      (with_element_configuration msg at t kind refl)
      (kept_configuration k.kept _)

  pub taking_other : (type_at msg at ≡ 50 → ⊥) → (type_at msg at ≡ 23 → ⊥) → (type_at msg at ≡ 51 → ⊥) → Taking msg ids carried t next.place next.tally
  taking_other h i j = taking_on k inside next e (is_taken_other msg at t h i) (with_element-other msg at t h i j) k.kept
