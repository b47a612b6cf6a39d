-- Every table that reading gives is Producible (document 02, Req 01, refusal 19).
--
--   Whole                  a row that passed its tests and is taken up
--   element_made           an element that passes its tests, and whose number is free, keeps it
--   read_table-producible   an accepted message of bytes gives a table that is Producible
-- Trusts: nothing.
use Prim.Native.Nat.{ℕ, ◌+◌, ◌≤◌, ◌<◌}
use mathlib.Core.Path.{◌≡◌, refl, sym, ap, ◌∙◌}
use mathlib.Core.Bool.{Bool, true, false, cond, not}
use mathlib.Core.List.{List}
use native.Mathlib.Omega.{arith}
use borrow.Author.Tests.{eqb-true, leb-true, leb-false}
use lib.ListN.{length, get_or-eq_default}
use lib.Dec.{eqb, ltb, leb}
use Rattle.table.specs.Table.{rules_of, classifiers_of, channels_of, empty_table, empty_rule, empty_classifier, padded}
use Rattle.table.specs.declared.Table.{Table}
use Rattle.table.proofs.Padded.{take-padded}
use Rattle.types.specs.Places.{type_under}
use Rattle.types.specs.declared.Length.TheVariants.{Row}
use Rattle.types.specs.declared.Values.TheVariants.{Any}
use Rattle.rows.specs.Tests.{is_row, none_counted, empty_tally}
use Rattle.rows.specs.Rows.{row_of, tested_at}
use Rattle.rows.specs.declared.Tally.{Tally}
use Rattle.rows.proofs.Laws.{tested_at-head}
use Rattle.children.specs.Rows.{type_at, row_in, row_inside}
use Rattle.children.specs.Rows as children
use Rattle.children.proofs.Laws.{row_inside-row}
use Rattle.rules.specs.Rules.{rule_at}
use Rattle.classifiers.specs.Classifiers.{classifier_at}
use Rattle.configurations.specs.Configurations.{configuration_at}
use Rattle.configurations.specs.declared.Configuration.{Configuration}
use Rattle.named.specs.Named.{Found, Nothing, Number, unanswered, placed, lone_number}
use Rattle.reader.specs.Take.{with_rule, with_classifier, with_configuration, with_element, is_taken}
use Rattle.reader.specs.Read.{refusal, read_lone, read_row, read_table}
use Rattle.reader.specs.Read.{Accepted, Refused}
use Rattle.reader.proofs.Sound.{Sound, sound_empty, sound_element}
use Rattle.writing_laws.specs.Claims.{RuleGood, ClassifierGood, Producible}
use Rattle.writing_laws.proofs.Known.{known, top_23, top_50, top_51}
use Rattle.writing_laws.proofs.Keeps.{Bytes as Octets, element_sees}
use Rattle.writing_laws.proofs.MadeRule.{rule_made}
use Rattle.writing_laws.proofs.MadeClassifier.{classifier_made}
use Rattle.writing_laws.proofs.MadeConfiguration.{ConfigurationMade, configuration_made}
use Rattle.writing_laws.proofs.MadeTable.{Made, made_empty, made_rule, made_classifier, made_configuration}

-- a row that an element's value is: it passed its tests, and it is the one that is taken up
pub record Whole (msg : List ℕ) (at place : ℕ) : Type 0 where
  pub len : ℕ
  pub tested : (row_of msg place at (at + 2) (at + 2 + len) none_counted).bad ≡ 0
  pub row : row_inside msg at ≡ row_in msg (at + 2) (at + 2 + len)

module _ (msg : List ℕ) (octets : Octets msg) (at : ℕ) (tally : Tally) (fine : (tested_at msg at tally).bad ≡ 0) where
  -- where such a type is read, an element stands
  within : (kind : ℕ) → 1 ≤ kind → type_at msg at ≡ kind → at < length msg
  within kind h e = on (leb (length msg) at) refl
    where
      on : (b : Bool) → leb (length msg) at ≡ b → at < length msg
      on true x = absurd (omega (arith, get_or-eq_default msg 0 (leb-true (length msg) at x)))
      on false x = leb-false (length msg) at x

  whole : (place kind : ℕ) (repeats : Bool) (room list : ℕ) → place < 26 → 1 ≤ kind → type_under 26 kind ≡ known place Row repeats Any room list → type_at msg at ≡ kind → Whole msg at place
  unfolding is_row
  whole place kind repeats room list small some typed e =
      let w = tested_at-head msg at tally (within kind some e) fine in
      record {
        len = w.len;
        tested = (element_sees msg 26 at w.len tally.counts (known place Row repeats Any room list) (ap (type_under 26) e ∙ typed) (λ z. omega (arith, z)) w.fine).inner refl;
        row = row_inside-row msg at (sym w.head) refl;
      }

  rule-here : type_at msg at ≡ 50 → RuleGood (rule_at msg at)
  unfolding rule_at
  rule-here e = let w = whole 1 50 true 32 1 (omega arith) (omega arith) top_50 e in rw w.row (rule_made msg octets at (at + 2) (at + 2 + w.len) w.tested)

  classifier-here : type_at msg at ≡ 23 → ClassifierGood (classifier_at msg at)
  unfolding classifier_at
  classifier-here e = let w = whole 0 23 true 32 0 (omega arith) (omega arith) top_23 e in rw w.row (classifier_made msg octets at (at + 2) (at + 2 + w.len) w.tested)

  configuration_here : type_at msg at ≡ 51 → ConfigurationMade (configuration_at msg at)
  unfolding configuration_at
  configuration_here e = let w = whole 2 51 false 255 2 (omega arith) (omega arith) top_51 e in rw w.row (configuration_made msg octets at (at + 2) (at + 2 + w.len) w.tested)

  element_made : {t : Table} → Made t → Made (with_element msg at t)
  unfolding with_element
  element_made {t} m = on (eqb (type_at msg at) 50) (eqb (type_at msg at) 23) (eqb (type_at msg at) 51) refl refl refl
    where
      on : (a b c : Bool) → eqb (type_at msg at) 50 ≡ a → eqb (type_at msg at) 23 ≡ b → eqb (type_at msg at) 51 ≡ c
          → Made (cond a (with_rule (rule_at msg at) t) (cond b (with_classifier (classifier_at msg at) t) (cond c (with_configuration (configuration_at msg at) t) t)))
      on true b c x y z = made_rule m (rule_at msg at) (rule-here (eqb-true _ _ x))
      on false true c x y z = made_classifier m (classifier_at msg at) (classifier-here (eqb-true _ _ y))
      on false false true x y z = made_configuration m (configuration_at msg at) (configuration_here (eqb-true _ _ z))
      on false false false x y z = m

-- ---- the whole message

producible_made : {t : Table} → Made t → Sound t → unanswered t ≡ Nothing → Producible t
unfolding rules_of classifiers_of channels_of
producible_made {t} m s answered =
    let k = m.conf in
    let cc : t.channelcount ≡ length k.cs = ap (λ (q : Configuration). q.channelcount) k.is in
    let ca : t.channels ≡ padded 32 0 k.cs = ap (λ (q : Configuration). q.channels) k.is in
    let channels : channels_of t ≡ k.cs = rw (cc, ca) (take-padded 32 0 k.cs k.few) in
    let classifiers : classifiers_of t ≡ m.qs = rw (m.classifiercount, m.classifiers) (take-padded 32 empty_classifier m.qs m.classifierroom) in
    let rules : rules_of t ≡ m.rs = rw (m.rulecount, m.rules) (take-padded 32 empty_rule m.rs m.ruleroom) in
    record {
      channels = record { count = cc ∙ ap length (sym channels); array = ca ∙ ap (padded 32 0) (sym channels) };
      classifiers = record { count = m.classifiercount ∙ ap length (sym classifiers); array = m.classifiers ∙ ap (padded 32 empty_classifier) (sym classifiers) };
      rules = record { count = m.rulecount ∙ ap length (sym rules); array = m.rules ∙ ap (padded 32 empty_rule) (sym rules) };
      channel = rw channels k.channel;
      classifier = rw classifiers m.classifier;
      rule = rw rules m.rule;
      tdsg1 = rw (ap (λ (q : Configuration). q.timers.tdsg1) k.is) k.tdsg1;
      tdsg2 = rw (ap (λ (q : Configuration). q.timers.tdsg2) k.is) k.tdsg2;
      tdsg3 = rw (ap (λ (q : Configuration). q.timers.tdsg3) k.is) k.tdsg3;
      tdsg4 = rw (ap (λ (q : Configuration). q.timers.tdsg4) k.is) k.tdsg4;
      ruleapart = s.ruleapart;
      classifierapart = s.classifierapart;
      answered = answered;
    }

no_refusal : (n off : ℕ) → Refused n off ≡ Accepted → ⊥
no_refusal n off e = let c : ◌≡◌ {A = ℕ} 0 1 = cc in omega arith

lone_made : (msg : List ℕ) (given : Table) {t : Table} → Made t → Sound t → (read_lone given t (lone_number msg t)).verdict ≡ Accepted → Producible (read_lone given t (lone_number msg t)).table
unfolding lone_number
lone_made msg given {t} m s = on (unanswered t) refl
  where
    on : (f : Found) → unanswered t ≡ f → (read_lone given t (placed msg f)).verdict ≡ Accepted → Producible (read_lone given t (placed msg f)).table
    on Nothing e z = producible_made m s e
    on (Number i j) e z = absurd (no_refusal _ _ z)

row_made : (msg : List ℕ) → Octets msg → (given : Table) (row : children.Row) (tally : Tally) (t : Table) → Made t → Sound t → (read_row given msg row tally t).verdict ≡ Accepted → Producible (read_row given msg row tally t).table
row_made msg octets given children.done tally t m s z = lone_made msg given m s z
row_made msg octets given (children.bad at n) tally t m s z = absurd (no_refusal _ _ z)
row_made msg octets given (children.item at len rest) tally t m s z =
    on (eqb (tested_at msg at tally).bad 0) (is_taken msg at t) refl refl z (λ a b. row_made msg octets given rest (tested_at msg at tally).tally (with_element msg at t) a b)
  where
    on : (a b : Bool) → eqb (tested_at msg at tally).bad 0 ≡ a → is_taken msg at t ≡ b
        → (let r = cond (not a) (refusal (tested_at msg at tally).bad (tested_at msg at tally).off given) (cond b (refusal 14 at given) (read_row given msg rest (tested_at msg at tally).tally (with_element msg at t))) in
        r.verdict ≡ Accepted
        → (Made (with_element msg at t) → Sound (with_element msg at t) → (read_row given msg rest (tested_at msg at tally).tally (with_element msg at t)).verdict ≡ Accepted
        → Producible (read_row given msg rest (tested_at msg at tally).tally (with_element msg at t)).table)
        → Producible r.table)
    on false b x y z go = absurd (no_refusal _ _ z)
    on true true x y z go = absurd (no_refusal _ _ z)
    on true false x y z go = go (element_made msg octets at tally (eqb-true _ _ x) m) (sound_element s msg at y) z

-- REQ 01: whatever reading gives is producible
pub read_table-producible : (msg : List ℕ) → Octets msg → (given : Table) → (read_table given msg).verdict ≡ Accepted → Producible (read_table given msg).table
unfolding read_table
read_table-producible msg octets given = on (ltb 23952 (length msg))
  where
    on : (b : Bool) → (let r = cond b (refusal 3 0 given) (read_row given msg (row_in msg 0 (length msg)) empty_tally empty_table) in r.verdict ≡ Accepted → Producible r.table)
    on true z = absurd (no_refusal _ _ z)
    on false z = row_made msg octets given (row_in msg 0 (length msg)) empty_tally empty_table made_empty sound_empty z
