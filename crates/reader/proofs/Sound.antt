-- What holds of every table on the way to an accepted one: its counts are within its room, and no rule number and no classifier number stands twice.
--
--   Sound t                       the room of t and the numbers in it
--   sound_empty, sound_element    it holds of the empty table, and after an element whose number is not taken
-- Trusts: nothing.
use Prim.Native.Nat.{ℕ, ◌+◌, ◌≤◌, ◌<◌}
use mathlib.Core.Path.{◌≡◌, refl}
use mathlib.Core.Bool.{Bool, true, false, cond}
use mathlib.Core.List.{List, [], ◌∷◌, ◌++◌, map}
use native.Mathlib.Omega.{arith}
use native.Mathlib.Numerals.{add-one}
use borrow.Author.Tests.{ltb-true}
use lib.ListN.{length, take, set, length-set}
use lib.Seq.{take-suc-set}
use lib.Dec.{eqb, ltb}
use Rattle.table.specs.Table.{limited_to, rules_of, classifiers_of, empty_table}
use Rattle.table.specs.declared.Rule.{Rule}
use Rattle.table.specs.declared.Classifier.{Classifier}
use Rattle.table.specs.declared.Table.{Table}
use Rattle.children.specs.Rows.{type_at}
use Rattle.rules.specs.Rules.{rule_at}
use Rattle.classifiers.specs.Classifiers.{classifier_at}
use Rattle.configurations.specs.Configurations.{configuration_at}
use Rattle.configurations.proofs.Laws.{channels-room}
use Rattle.listed.specs.Listed.{is_listed, is_distinct}
use Rattle.named.specs.Named.{classifier_numbers}
use Rattle.named.proofs.Lists.{map-append}
use Rattle.listed.proofs.Laws.{distinct_more}
use Rattle.reader.specs.Take.{with_rule, with_classifier, with_configuration, with_element, rule_numbers, is_taken}
use Rattle.reader.proofs.Kept.{limited_same, pushed_rule, pushed_classifier}

pub record Sound (t : Table) : Type 0 where
  pub rules : t.rulecount ≤ 32
  pub classifiers : t.classifiercount ≤ 32
  pub channels : t.channelcount ≤ 32
  pub ruleroom : length t.rules ≡ 32
  pub classifierroom : length t.classifiers ≡ 32
  pub ruleapart : is_distinct (rule_numbers t) ≡ true
  pub classifierapart : is_distinct (classifier_numbers t) ≡ true

-- one more stored at the next place is one more number at the end
more : {A : Type 0} (f : A → ℕ) (l : List A) (n : ℕ) (a : A) → n < 32 → length l ≡ 32
    → map f (take (limited_to 32 (n + 1)) (set l n a)) ≡ map f (take (limited_to 32 n) l) ++ (f a ∷ [])
more f l n a h e =
    rw (limited_same 32 (n + 1) (omega arith), limited_same 32 n (omega arith), add-one n, take-suc-set l n a (omega arith)) (map-append f (take n l) (a ∷ []))

pub sound_empty : Sound empty_table
unfolding rules_of classifiers_of
sound_empty = record { rules = omega arith; classifiers = omega arith; channels = omega arith; ruleroom = refl; classifierroom = refl; ruleapart = refl; classifierapart = refl }

module _ {t : Table} (s : Sound t) where
  sound_rule_lem : (q : Rule) → is_listed q.number (rule_numbers t) ≡ false → Sound (with_rule q t)
  unfolding with_rule rules_of classifiers_of
  sound_rule_lem q free = on (ltb t.rulecount 32) refl
    where
      pushed : t.rulecount < 32 → Sound (pushed_rule t.rulecount q t)
      pushed h =
          record {
            rules = omega arith;
            classifiers = s.classifiers;
            channels = s.channels;
            ruleroom = simp length-set s.ruleroom;
            classifierroom = s.classifierroom;
            ruleapart =
                rw (more (λ (x : Rule). x.number) t.rules t.rulecount q h s.ruleroom)
                (distinct_more (rule_numbers t) q.number s.ruleapart free);
            classifierapart = s.classifierapart;
          }

      on : (b : Bool) → ltb t.rulecount 32 ≡ b → Sound (cond b (pushed_rule t.rulecount q t) t)
      on true e = pushed (ltb-true _ _ e)
      on false e = s

  sound_classifier_lem : (q : Classifier) → is_listed q.number (classifier_numbers t) ≡ false → Sound (with_classifier q t)
  unfolding with_classifier rules_of classifiers_of
  sound_classifier_lem q free = on (ltb t.classifiercount 32) refl
    where
      pushed : t.classifiercount < 32 → Sound (pushed_classifier t.classifiercount q t)
      pushed h =
          record {
            rules = s.rules;
            classifiers = omega arith;
            channels = s.channels;
            ruleroom = s.ruleroom;
            classifierroom = simp length-set s.classifierroom;
            ruleapart = s.ruleapart;
            classifierapart =
                rw (more (λ (x : Classifier). x.number) t.classifiers t.classifiercount q h s.classifierroom)
                (distinct_more (classifier_numbers t) q.number s.classifierapart free);
          }

      on : (b : Bool) → ltb t.classifiercount 32 ≡ b → Sound (cond b (pushed_classifier t.classifiercount q t) t)
      on true e = pushed (ltb-true _ _ e)
      on false e = s

  pub sound_element : (msg : List ℕ) (at : ℕ) → is_taken msg at t ≡ false → Sound (with_element msg at t)
  unfolding is_taken with_element rules_of classifiers_of
  sound_element msg at = on (eqb (type_at msg at) 50) (eqb (type_at msg at) 23) (eqb (type_at msg at) 51)
    where
      configured : Sound (with_configuration (configuration_at msg at) t)
      configured =
          record {
            rules = s.rules;
            classifiers = s.classifiers;
            channels = channels-room msg at;
            ruleroom = s.ruleroom;
            classifierroom = s.classifierroom;
            ruleapart = s.ruleapart;
            classifierapart = s.classifierapart;
          }

      on : (a b c : Bool) → cond a (is_listed (rule_at msg at).number (rule_numbers t)) (cond b (is_listed (classifier_at msg at).number (classifier_numbers t)) false) ≡ false
          → Sound (cond a (with_rule (rule_at msg at) t) (cond b (with_classifier (classifier_at msg at) t) (cond c (with_configuration (configuration_at msg at) t) t)))
      on true b c free = sound_rule_lem (rule_at msg at) free
      on false true c free = sound_classifier_lem (classifier_at msg at) free
      on false false true free = configured
      on false false false free = s
