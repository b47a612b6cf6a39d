-- The lists of a table that reading leaves, told by where the elements stand: each is filled in byte order, as far as it has room.
--
--   rules_of_table_of         the rules of a message's table are those of its 50s in byte order, the first 32
--   classifiers_of_table_of   its classifiers are those of its 23s in byte order, the first 32
-- Trusts: nothing.
use Prim.Native.Nat.{ℕ, ◌+◌, ◌≤◌}
use mathlib.Core.Path.{◌≡◌, refl, sym, ◌∙◌}
use mathlib.Core.Bool.{Bool, true, false, cond}
use mathlib.Core.List.{List, map}
use mathlib.Core.Logic.{inl, inr}
use native.Mathlib.Omega.{arith}
use borrow.Author.Tests.{ltb-true, ltb-false, eqb-true}
use lib.ListN.{length, take, set, length-set}
use lib.Seq.{take_all}
use lib.Dec.{eqb, ltb}
use Rattle.table.specs.Table.{rules_of, classifiers_of, empty_table}
use Rattle.table.specs.declared.Rule.{Rule}
use Rattle.table.specs.declared.Classifier.{Classifier}
use Rattle.table.specs.declared.Table.{Table}
use Rattle.table.proofs.Laws.{length-rules_of_le, length-classifiers_of_le}
use Rattle.children.specs.Rows.{row_in, type_at, places_of}
use Rattle.rules.specs.Rules.{rule_at}
use Rattle.classifiers.specs.Classifiers.{classifier_at}
use Rattle.configurations.specs.Configurations.{configuration_at}
use Rattle.reader.specs.Take.{with_rule, with_classifier, with_configuration, with_element, table_of}
use Rattle.demands.proofs.LawsFill.{Takes, filled, stored, full}

abbrev Sized : Table → Type 0
Sized t = (length t.rules ≡ 32) × (t.rulecount ≤ 32) × (length t.classifiers ≡ 32) × (t.classifiercount ≤ 32)

-- a table with another list of rules, and of classifiers
abbrev with_rules : ℕ → List Rule → Table → Table
with_rules n l t =
    record { rulecount = n; classifiercount = t.classifiercount; channelcount = t.channelcount; timers = t.timers; channels = t.channels; classifiers = t.classifiers; rules = l }

abbrev with_classifiers : ℕ → List Classifier → Table → Table
with_classifiers n l t =
    record { rulecount = t.rulecount; classifiercount = n; channelcount = t.channelcount; timers = t.timers; channels = t.channels; classifiers = l; rules = t.rules }

module _ (msg : List ℕ) (at : ℕ) (t : Table) where
  -- one more rule, one more classifier
  abbrev ruled : Table
  ruled = with_rules (t.rulecount + 1) (set t.rules t.rulecount (rule_at msg at)) t

  abbrev classified : Table
  classified = with_classifiers (t.classifiercount + 1) (set t.classifiers t.classifiercount (classifier_at msg at)) t

  sized_keep : Sized t → Sized (with_element msg at t)
  unfolding with_element with_rule with_classifier
  sized_keep s = on (eqb (type_at msg at) 50) (eqb (type_at msg at) 23) (eqb (type_at msg at) 51) (ltb t.rulecount 32) (ltb t.classifiercount 32) refl refl
    where
      on : (a b c d e : Bool) → ltb t.rulecount 32 ≡ d → ltb t.classifiercount 32 ≡ e
          → Sized (cond a (cond d ruled t) (cond b (cond e classified t) (cond c (with_configuration (configuration_at msg at) t) t)))
      on true b c true e x y = let h = ltb-true t.rulecount 32 x in (simp length-set s.0, omega arith, s.2, s.3)
      on true b c false e x y = s
      on false true c d true x y = let h = ltb-true t.classifiercount 32 y in (s.0, s.1, simp length-set s.2, omega arith)
      on false true c d false x y = s
      on false false true d e x y = s
      on false false false d e x y = s

  rules-other : eqb (type_at msg at) 50 ≡ false → rules_of (with_element msg at t) ≡ rules_of t
  unfolding with_element with_classifier rules_of
  rules-other n = rw n (on (eqb (type_at msg at) 23) (eqb (type_at msg at) 51) (ltb t.classifiercount 32))
    where
      on : (b c e : Bool) → rules_of (cond b (cond e classified t) (cond c (with_configuration (configuration_at msg at) t) t)) ≡ rules_of t
      on true c true = refl
      on true c false = refl
      on false true e = refl
      on false false e = refl

  rules-more : Sized t → eqb (type_at msg at) 50 ≡ true → Takes 32 (rules_of t) (rule_at msg at) (rules_of (with_element msg at t))
  unfolding with_element with_rule rules_of
  rules-more s y = rw y (on (ltb t.rulecount 32) refl)
    where
      on : (d : Bool) → ltb t.rulecount 32 ≡ d → Takes 32 (rules_of t) (rule_at msg at) (rules_of (cond d ruled t))
      on true x = inl (stored 32 t.rulecount t.rules (rule_at msg at) (ltb-true t.rulecount 32 x) s.0)
      on false x = inr (full 32 t.rulecount t.rules (ltb-false t.rulecount 32 x) s.1 s.0, refl)

  classifiers-other : eqb (type_at msg at) 23 ≡ false → classifiers_of (with_element msg at t) ≡ classifiers_of t
  unfolding with_element with_rule classifiers_of
  classifiers-other n = rw n (on (eqb (type_at msg at) 50) (eqb (type_at msg at) 51) (ltb t.rulecount 32))
    where
      on : (a c d : Bool) → classifiers_of (cond a (cond d ruled t) (cond c (with_configuration (configuration_at msg at) t) t)) ≡ classifiers_of t
      on true c true = refl
      on true c false = refl
      on false true d = refl
      on false false d = refl

  classifiers-element : eqb (type_at msg at) 23 ≡ true → with_element msg at t ≡ with_classifier (classifier_at msg at) t
  unfolding with_element
  classifiers-element y = simp (eqb-true (type_at msg at) 23 y)

  classifiers-more : Sized t → eqb (type_at msg at) 23 ≡ true → Takes 32 (classifiers_of t) (classifier_at msg at) (classifiers_of (with_element msg at t))
  unfolding with_classifier classifiers_of
  classifiers-more s y = rw (classifiers-element y) (on (ltb t.classifiercount 32) refl)
    where
      on : (e : Bool) → ltb t.classifiercount 32 ≡ e → Takes 32 (classifiers_of t) (classifier_at msg at) (classifiers_of (cond e classified t))
      on true x =
          inl (stored 32 t.classifiercount t.classifiers (classifier_at msg at) (ltb-true t.classifiercount 32 x) s.2)
      on false x =
          inr (full 32 t.classifiercount t.classifiers (ltb-false t.classifiercount 32 x) s.3 s.2, refl)

module _ (msg : List ℕ) where
  pub rules_of_table_of : rules_of (table_of msg) ≡ take 32 (map (rule_at msg) (places_of msg 50 (row_in msg 0 (length msg))))
  unfolding table_of rules_of
  rules_of_table_of =
      sym (take_all 32 (rules_of (table_of msg)) (length-rules_of_le (table_of msg)))
      ∙ filled rules_of 32 Sized msg 50 (λ at len t. with_element msg at t) (rule_at msg)
      (λ at len t. sized_keep msg at t) (λ at len t. rules-other msg at t) (λ at len t. rules-more msg at t)
      (row_in msg 0 (length msg)) empty_table (refl, omega arith, refl, omega arith)

  pub classifiers_of_table_of : classifiers_of (table_of msg) ≡ take 32 (map (classifier_at msg) (places_of msg 23 (row_in msg 0 (length msg))))
  unfolding table_of classifiers_of
  classifiers_of_table_of =
      sym (take_all 32 (classifiers_of (table_of msg)) (length-classifiers_of_le (table_of msg)))
      ∙ filled classifiers_of 32 Sized msg 23 (λ at len t. with_element msg at t) (classifier_at msg)
      (λ at len t. sized_keep msg at t) (λ at len t. classifiers-other msg at t) (λ at len t. classifiers-more msg at t)
      (row_in msg 0 (length msg)) empty_table (refl, omega arith, refl, omega arith)
