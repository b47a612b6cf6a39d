-- Laws of test 15's search (specs/Named.antt): one for each turn.
--
--   lone_rule, lone_end                    the rules from the i-th on: the numbers of that rule, then the later rules; none left
--   lone_answered, lone_number_lem, lone_done  a rule's numbers from the j-th on: carried, not carried, none left
--   carried_hit, carried_miss, carried_end   the classifiers from the k-th on: this one carries the number, another may, none is left
--   placed-nothing, placed-number          where what is found stands
-- Trusts: nothing.
use Prim.Native.Nat.{ℕ, ◌+◌, ◌≤◌, ◌<◌}
use mathlib.Core.Path.{◌≡◌, sym, ◌∙◌}
use mathlib.Core.Bool.{true, false, cond, ◌||◌}
use mathlib.Core.List.{List, map}
use native.Mathlib.Omega.{arith}
use borrow.Author.Tests.{eq-eqb, ne_eqb}
use lib.Dec.{eqb}
use lib.ListN.{length, drop, get_or}
use Rattle.table.specs.Table.{limited_to, rules_of, classifiers_of, numbers_of}
use Rattle.table.specs.declared.Rule.{Rule}
use Rattle.table.specs.declared.Classifier.{Classifier}
use Rattle.table.specs.declared.Table.{Table}
use Rattle.table.proofs.Laws.{limited_to_le}
use Rattle.listed.specs.Listed.{is_listed}
use Rattle.named.specs.Named.{Found, Nothing, Number, Answered, At, lone_in, lone_of, unanswered, named_place, lone_number}
use Rattle.named.proofs.Lists.{front-next, front-end}

-- the rules from the i-th on, of which there are so many as the count says
module _ (carried : List ℕ) (t : Table) (i : ℕ) {rules : ℕ} (n : rules ≡ limited_to 32 t.rulecount) where
  pub lone_rule : (d : Rule) → length t.rules ≡ 32 → i < rules
      → lone_in carried i 0 (drop 0 (numbers_of (get_or t.rules i d))) (lone_of carried (i + 1) (drop (i + 1) (rules_of t))) ≡ lone_of carried i (drop i (rules_of t))
  unfolding rules_of
  lone_rule d e h =
      let fits = limited_to_le 32 t.rulecount in
      rw (front-next t.rules d (limited_to 32 t.rulecount) i (omega arith) (omega arith))

  pub lone_end : rules ≤ i → Nothing ≡ lone_of carried i (drop i (rules_of t))
  unfolding rules_of
  lone_end h = rw (front-end t.rules (limited_to 32 t.rulecount) i (omega arith))

-- a rule's numbers from the j-th on, likewise
module _ (carried : List ℕ) (i : ℕ) (q : Rule) (j : ℕ) (later : Found) {numbers : ℕ} (n : numbers ≡ limited_to 8 q.numbercount) where
  lone_step : length q.numbers ≡ 8 → j < numbers
      → lone_in carried i j (drop j (numbers_of q)) later
      ≡ cond (is_listed (get_or q.numbers j 0) carried) (lone_in carried i (j + 1) (drop (j + 1) (numbers_of q)) later) (Number i j)
  unfolding numbers_of
  lone_step e h =
      let fits = limited_to_le 8 q.numbercount in
      rw (front-next q.numbers 0 (limited_to 8 q.numbercount) j (omega arith) (omega arith))

  pub lone_done : numbers ≤ j → later ≡ lone_in carried i j (drop j (numbers_of q)) later
  unfolding numbers_of
  lone_done h = rw (front-end q.numbers (limited_to 8 q.numbercount) j (omega arith))

  -- the j-th number, where a classifier carries it and where none does
  module _ (room : length q.numbers ≡ 8) (h : j < numbers) where
    pub lone_answered : is_listed (get_or q.numbers j 0) carried ≡ true
        → lone_in carried i (j + 1) (drop (j + 1) (numbers_of q)) later ≡ lone_in carried i j (drop j (numbers_of q)) later
    lone_answered y = sym (lone_step room h ∙ simp y)

    pub lone_number_lem : is_listed (get_or q.numbers j 0) carried ≡ false → Number i j ≡ lone_in carried i j (drop j (numbers_of q)) later
    lone_number_lem f = sym (lone_step room h ∙ simp f)

-- the numbers of the classifiers from the k-th on
abbrev pub carried_from : Table → ℕ → List ℕ
carried_from t k = map (λ q. q.number) (drop k (classifiers_of t))

module _ (t : Table) (number k : ℕ) {classifiers : ℕ} (n : classifiers ≡ limited_to 32 t.classifiercount) where
  module _ (d : Classifier) (room : length t.classifiers ≡ 32) (h : k < classifiers) where
    carried_step : is_listed number (carried_from t k) ≡ (eqb (get_or t.classifiers k d).number number || is_listed number (carried_from t (k + 1)))
    unfolding classifiers_of
    carried_step =
        let fits = limited_to_le 32 t.classifiercount in
        rw (front-next t.classifiers d (limited_to 32 t.classifiercount) k (omega arith) (omega arith))

    pub carried_hit : (get_or t.classifiers k d).number ≡ number → is_listed number (carried_from t k) ≡ true
    carried_hit e = carried_step ∙ rw (eq-eqb _ _ e)

    pub carried_miss : ((get_or t.classifiers k d).number ≡ number → ⊥) → is_listed number (carried_from t (k + 1)) ≡ is_listed number (carried_from t k)
    carried_miss e = sym (carried_step ∙ rw (ne_eqb _ _ e))

  pub carried_end : classifiers ≤ k → is_listed number (carried_from t k) ≡ false
  unfolding classifiers_of
  carried_end h = rw (front-end t.classifiers (limited_to 32 t.classifiercount) k (omega arith))

-- where what is found stands
module _ (msg : List ℕ) (t : Table) {found : Found} (e : found ≡ unanswered t) where
  pub placed-nothing : found ≡ Nothing → Answered ≡ lone_number msg t
  unfolding lone_number
  placed-nothing n = simp (← e, n)

  pub placed-number : {i j : ℕ} → found ≡ Number i j → {place : ℕ} → place ≡ named_place msg i j → At place ≡ lone_number msg t
  unfolding lone_number
  placed-number n p = simp (← e, n, p)
