-- Laws of `choice_of` (specs/Choose.antt).
--
--   get_or_there        the element at a place that is there does not depend on what stands beyond the end
--   taken_at          a place of the first n elements is one of all, with the same element, whatever stands beyond an end
--   rule_at_in, rule_at-out   the rule at a place that is used; at one that is not
--   choice_of_there    a chosen place is one of the table's
-- Trusts: nothing.
use mathlib.Core.Path.{◌≡◌, refl, sym, ◌∙◌}
use mathlib.Core.Bool.{Bool, true, false, cond}
use mathlib.Core.List.{List, [], ◌∷◌}
use Prim.Native.Nat.{ℕ, zero, suc, ◌≤◌, ◌<◌}
use native.Mathlib.Omega.{arith}
use lib.ListN.{length, get_or, take, get_or-eq_default}
use lib.Seq.{get_or-take}
use lib.Dec.{ltb}
use borrow.Author.Tests.{ltb-true}
use Rattle.table.specs.declared.Client.{Client}
use Rattle.table.specs.declared.Table.{Table}
use Rattle.table.specs.declared.Rule.{Rule}
use Rattle.table.specs.Table.{limited_to, rules_of, empty_rule}
use Rattle.table.proofs.Laws.{limited_to_le, length-rules_of}
use Rattle.choice.specs.Chose.{Choice, Chosen, Refused}
use Rattle.choice.specs.Choose.{Ucid, chosen_place, choice_of, rule_at}

pub get_or_there : {A : Type 0} (xs : List A) (k : ℕ) (d e : A) → k < length xs → get_or xs k d ≡ get_or xs k e
get_or_there [] k d e h = absurd (omega arith)
get_or_there (x ∷ xs) zero d e h = refl
get_or_there (x ∷ xs) (suc k) d e h = get_or_there xs k d e (omega arith)

pub taken_at : {A : Type 0} (xs : List A) (n k : ℕ) (d e : A) → k < n → k < length xs → get_or xs k d ≡ get_or (take n xs) k e
taken_at xs n k d e l h = get_or_there xs k d e h ∙ sym (get_or-take n xs k e l)

pub rule_at_in : (t : Table) (k : ℕ) (d : Rule) → k < limited_to 32 t.rulecount → length t.rules ≡ 32 → get_or t.rules k d ≡ rule_at t k
unfolding rules_of
rule_at_in t k d h l = taken_at t.rules (limited_to 32 t.rulecount) k d empty_rule h (omega (arith, limited_to_le 32 t.rulecount))

pub rule_at-out : (t : Table) (k : ℕ) → limited_to 32 t.rulecount ≤ k → length t.rules ≡ 32 → empty_rule ≡ rule_at t k
rule_at-out t k h l = sym (get_or-eq_default (rules_of t) empty_rule (omega (arith, length-rules_of t l)))

pub choice_of_there : (t : Table) (c : Client) (u : Ucid) (k : ℕ) → choice_of t c u ≡ Chosen k → k < length (rules_of t)
unfolding choice_of
choice_of_there t c u k e = go (ltb (chosen_place c u (rules_of t)) (length (rules_of t))) refl e
  where
    go : (b : Bool) → ltb (chosen_place c u (rules_of t)) (length (rules_of t)) ≡ b → cond {A = Choice} b (Chosen (chosen_place c u (rules_of t))) (Refused 17) ≡ Chosen k → k < length (rules_of t)
    go true eb ek =
        let same : chosen_place c u (rules_of t) ≡ k = cc in
        omega (arith, ltb-true (chosen_place c u (rules_of t)) (length (rules_of t)) eb)
    go false eb ek = let z : ◌≡◌ {A = ℕ} 0 1 = cc in omega arith
