-- Best: the order in which rules and classifiers are preferred (document 01, "Choosing and judging").
--
--   comes_before p n q m     priority p and number n come before priority q and number m:
--                           the greater priority, among equals the smaller number
--   any_of ok xs             whether an element passes
--   first_place ok xs        the place of the first element that passes; the length where none does
--   best_place pr nu ok xs   the first place that passes and before whose element no passing one comes
--   within end k             a place that is before the end; none where it is not
--   is_better, best_after    the best so far, or none yet, and what it is after one more place
--   Ranks, Tells             calls give each element's priority and number; whether each passes
--
-- `pr` and `nu` give an element's priority and number. Both are numbers: 80 is above 9.
-- Tested by: message M in choice's proofs/Bench.antt; random tables against the other program.
-- Trusts: nothing.
use denote.Param.Members.{Shared}
use denote.Ref.{Bor}
use mathlib.Core.List.{Memᴰ}
use Rattle.std.specs.Prelude.{◌≡◌, ℕ, suc, Bool, true, false, cond, not, ◌&&◌, ◌||◌, List, [], ◌∷◌, ltb, eqb, Option, None, Some}
use Rattle.std.specs.Fn.{FnReturnsAt}
use Rattle.order.specs.declared.Best.{Best}

unfoldable pub comes_before : ℕ → ℕ → ℕ → ℕ → Bool
comes_before p n q m = ltb q p || (eqb p q && ltb n m)

module _ {A : Type 0} where
  unfoldable pub any_of : (A → Bool) → List A → Bool
  any_of ok [] = false
  any_of ok (x ∷ xs) = ok x || any_of ok xs

  unfoldable pub first_place : (A → Bool) → List A → ℕ
  first_place ok [] = 0
  first_place ok (x ∷ xs) = cond (ok x) 0 (suc (first_place ok xs))

  -- whether x passes and no passing element comes before it
  unfoldable pub is_best : (A → ℕ) → (A → ℕ) → (A → Bool) → List A → A → Bool
  is_best pr nu ok xs x = ok x && not (any_of (λ y. ok y && comes_before (pr y) (nu y) (pr x) (nu x)) xs)

  unfoldable pub best_place : (A → ℕ) → (A → ℕ) → (A → Bool) → List A → ℕ
  best_place pr nu ok xs = first_place (is_best pr nu ok xs) xs

-- the place k of a list that ends at `end`
unfoldable pub within : ℕ → ℕ → Option ℕ
within end k = cond (ltb k end) (Some k) None

unfoldable pub is_better : Option Best → ℕ → ℕ → Bool
is_better None p n = true
is_better (Some b) p n = comes_before p n b.priority b.number

-- the best after the place `at`, with priority p and number n, which passes or does not
unfoldable pub best_after : Option Best → ℕ → ℕ → ℕ → Bool → Option Best
best_after b at p n ok = cond (is_better b p n && ok) (Some (record { place = at; priority = p; number = n })) b

-- what the calls of f give at the elements of xs
module _ {F A : Type 0} where
  pub record Ranks (g : Shared F (Bor A × Unit {0}) (ℕ × ℕ)) (f : F) (pr nu : A → ℕ) (xs : List A) : Type 0 where
    pub rank : (x : A) (r : ℕ × ℕ) → Memᴰ x xs → FnReturnsAt g f x r → (r.0 ≡ pr x) × (r.1 ≡ nu x)

  pub record Tells (g : Shared F (Bor A × Unit {0}) Bool) (f : F) (ok : A → Bool) (xs : List A) : Type 0 where
    pub test : (x : A) (r : Bool) → Memᴰ x xs → FnReturnsAt g f x r → r ≡ ok x
