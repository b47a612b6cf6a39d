-- Laws of `any_of` (specs/Best.antt) for a loop over the first `n` places of a list, at place `i`.
--
--   any_of_found    the element at `i` passes: the rest from `i` has one that passes
--   any_of_passed   it does not: the rest from `i` has one where the rest from `i + 1` has one
--   any_of_end      no place is left: none passes
--   any_of_skip     it does not, or its place is not among the first `n`: as any_of_passed
--   any_of_listed   the library's word for the same, of a test that gives the same
--   eqb_turned      the test whether two numbers are the same, the other way round
-- Trusts: nothing.
use mathlib.Core.Path.{◌≡◌, refl, sym, ap, ◌∙◌}
use mathlib.Core.Bool.{Bool, true, false, ◌||◌}
use mathlib.Core.List.{List, [], ◌∷◌}
use Prim.Native.Nat.{ℕ, suc, ◌+◌, ◌-◌, ◌≤◌, ◌<◌}
use native.Mathlib.Omega.{arith}
use native.Mathlib.Numerals.{add-one}
use lib.Dec.{ltb, eqb}
use borrow.Author.Tests.{ltb-true, ltb-false, eqb-true, eqb-false, eq-eqb, ne_eqb}
use lib.ListN.{length, take, drop, get_or}
use lib.Seq.{drop-cons}
use Rattle.std.specs.List.{list_any}
use Rattle.order.specs.Best.{any_of}

module _ {A : Type 0} (ok : A → Bool) (xs : List A) (d : A) (n i : ℕ) (h : i < n) (k : i < length xs) where
  step : any_of ok (take (n - i) (drop i xs)) ≡ ok (get_or xs i d) || any_of ok (take (n - (i + 1)) (drop (i + 1) xs))
  unfolding any_of
  step =
      let e : n - i ≡ suc (n - (i + 1)) = omega arith in
      rw (e, drop-cons xs i d k) (ap (λ (j : ℕ). ok (get_or xs i d) || any_of ok (take (n - (i + 1)) (drop j xs))) (sym (add-one i)))

  pub any_of_found : ok (get_or xs i d) ≡ true → any_of ok (take (n - i) (drop i xs)) ≡ true
  any_of_found e = step ∙ simp e

  pub any_of_passed : ok (get_or xs i d) ≡ false → any_of ok (take (n - i) (drop i xs)) ≡ any_of ok (take (n - (i + 1)) (drop (i + 1) xs))
  any_of_passed e = step ∙ simp e

pub any_of_end : {A : Type 0} (ok : A → Bool) (xs : List A) (n i : ℕ) → n ≤ i → any_of ok (take (n - i) xs) ≡ false
unfolding any_of
any_of_end ok xs n i h =
    let e : n - i ≡ 0 = omega arith in
    simp e

module _ {A : Type 0} (ok : A → Bool) (xs : List A) (d : A) (n i : ℕ) (k : i < length xs) where
  pub any_of_skip : ok (get_or xs i d) ≡ false → any_of ok (take (n - i) (drop i xs)) ≡ any_of ok (take (n - (i + 1)) (drop (i + 1) xs))
  any_of_skip e = go (ltb i n) refl
    where
      go : (b : Bool) → ltb i n ≡ b → any_of ok (take (n - i) (drop i xs)) ≡ any_of ok (take (n - (i + 1)) (drop (i + 1) xs))
      go true h = any_of_passed ok xs d n i (ltb-true i n h) k e
      go false h =
          let l : n ≤ i = ltb-false i n h in
          any_of_end ok (drop i xs) n i l ∙ sym (any_of_end ok (drop (i + 1) xs) n (i + 1) (omega arith))

pub any_of_listed : {A : Type 0} (test ok : A → Bool) (xs : List A) → ((x : A) → test x ≡ ok x) → list_any test xs ≡ any_of ok xs
unfolding any_of
any_of_listed test ok [] same = refl
any_of_listed test ok (x ∷ xs) same = rw (same x, any_of_listed test ok xs same)

pub eqb_turned : (a b : ℕ) → eqb a b ≡ eqb b a
eqb_turned a b = go (eqb b a) refl
  where
    go : (t : Bool) → eqb b a ≡ t → eqb a b ≡ t
    go true e = eq-eqb a b (sym (eqb-true b a e))
    go false e = ne_eqb a b (λ h. eqb-false b a e (sym h))
