-- Laws of a loop over all places of an array, of which the first n are used (specs/Entries.antt).
--
--   Passed used unused limit n l fit i   i places of the array l are passed, and `fit` says whether each of them is as it must be
--   passed_none, passed-more, passed-end   before the first place; one more is passed; behind the last
--   fits-any                               where a used place may hold anything
-- Trusts: nothing.
use Prim.Native.Nat.{ℕ, suc, ◌+◌, ◌-◌, ◌≤◌, ◌<◌}
use mathlib.Core.Path.{◌≡◌, refl, sym, ap, ◌∙◌}
use mathlib.Core.Bool.{Bool, true, false, cond, ◌&&◌, and_assoc, and-true}
use mathlib.Core.List.{List, [], ◌∷◌}
use native.Mathlib.Nat.{sub-zero}
use native.Mathlib.Omega.{arith}
use native.Mathlib.Numerals.{add-one}
use borrow.Author.Tests.{ltb-true, ltb-false}
use lib.Dec.{ltb}
use lib.ListN.{length, take, drop, get_or, drop_of_length-le}
use lib.Seq.{drop-cons, take-nil, drop-nil}
use Rattle.writing_entries.specs.Entries.{all_of, list_fits}

module _ {A : Type 0} (used unused : A → Bool) where
  -- list_fits of the places from the i-th on, which hold l, place by place
  abbrev pub placed : ℕ → ℕ → List A → Bool
  placed n i [] = true
  placed n i (x ∷ xs) = cond (ltb i n) (used x) (unused x) && placed n (i + 1) xs

  fits_nil : (n : ℕ) → true ≡ list_fits used unused n []
  unfolding all_of
  fits_nil n = simp (drop-nil {A = A}, take-nil {A = A})

  fits_used : (n : ℕ) (x : A) (xs : List A) → used x && list_fits used unused n xs ≡ list_fits used unused (suc n) (x ∷ xs)
  unfolding all_of
  fits_used n x xs = on (used x) (all_of unused (drop n xs)) (all_of used (take n xs))
    where
      on : (a b c : Bool) → a && (b && c) ≡ b && (a && c)
      on true b c = refl
      on false true c = refl
      on false false c = refl

  fits_unused : (x : A) (xs : List A) → unused x && list_fits used unused 0 xs ≡ list_fits used unused 0 (x ∷ xs)
  unfolding all_of
  fits_unused x xs = sym (and_assoc (unused x) (all_of unused xs) true)

  placed-fits : (n i : ℕ) (l : List A) → placed n i l ≡ list_fits used unused (n - i) l
  placed-fits n i [] = fits_nil (n - i)
  placed-fits n i (x ∷ xs) = on (ltb i n) refl (placed-fits n (i + 1) xs)
    where
      on : (b : Bool) → ltb i n ≡ b → placed n (i + 1) xs ≡ list_fits used unused (n - (i + 1)) xs → cond b (used x) (unused x) && placed n (i + 1) xs ≡ list_fits used unused (n - i) (x ∷ xs)
      on true y e =
          let h = ltb-true i n y in
          let k : n - i ≡ suc (n - (i + 1)) = omega arith in
          rw (e, k) (fits_used (n - (i + 1)) x xs)
      on false y e =
          let h = ltb-false i n y in
          let k : n - i ≡ 0 = omega arith in
          let m : n - (i + 1) ≡ 0 = omega arith in
          rw (e, k, m) (fits_unused x xs)

  pub record Passed (limit n : ℕ) (l : List A) (fit : Bool) (i : ℕ) : Type 0 where
    pub small : i ≤ limit
    pub room : length l ≡ limit
    pub rest : fit && placed n i (drop i l) ≡ list_fits used unused n l

module _ {A : Type 0} {used unused : A → Bool} {limit n : ℕ} {l : List A} where
  pub passed_none : length l ≡ limit → Passed used unused limit n l true 0
  passed_none e =
      record { small = omega arith; room = e; rest = placed-fits used unused n 0 l ∙ ap (λ (k : ℕ). list_fits used unused k l) (sub-zero n) }

  module _ {fit : Bool} {i : ℕ} (p : Passed used unused limit n l fit i) where
    pub passed-more : i < limit → (d : A) → {x : Bool} → x ≡ cond (ltb i n) (used (get_or l i d)) (unused (get_or l i d)) → Passed used unused limit n l (fit && x) (i + 1)
    passed-more h d {x} e =
        let k : i < length l = omega arith in
        let y = cond (ltb i n) (used (get_or l i d)) (unused (get_or l i d)) in
        let next = placed used unused n (i + 1) in
        let here : fit && (y && next (drop (suc i) l)) ≡ list_fits used unused n l = rw (drop-cons l i d k) at p.rest in
        record {
          small = omega arith;
          room = p.room;
          rest = rw e (and_assoc fit y (next (drop (i + 1) l)) ∙ ap (λ (j : ℕ). fit && (y && next (drop j l))) (add-one i) ∙ here);
        }

    pub passed-end : limit ≤ i → fit ≡ list_fits used unused n l
    passed-end h = let k : length l ≤ i = omega arith in sym (and-true fit) ∙ rw (drop_of_length-le l k) at p.rest

any : {A : Type 0} (l : List A) → all_of (λ x. true) l ≡ true
unfolding all_of
any [] = refl
any (x ∷ l) = any l

-- a used place may hold anything
pub fits-any : {A : Type 0} (unused : A → Bool) (n : ℕ) (l : List A) → list_fits (λ x. true) unused n l ≡ all_of unused (drop n l)
fits-any unused n l = ap (λ (b : Bool). all_of unused (drop n l) && b) (any (take n l)) ∙ and-true (all_of unused (drop n l))
