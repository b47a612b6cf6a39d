-- What is known of `first_place` and `best_place` (specs/Best.antt) place by place.
--
--   mem_at, place_of                    the element at a place is a member; a member stands at a place
--   first_place_is, first_place-before    the first place that passes does; none before it does
--   best_place_passes, -over, -first     the best place passes, no passing element comes before it, and none in front of it is its equal
--   best_place_only                      a place of which that is known is the best place
-- Trusts: nothing.
use mathlib.Core.Path.{◌≡◌, refl, sym, ap, ◌∙◌}
use mathlib.Core.Bool.{Bool, true, false, cond, ◌&&◌}
use mathlib.Core.List.Memᴰ
use mathlib.Core.List.{List, [], ◌∷◌, ◌++◌, Memᴰ}
use mathlib.Core.Logic.{◌⊎◌, inl, inr}
use Prim.Native.Nat.{ℕ, zero, suc, ◌+◌, ◌≤◌, ◌<◌}
use native.Mathlib.Omega.{arith}
use lib.Dec.{ltb}
use lib.ListN.{length, get_or, take, drop, length-take, length-drop}
use lib.Seq.{split_at, get_or-take, get_or-drop, length-take-le}
use borrow.Author.Tests.{ltb-true, ltb-false, not-true}
use Rattle.order.specs.Best.{comes_before, any_of, first_place, is_best, best_place}
use Rattle.order.proofs.Places.{clash, and_yes, any_of_yes, best_place-at}

module _ {A : Type 0} (d : A) where
  pub mem_at : (xs : List A) (k : ℕ) → k < length xs → Memᴰ (get_or xs k d) xs
  mem_at [] k h = absurd (omega arith)
  mem_at (x ∷ xs) zero h = Memᴰ.head refl
  mem_at (x ∷ xs) (suc k) h = Memᴰ.tail (mem_at xs k (omega arith))

  pub place_of : (xs : List A) {y : A} → Memᴰ y xs → (k : ℕ) × (k < length xs) × (get_or xs k d ≡ y)
  place_of [] m = absurd (Memᴰ.not-nil m)
  place_of (x ∷ xs) {y} m = go (Memᴰ.cases_cons m) (λ (t : Memᴰ y xs). place_of xs t)
    where
      go : (y ≡ x) ⊎ Memᴰ y xs → (Memᴰ y xs → (k : ℕ) × (k < length xs) × (get_or xs k d ≡ y)) → (k : ℕ) × (k < length (x ∷ xs)) × (get_or (x ∷ xs) k d ≡ y)
      go (inl e) below = (0, omega arith, sym e)
      go (inr t) below = let p = below t in (suc p.0, omega (arith, p.1), p.2)

  pub first_place_is : (ok : A → Bool) (xs : List A) → first_place ok xs < length xs → ok (get_or xs (first_place ok xs) d) ≡ true
  unfolding first_place
  first_place_is ok [] h = absurd (omega arith)
  first_place_is ok (x ∷ xs) h = go (ok x) refl h (first_place_is ok xs)
    where
      go : (b : Bool) → ok x ≡ b → cond b 0 (suc (first_place ok xs)) < suc (length xs) → (first_place ok xs < length xs → ok (get_or xs (first_place ok xs) d) ≡ true)
          → ok (get_or (x ∷ xs) (cond b 0 (suc (first_place ok xs))) d) ≡ true
      go true e l below = e
      go false e l below = below (omega arith)

  pub first_place-before : (ok : A → Bool) (xs : List A) (j : ℕ) → j < first_place ok xs → ok (get_or xs j d) ≡ false
  unfolding first_place
  first_place-before ok [] j h = absurd (omega arith)
  first_place-before ok (x ∷ xs) j h = go (ok x) refl j h (first_place-before ok xs)
    where
      go : (b : Bool) → ok x ≡ b → (j : ℕ) → j < cond b 0 (suc (first_place ok xs)) → ((j : ℕ) → j < first_place ok xs → ok (get_or xs j d) ≡ false) → ok (get_or (x ∷ xs) j d) ≡ false
      go true e j l below = absurd (omega arith)
      go false e zero l below = e
      go false e (suc j) l below = below j (omega arith)

  module _ (pr nu : A → ℕ) (ok : A → Bool) (xs : List A) where
    abbrev at : ℕ → A
    at j = get_or xs j d

    abbrev before : A → A → Bool
    before x y = comes_before (pr x) (nu x) (pr y) (nu y)

    -- what is known of a best element
    best_passes : (x : A) → is_best pr nu ok xs x ≡ true → ok x ≡ true
    unfolding is_best
    best_passes x e = (and_yes (ok x) _ e).0

    best_over : (x : A) → is_best pr nu ok xs x ≡ true → (y : A) → Memᴰ y xs → ok y ≡ true → before y x ≡ false
    unfolding is_best
    best_over x e y m ey = go (before y x) refl
      where
        go : (b : Bool) → before y x ≡ b → before y x ≡ false
        go false eb = eb
        go true eb =
            absurd (clash (any_of_yes (λ z. ok z && before z x) {y = y} xs m (simp (ey, eb))) (not-true (any_of (λ z. ok z && before z x) xs) (and_yes (ok x) _ e).1))

    module _ (h : best_place pr nu ok xs < length xs) where
      abbrev best : ℕ
      best = best_place pr nu ok xs

      is : is_best pr nu ok xs (at best) ≡ true
      unfolding best_place
      is = first_place_is (is_best pr nu ok xs) xs h

      pub best_place_passes : ok (get_or xs best d) ≡ true
      best_place_passes = best_passes (at best) is

      pub best_place_over : (j : ℕ) → j < length xs → ok (get_or xs j d) ≡ true → before (get_or xs j d) (get_or xs best d) ≡ false
      best_place_over j l e = best_over (at best) is (at j) (mem_at xs j l) e

      pub best_place-first : (j : ℕ) → ok (get_or xs j d) ≡ true → pr (get_or xs j d) ≡ pr (get_or xs best d) → nu (get_or xs j d) ≡ nu (get_or xs best d) → best ≤ j
      unfolding best_place is_best
      best_place-first j e ep en = go (ltb j best) refl
        where
          alike : is_best pr nu ok xs (at j) ≡ is_best pr nu ok xs (at best)
          alike = rw (ep, en, e, best_place_passes)

          go : (b : Bool) → ltb j best ≡ b → best ≤ j
          go false eb = ltb-false j best eb
          go true eb = absurd (clash (alike ∙ is) (first_place-before (is_best pr nu ok xs) xs j (ltb-true j best eb)))

    module _ (k : ℕ) (h : k < length xs) (e : ok (at k) ≡ true)
        (over : (j : ℕ) → j < length xs → ok (at j) ≡ true → before (at j) (at k) ≡ false)
        (front : (j : ℕ) → j < k → ok (at j) ≡ true → before (at k) (at j) ≡ true) where
      pub best_place_only : best_place pr nu ok xs ≡ k
      best_place_only =
          let split : xs ≡ take k xs ++ (at k ∷ drop (suc k) xs) = split_at xs k d h in
          let long : length (take k xs) ≡ k = length-take-le k xs (omega arith) in
          ap (best_place pr nu ok) split ∙ best_place-at pr nu ok (take k xs) (at k) (drop (suc k) xs) e ahead behind ∙ long
        where
          ahead : (y : A) → Memᴰ y (take k xs) → ok y ≡ true → before (at k) y ≡ true
          ahead y m ey =
              let p = place_of (take k xs) m in
              let l : p.0 < k = omega (arith, p.1, length-take k xs) in
              let ey' : at p.0 ≡ y = sym (get_or-take k xs p.0 d l) ∙ p.2 in
              rw ey' at (front p.0 l (ap ok ey' ∙ ey))

          behind : (y : A) → Memᴰ y (drop (suc k) xs) → ok y ≡ true → before y (at k) ≡ false
          behind y m ey =
              let p = place_of (drop (suc k) xs) m in
              let l : suc k + p.0 < length xs = omega (arith, p.1, length-drop (suc k) xs) in
              let ey' : at (suc k + p.0) ≡ y = sym (get_or-drop (suc k) xs p.0 d) ∙ p.2 in
              rw ey' at (over (suc k + p.0) l (ap ok ey' ∙ ey))
