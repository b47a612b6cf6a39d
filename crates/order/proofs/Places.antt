-- Laws of `any_of`, `first_place` and `best_place` (specs/Best.antt) by what is known of a list's members.
--
--   any_of_yes, any_of_no           a member passes; no member passes
--   first_place-at, first_place-none   the first that passes stands behind members that do not; no member passes
--   best_place-at                  x passes, comes before each passing member in front of it, and none behind it comes before x
--   best_place-none                no member passes
--   first_place_le, best_place_le   a place, or the length
--   within_some, within_none        what an answer of `within` says of the place
-- Trusts: nothing.
use mathlib.Core.Path.{◌≡◌, refl, sym, ap, ◌∙◌}
use mathlib.Core.Bool.{Bool, true, false, cond, not, ◌&&◌, ◌||◌}
use mathlib.Core.List.Memᴰ
use mathlib.Core.List.{List, [], ◌∷◌, ◌++◌, Memᴰ}
use mathlib.Core.Logic.{◌⊎◌, inl, inr}
use Prim.Native.Nat.{ℕ, suc, ◌≤◌, ◌<◌}
use native.Mathlib.Nat.{le_refl}
use native.Mathlib.Omega.{arith}
use lib.ListN.{length}
use lib.Dec.{ltb}
use borrow.Author.Tests.{ltb-true, ltb-false}
use Rattle.std.specs.Prelude.{None, Some}
use Rattle.std.proofs.lemmas.Option.{none-some}
use Rattle.order.specs.Best.{comes_before, any_of, first_place, is_best, best_place, within}
use Rattle.order.proofs.Order.{comes_before_self, comes_before_asym}

pub clash : {b : Bool} → b ≡ true → b ≡ false → ⊥
clash u v = let z : ◌≡◌ {A = ℕ} 0 1 = cc in omega arith

pub and_yes : (a b : Bool) → a && b ≡ true → (a ≡ true) × (b ≡ true)
and_yes true b e = (refl, e)
and_yes false b e = absurd (clash e refl)

pub or_no : (a b : Bool) → a || b ≡ false → (a ≡ false) × (b ≡ false)
or_no true b e = absurd (clash refl e)
or_no false b e = (refl, e)

module _ {A : Type 0} where
  pub any_of_yes : (ok : A → Bool) {y : A} (xs : List A) → Memᴰ y xs → ok y ≡ true → any_of ok xs ≡ true
  unfolding any_of
  any_of_yes ok [] h e = absurd (Memᴰ.not-nil h)
  any_of_yes ok {y} (x ∷ xs) h e = go (Memᴰ.cases_cons h) (λ (t : Memᴰ y xs). any_of_yes ok xs t e) (ok x) refl
    where
      go : (y ≡ x) ⊎ Memᴰ y xs → (Memᴰ y xs → any_of ok xs ≡ true) → (b : Bool) → ok x ≡ b → b || any_of ok xs ≡ true
      go k below true eb = refl
      go (inl k) below false eb = absurd (clash (sym (ap ok k) ∙ e) eb)
      go (inr k) below false eb = below k

  pub any_of_no : (ok : A → Bool) (xs : List A) → ((y : A) → Memᴰ y xs → ok y ≡ false) → any_of ok xs ≡ false
  unfolding any_of
  any_of_no ok [] h = refl
  any_of_no ok (x ∷ xs) h = rw (h x (Memᴰ.head refl)) (any_of_no ok xs (λ y t. h y (Memᴰ.tail t)))

  pub first_place-at : (ok : A → Bool) (pre : List A) (x : A) (post : List A) → ((y : A) → Memᴰ y pre → ok y ≡ false) → ok x ≡ true → first_place ok (pre ++ (x ∷ post)) ≡ length pre
  unfolding first_place
  first_place-at ok [] x post h e = rw e
  first_place-at ok (y ∷ pre) x post h e = rw (h y (Memᴰ.head refl)) (ap suc (first_place-at ok pre x post (λ z t. h z (Memᴰ.tail t)) e))

  pub first_place-none : (ok : A → Bool) (xs : List A) → ((y : A) → Memᴰ y xs → ok y ≡ false) → first_place ok xs ≡ length xs
  unfolding first_place
  first_place-none ok [] h = refl
  first_place-none ok (x ∷ xs) h = rw (h x (Memᴰ.head refl)) (ap suc (first_place-none ok xs (λ y t. h y (Memᴰ.tail t))))

  pub first_place_le : (ok : A → Bool) (xs : List A) → first_place ok xs ≤ length xs
  unfolding first_place
  first_place_le ok [] = le_refl 0
  first_place_le ok (x ∷ xs) = go (ok x) (first_place_le ok xs)
    where
      go : (b : Bool) → first_place ok xs ≤ length xs → cond b 0 (suc (first_place ok xs)) ≤ suc (length xs)
      go true h = omega arith
      go false h = omega arith

module _ {A : Type 0} (pr nu : A → ℕ) (ok : A → Bool) where
  abbrev before : A → A → Bool
  before x y = comes_before (pr x) (nu x) (pr y) (nu y)

  pub best_place_le : (xs : List A) → best_place pr nu ok xs ≤ length xs
  unfolding best_place
  best_place_le xs = first_place_le (is_best pr nu ok xs) xs

  pub best_place-none : (xs : List A) → ((y : A) → Memᴰ y xs → ok y ≡ false) → best_place pr nu ok xs ≡ length xs
  unfolding best_place is_best
  best_place-none xs h = first_place-none (is_best pr nu ok xs) xs (λ y t. rw (h y t))

  module _ (pre : List A) (x : A) (post : List A) (e : ok x ≡ true)
      (front : (y : A) → Memᴰ y pre → ok y ≡ true → before x y ≡ true)
      (behind : (y : A) → Memᴰ y post → ok y ≡ true → before y x ≡ false) where
    abbrev all : List A
    all = pre ++ (x ∷ post)

    not_front : (y : A) → Memᴰ y pre → is_best pr nu ok all y ≡ false
    unfolding is_best
    not_front y h = go (ok y) refl
      where
        go : (b : Bool) → ok y ≡ b → b && not (any_of (λ z. ok z && before z y) all) ≡ false
        go false eb = refl
        go true eb = rw (any_of_yes (λ z. ok z && before z y) {y = x} all (Memᴰ.append_right pre (Memᴰ.head refl)) (simp (e, front y h eb)))

    beaten : (y : A) → Memᴰ y all → ok y && before y x ≡ false
    beaten y h = go (ok y) refl (Memᴰ.append_cases pre h)
      where
        there : ok y ≡ true → (y ≡ x) ⊎ Memᴰ y post → before y x ≡ false
        there eb (inl k) = ap (λ (z : A). before z x) k ∙ comes_before_self (pr x) (nu x)
        there eb (inr k) = behind y k eb

        go : (b : Bool) → ok y ≡ b → Memᴰ y pre ⊎ Memᴰ y (x ∷ post) → b && before y x ≡ false
        go false eb k = refl
        go true eb (inl k) = comes_before_asym (pr x) (nu x) (pr y) (nu y) (front y k eb)
        go true eb (inr k) = there eb (Memᴰ.cases_cons k)

    pub best_place-at : best_place pr nu ok (pre ++ (x ∷ post)) ≡ length pre
    unfolding best_place is_best
    best_place-at =
        first_place-at (is_best pr nu ok all) pre x post not_front (simp (e, any_of_no (λ z. ok z && before z x) all beaten))

pub within_some : (end k j : ℕ) → Some j ≡ within end k → (k ≡ j) × (j < end)
unfolding within
within_some end k j e = go (ltb k end) refl e
  where
    go : (b : Bool) → ltb k end ≡ b → Some j ≡ cond b (Some k) None → (k ≡ j) × (j < end)
    go true eb es = let same : k ≡ j = cc in (same, omega (arith, ltb-true k end eb))
    go false eb es = absurd (none-some j (sym es))

pub within_none : (end k : ℕ) → None ≡ within end k → end ≤ k
unfolding within
within_none end k e = go (ltb k end) refl e
  where
    go : (b : Bool) → ltb k end ≡ b → None ≡ cond b (Some k) None → end ≤ k
    go true eb es = absurd (none-some k es)
    go false eb es = ltb-false k end eb
