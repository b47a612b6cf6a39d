-- Laws of the look-up (specs/Places.antt): one place looked at.
--
--   stands_row, stands_other   the type there is of the row asked, so its number decides; it is of another row
--   placeIn-..   the place is the one (-here), another (-other); no place is left (-none)
--   one_more     how many places are left, one being looked at
-- Trusts: nothing.
use mathlib.Core.Path.{◌≡◌, refl, ◌∙◌}
use mathlib.Core.Bool.{Bool, true, false, cond, ◌&&◌}
use Prim.Native.Nat.{ℕ, suc, ◌+◌, ◌-◌, ◌<◌}
use native.Mathlib.Omega.{arith}
use borrow.Author.Tests.{eq-eqb, ne_eqb}
use lib.Dec.{eqb}
use Rattle.types.specs.Places.{line_at, place_in}

module _ (i : ℕ) where
  module _ (p t : ℕ) {q : ℕ} (e : q ≡ (line_at i).parent) where
    pub stands_row : {k : ℕ} → k ≡ (line_at i).kind → q ≡ p → eqb k t ≡ (eqb (line_at i).parent p && eqb (line_at i).kind t)
    stands_row f a = simp (← e, ← f, eq-eqb _ _ a)

    pub stands_other : (q ≡ p → ⊥) → eqb q p ≡ (eqb (line_at i).parent p && eqb (line_at i).kind t)
    stands_other a = simp (← e, ne_eqb _ _ a)

-- no place left
pub place_in_none : (i after p t : ℕ) → after - i ≡ 0 → 26 ≡ place_in i (after - i) p t
unfolding place_in
place_in_none i after p t e = rw e refl

module _ (i after : ℕ) (h : i < after) where
  pub one_more : after - i ≡ suc (after - (i + 1))
  one_more = omega arith

  module _ (p t : ℕ) {b : Bool} (e : b ≡ (eqb (line_at i).parent p && eqb (line_at i).kind t)) where
    place_in_suc : place_in i (after - i) p t ≡ cond b i (place_in (i + 1) (after - (i + 1)) p t)
    unfolding place_in
    place_in_suc = rw (one_more, e) refl

    pub place_in_here : b ≡ true → place_in i (after - i) p t ≡ i
    place_in_here y = place_in_suc ∙ rw y refl

    pub place_in_other : b ≡ false → place_in i (after - i) p t ≡ place_in (i + 1) (after - (i + 1)) p t
    place_in_other n = place_in_suc ∙ rw n refl
