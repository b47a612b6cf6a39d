-- Laws of the musts (specs/Musts.antt): one place looked at.
--
--   lacks_count, lacks_free    the type there is a must, so its count decides; it is none
--   lacksIn-..   its must is missing (-here), is not (-other); no place is left (-none)
-- Trusts: nothing.
use mathlib.Core.Path.{◌≡◌, refl, ◌∙◌}
use mathlib.Core.Bool.{Bool, true, false, ◌&&◌, ◌||◌}
use mathlib.Core.List.{List}
use Prim.Native.Nat.{ℕ, ◌+◌, ◌-◌, ◌<◌}
use lib.Dec.{eqb}
use lib.ListN.{get_or}
use Rattle.types.specs.Places.{line_at}
use Rattle.types.proofs.LawsPlaces.{one_more}
use Rattle.musts.specs.Musts.{lacks_in}

module _ (i : ℕ) (counts : List ℕ) (l : ℕ) {n : Bool} (e : n ≡ (line_at i).need) where
  pub lacks_count : n ≡ true → eqb (get_or counts l 0) 0 ≡ ((line_at i).need && eqb (get_or counts l 0) 0)
  lacks_count y = simp (← e, y)

  pub lacks_free : n ≡ false → n ≡ ((line_at i).need && eqb (get_or counts l 0) 0)
  lacks_free y = simp (← e, y)

-- no place left
pub lacks_in-none : (first i after : ℕ) (counts : List ℕ) → after - i ≡ 0 → false ≡ lacks_in first i (after - i) counts
unfolding lacks_in
lacks_in-none first i after counts e = rw e refl

module _ (i after : ℕ) (h : i < after) (first : ℕ) (counts : List ℕ) {b : Bool} (e : b ≡ ((line_at i).need && eqb (get_or counts (i - first) 0) 0)) where
  lacks_in-suc : lacks_in first i (after - i) counts ≡ (b || lacks_in first (i + 1) (after - (i + 1)) counts)
  unfolding lacks_in
  lacks_in-suc = rw (one_more i after h, e) refl

  pub lacks_in-here : b ≡ true → lacks_in first i (after - i) counts ≡ true
  lacks_in-here y = lacks_in-suc ∙ rw y refl

  pub lacks_in-other : b ≡ false → lacks_in first i (after - i) counts ≡ lacks_in first (i + 1) (after - (i + 1)) counts
  lacks_in-other n = lacks_in-suc ∙ rw n refl
