-- The cuts one after the other (specs/Cuts.antt).
--
--   sum_to_rise, sum_to_mono      a piece, and any later one, ends where it begins or later
--   sum_to_cons       where the pieces behind a first one begin
--   cuts_from-all     cuts that may all be are good               cuts_from_past    past the sixteenth piece nothing is new
-- Trusts: nothing.
use Prim.Native.Nat.{ℕ, zero, suc, ◌+◌, ◌≤◌, ◌<◌}
use mathlib.Core.Path.{◌≡◌, refl}
use mathlib.Core.Logic.{⊎_elim}
use mathlib.Core.Bool.{true}
use mathlib.Core.List.{List, ◌∷◌}
use native.Mathlib.Omega.{arith}
use native.Mathlib.Nat.{eq-or-lt_of_le}
use lib.ListN.{get_or}
use Rattle.cuts.specs.Cuts.{all_good, may_cut, sum_to, cuts_from}

pub sum_to_rise : (lens : List ℕ) (k : ℕ) → sum_to lens k ≤ sum_to lens (suc k)
unfolding sum_to
sum_to_rise lens k = omega arith

pub sum_to_cons : (x : ℕ) (l : List ℕ) (k : ℕ) → sum_to (x ∷ l) (suc k) ≡ x + sum_to l k
unfolding sum_to
sum_to_cons x l zero = omega arith
sum_to_cons x l (suc k) = let i = sum_to_cons x l k in omega (arith, i)

pub sum_to_mono : (lens : List ℕ) (k j : ℕ) → k ≤ j → sum_to lens k ≤ sum_to lens j
sum_to_mono lens k zero l = let z : k ≡ 0 = omega arith in rw z (omega arith)
sum_to_mono lens k (suc j) l = ⊎_elim (λ (e : k ≡ suc j). rw e (omega arith)) (λ (m : k < suc j). omega (arith, sum_to_mono lens k j (omega arith), sum_to_rise lens j)) (eq-or-lt_of_le l)

pub cuts_from-all : (msg lens : List ℕ) (left k : ℕ) → ((j : ℕ) → k ≤ j → may_cut msg (sum_to lens (suc j)) ≡ true) → cuts_from msg lens k left ≡ all_good
unfolding cuts_from
cuts_from-all msg lens zero k all = refl
cuts_from-all msg lens (suc left) k all = rw (all k (omega arith)) (cuts_from-all msg lens left (suc k) (λ j q. all j (omega arith)))

-- pieces of no bytes cut where the one before was cut
pub cuts_from_past : (msg lens : List ℕ) (left k : ℕ) → ((j : ℕ) → k ≤ j → get_or lens j 0 ≡ 0) → may_cut msg (sum_to lens k) ≡ true → cuts_from msg lens k left ≡ all_good
unfolding cuts_from sum_to
cuts_from_past msg lens zero k empty may = refl
cuts_from_past msg lens (suc left) k empty may =
    let z = empty k (omega arith) in
    let s : sum_to lens k + get_or lens k 0 ≡ sum_to lens k = omega arith in
    rw (s, may) (cuts_from_past msg lens left (suc k) (λ j q. empty j (omega arith)) (rw s may))
