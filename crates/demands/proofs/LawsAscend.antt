-- Places of a row ascend, and what stands in one element stands before the next.
--
--   Ascending lo hi l   the places of l ascend; they are lo or more, and below hi
--   ascending_behind    what follows a place in such a list is greater
--   places_ascend       the elements of one type in a row
--   inside-after        a 50.6 stands behind its 50
--   Apart msg l         of two 50s of the list, every 50.6 of the first stands before the second
--   places_apart        the top-level 50s are such a list       apart-behind   what that says of a place of the list
-- Trusts: nothing.
use Prim.Native.Nat.{ℕ, zero, suc, ◌+◌, ◌-◌, ◌≤◌, ◌<◌}
use mathlib.Core.Path.{◌≡◌, refl}
use mathlib.Core.Bool.{Bool, true, false, cond}
use mathlib.Core.List.Memᴰ
use mathlib.Core.List.{List, [], ◌∷◌, ◌++◌, Memᴰ}
use mathlib.Core.Logic.{⊎_elim}
use native.Mathlib.Omega.{arith}
use lib.ListN.{length}
use lib.Dec.{eqb}
use Rattle.elements.specs.Elements.{Head, End, Refused, Value, head_at}
use Rattle.elements.proofs.Laws.{head_at-fits}
use Rattle.children.specs.Rows.{row_with, row_from, row_in, row_of_head, row_inside, type_at, places_of}

abbrev pub Ascending : ℕ → ℕ → List ℕ → Type 0
Ascending lo hi [] = lo ≤ hi
Ascending lo hi (x ∷ l) = (lo ≤ x) × Ascending (x + 1) hi l

ascending_from : (lo from hi : ℕ) (l : List ℕ) → lo ≤ from → Ascending from hi l → Ascending lo hi l
ascending_from lo from hi [] h a = omega arith
ascending_from lo from hi (x ∷ l) h a = (omega (arith, a.0), a.1)

ascending_le : (lo hi : ℕ) (l : List ℕ) → Ascending lo hi l → lo ≤ hi
ascending_le lo hi [] a = a
ascending_le lo hi (x ∷ l) a = omega (arith, a.0, ascending_le (x + 1) hi l a.1)

pub ascending_bounds : (lo hi : ℕ) (l : List ℕ) (x : ℕ) → Ascending lo hi l → Memᴰ x l → (lo ≤ x) × (x < hi)
ascending_bounds lo hi [] x a m = absurd (Memᴰ.not-nil m)
ascending_bounds lo hi (y ∷ l) x a m =
    ⊎_elim (λ (z : x ≡ y). first z) (λ (k : Memᴰ x l). later (ascending_bounds (y + 1) hi l x a.1 k)) (Memᴰ.cases_cons m)
  where
    first : x ≡ y → (lo ≤ x) × (x < hi)
    first z = let s = ascending_le (y + 1) hi l a.1 in (omega (arith, a.0), omega arith)

    later : (y + 1 ≤ x) × (x < hi) → (lo ≤ x) × (x < hi)
    later b = (omega (arith, a.0), b.1)

pub ascending_behind : (lo hi : ℕ) (xs : List ℕ) (y : ℕ) (ys : List ℕ) (z : ℕ) → Ascending lo hi (xs ++ (y ∷ ys)) → Memᴰ z ys → y < z
ascending_behind lo hi [] y ys z a m = let b = ascending_bounds (y + 1) hi ys z a.1 m in omega arith
ascending_behind lo hi (x ∷ xs) y ys z a m = ascending_behind (x + 1) hi xs y ys z a.1 m

pub places_ascend : (left : ℕ) (msg : List ℕ) (kind at end : ℕ) → at ≤ end → Ascending at end (places_of msg kind (row_from left msg at end))
unfolding row_from
places_ascend zero msg kind at end h = h
places_ascend (suc left) msg kind at end h = on (head_at msg at end) refl (λ next k. places_ascend left msg kind next end k)
  where
    pick : (b : Bool) (from : ℕ) (l : List ℕ) → at + 1 ≤ from → Ascending from end l → Ascending at end (cond b (at ∷ l) l)
    pick true from l k a = (omega arith, ascending_from (at + 1) from end l k a)
    pick false from l k a = ascending_from at from end l (omega arith) a

    on : (x : Head) → head_at msg at end ≡ x → ((next : ℕ) → next ≤ end → Ascending next end (places_of msg kind (row_from left msg next end)))
        → Ascending at end (places_of msg kind (row_with (λ next. row_from left msg next end) at x))
    on End e rest = h
    on (Refused n) e rest = h
    on (Value len) e rest =
        pick (eqb (type_at msg at) kind) (at + 2 + len) (places_of msg kind (row_from left msg (at + 2 + len) end)) (omega arith) (rest (at + 2 + len) (head_at-fits msg at end e).0)

module _ (msg : List ℕ) where
  -- the 50.6 of a 50 lie in its value
  inside_ascend : (at len : ℕ) → head_at msg at (length msg) ≡ Value len → Ascending (at + 2) (at + 2 + len) (places_of msg 6 (row_inside msg at))
  unfolding row_inside row_in
  inside_ascend at len e = rw e (places_ascend _ msg 6 (at + 2) (at + 2 + len) (omega arith))

  -- and so they stand in ascending order, wherever it ends
  pub inside_ascends : (at : ℕ) → (hi : ℕ) × Ascending (at + 1) hi (places_of msg 6 (row_inside msg at))
  unfolding row_inside row_in
  inside_ascends at = on (head_at msg at (length msg))
    where
      on : (x : Head) → (hi : ℕ) × Ascending (at + 1) hi (places_of msg 6 (row_of_head msg at x))
      on End = (at + 1, omega arith)
      on (Refused n) = (at + 1, omega arith)
      on (Value len) =
          let left = at + 2 + len - (at + 2) in
          let places = places_of msg 6 (row_from left msg (at + 2) (at + 2 + len)) in
          let ascend = places_ascend left msg 6 (at + 2) (at + 2 + len) (omega arith) in
          (at + 2 + len, ascending_from (at + 1) (at + 2) (at + 2 + len) places (omega arith) ascend)

  pub inside-after : (at x : ℕ) → Memᴰ x (places_of msg 6 (row_inside msg at)) → at < x
  inside-after at x m = let a = inside_ascends at in let b = ascending_bounds (at + 1) a.0 (places_of msg 6 (row_inside msg at)) x a.1 m in omega arith

  abbrev pub Apart : List ℕ → Type 0
  Apart [] = Unit
  Apart (p ∷ ps) = ((q x : ℕ) → Memᴰ q ps → Memᴰ x (places_of msg 6 (row_inside msg p)) → x < q) × Apart ps

  pub apart-behind : (xs : List ℕ) (p : ℕ) (ps : List ℕ) (q x : ℕ) → Apart (xs ++ (p ∷ ps)) → Memᴰ q ps → Memᴰ x (places_of msg 6 (row_inside msg p)) → x < q
  apart-behind [] p ps q x a m k = a.0 q x m k
  apart-behind (y ∷ xs) p ps q x a m k = apart-behind xs p ps q x a.1 m k

  pub places_apart : (left at : ℕ) → Apart (places_of msg 50 (row_from left msg at (length msg)))
  unfolding row_from
  places_apart zero at = tt
  places_apart (suc left) at = on (head_at msg at (length msg)) refl (λ next. places_apart left next)
    where
      on : (x : Head) → head_at msg at (length msg) ≡ x → ((next : ℕ) → Apart (places_of msg 50 (row_from left msg next (length msg))))
          → Apart (places_of msg 50 (row_with (λ next. row_from left msg next (length msg)) at x))
      on End e rest = tt
      on (Refused n) e rest = tt
      on (Value len) e rest = pick (eqb (type_at msg at) 50) (rest (at + 2 + len))
        where
          ordered : (q x : ℕ) → Memᴰ q (places_of msg 50 (row_from left msg (at + 2 + len) (length msg))) → Memᴰ x (places_of msg 6 (row_inside msg at)) → x < q
          ordered q x m k =
              let ascend = places_ascend left msg 50 (at + 2 + len) (length msg) (head_at-fits msg at (length msg) e).1 in
              let a = ascending_bounds (at + 2 + len) (length msg) (places_of msg 50 (row_from left msg (at + 2 + len) (length msg))) q ascend m in
              let b = ascending_bounds (at + 2) (at + 2 + len) (places_of msg 6 (row_inside msg at)) x (inside_ascend at len e) k in
              omega arith

          pick : (b : Bool) → Apart (places_of msg 50 (row_from left msg (at + 2 + len) (length msg)))
              → Apart (cond b (at ∷ places_of msg 50 (row_from left msg (at + 2 + len) (length msg))) (places_of msg 50 (row_from left msg (at + 2 + len) (length msg))))
          pick true a = (ordered, a)
          pick false a = a
