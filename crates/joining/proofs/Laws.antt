-- Laws of the pieces in the slot buffer, and joined (specs/Pieces.antt).
--
--   length_piece_at, length-joined    a piece as long as its slot says; the joined pieces at most n x 1,497
--   piece_lent                        the piece that is lent
--   joined-more, joined_into-more     one turn of the loop that joins
--   join_step-most                    there are sixteen slots for any greater number
--   joined_into-room, join_step-room   where all has room: what is joined, and the rest of the buffer as it was
--   piece_at_same, piece_at_other      the slots after a piece is stored
-- Trusts: nothing.
use Prim.Native.Nat.{ℕ, zero, suc, ◌+◌, ◌*◌, ◌≤◌, ◌<◌, min}
use mathlib.Core.Path.{◌≡◌, refl, sym, ap, ◌∙◌}
use mathlib.Core.List.{List, [], ◌++◌, append_assoc, append-nil}
use mathlib.Core.Logic.{◌⊎◌, inl, inr, ⊎_elim}
use native.Mathlib.Omega.{arith}
use native.Mathlib.Nat.{add-zero}
use lib.ListN.{length, get_or, set, take, drop, length-append, length-take, length-drop, take-append-drop, get_or-eq_default}
use lib.Seq.{length-take-le, drop-append-add, drop-drop, take_at, get_or-set_same, get_or-set_other}
use Rattle.wire.specs.Bytes.{pasted}
use Rattle.wire.specs.Parts.{Part, part}
use Rattle.wire.proofs.Laws.{pasted-fits, pasted_not, part-pasted, part-pasted-before, part-pasted-behind}
use Rattle.joining.specs.Pieces.{piece_at, part_in, joined, joined_into, JoinAfter, join_step}

order : (x y : ℕ) → (x ≤ y) ⊎ (y < x)
order zero y = inl (omega arith)
order (suc x) zero = inr (omega arith)
order (suc x) (suc y) = ⊎_elim (λ h. inl (omega arith)) (λ h. inr (omega arith)) (order x y)

-- ---- the pieces in the slot buffer, joined

pub length_piece_at : (slots lens : List ℕ) (k : ℕ) → k * 1500 + get_or lens k 0 ≤ length slots → length (piece_at slots lens k) ≡ get_or lens k 0
unfolding piece_at
length_piece_at slots lens k h = length-take-le (get_or lens k 0) (drop (k * 1500) slots) (omega (arith, length-drop (k * 1500) slots))

pub length_piece_at_le : (slots lens : List ℕ) (k : ℕ) → length (piece_at slots lens k) ≤ get_or lens k 0
unfolding piece_at
length_piece_at_le slots lens k = simp length-take (omega arith)

pub length-joined : (slots lens : List ℕ) (n : ℕ) → ((k : ℕ) → k < n → get_or lens k 0 ≤ 1497) → length (joined slots lens n) ≤ n * 1497
unfolding joined
length-joined slots lens zero h = omega arith
length-joined slots lens (suc n) h =
    simp length-append (omega (arith, length-joined slots lens n (λ k q. h k (omega arith)), length_piece_at_le slots lens n, h n (omega arith)))

-- the piece in slot k, as `piece_in` lends it
pub piece_lent : (slots lens : List ℕ) (k : ℕ) (at : ℕ × ℕ) {x : Part} → x ≡ part_in (part at slots) k (get_or lens k 0) → x.bytes ≡ piece_at slots lens k
unfolding piece_at
piece_lent slots lens k at e = ap (λ (y : Part). y.bytes) e

-- a turn of the loop that joins: the piece of slot k at the place that the pieces before it leave
module _ (slots lens join : List ℕ) (k : ℕ) (p : List ℕ) (e : p ≡ piece_at slots lens k) where
  pub joined-more : (a : ℕ) → a ≡ length (joined slots lens k) → a + length p ≡ length (joined slots lens (suc k))
  unfolding joined
  joined-more a g = rw (e, g) (sym (length-append (joined slots lens k) (piece_at slots lens k)))

  pub joined_into-more : (b : List ℕ) (a : ℕ) → b ≡ joined_into join slots lens k → a ≡ length (joined slots lens k) → pasted b a p ≡ joined_into join slots lens (suc k)
  unfolding joined_into
  joined_into-more b a f g = rw (f, g, e) refl

-- ---- a slot beyond the lengths has no bytes

pasted_nil : (t : List ℕ) (at : ℕ) → pasted t at [] ≡ t
pasted_nil t at = go (order at (length t)) where
  go : (at ≤ length t) ⊎ (length t < at) → pasted t at [] ≡ t
  go (inl h) = pasted-fits t at [] (omega arith) ∙ rw add-zero (take-append-drop at t)
  go (inr h) = pasted_not t at [] (omega arith)

module _ (slots join lens : List ℕ) where
  join_step_past : (n : ℕ) → length lens ≤ n → join_step slots join lens n ≡ join_step slots join lens (suc n)
  unfolding joined joined_into piece_at
  join_step_past n h = rw (get_or-eq_default lens 0 h, append-nil, pasted_nil) refl

  pub join_step-most : (n : ℕ) → length lens ≡ 16 → join_step slots join lens (min n 16) ≡ join_step slots join lens n
  join_step-most zero e = refl
  join_step-most (suc n) e = go (join_step-most n e) (order (suc n) 16) where
    go : join_step slots join lens (min n 16) ≡ join_step slots join lens n → (suc n ≤ 16) ⊎ (16 < suc n) → join_step slots join lens (min (suc n) 16) ≡ join_step slots join lens (suc n)
    go i (inl h) = let m : min (suc n) 16 ≡ suc n = omega arith in rw m refl
    go i (inr h) =
        let m : min (suc n) 16 ≡ min n 16 = omega arith in
        rw m (i ∙ join_step_past n (omega arith))

-- ---- where all has room

-- one more piece at the end of what is joined
pasted-next : (m old p : List ℕ) → length m + length p ≤ length old → pasted (m ++ drop (length m) old) (length m) p ≡ (m ++ p) ++ drop (length (m ++ p)) old
pasted-next m old p fits =
    let n : length m + length p ≤ length (m ++ drop (length m) old) = simp (length-append, length-drop) (omega arith) in
    let e : take (length m) (m ++ drop (length m) old) ≡ m = take_at m (drop (length m) old) (length m) refl in
    let f : drop (length m + length p) (m ++ drop (length m) old) ≡ drop (length (m ++ p)) old =
    drop-append-add m (drop (length m) old) (length p) ∙ drop-drop (length p) (length m) old ∙ ap (λ (k : ℕ). drop k old) (sym (length-append m p)) in
    pasted-fits (m ++ drop (length m) old) (length m) p n ∙ rw (e, f) (sym (append_assoc m p (drop (length (m ++ p)) old)))

pub joined_into-room : (join slots lens : List ℕ) (n : ℕ) → length (joined slots lens n) ≤ length join
    → joined_into join slots lens n ≡ joined slots lens n ++ drop (length (joined slots lens n)) join
unfolding joined joined_into
joined_into-room join slots lens zero h = refl
joined_into-room join slots lens (suc n) h =
    let e = length-append (joined slots lens n) (piece_at slots lens n) in
    rw (joined_into-room join slots lens n (omega arith)) (pasted-next (joined slots lens n) join (piece_at slots lens n) (omega arith))

-- what the call leaves of sixteen slots at most, none over 1,497 bytes, where the join buffer has 24,000
pub join_step-room : (slots join lens : List ℕ) (n size : ℕ) (last : List ℕ) → record { size = size; join = last } ≡ join_step slots join lens n
    → n ≤ 16 → 24000 ≤ length join → ((k : ℕ) → k < 16 → get_or lens k 0 ≤ 1497)
    → (size ≡ length (joined slots lens n)) × (last ≡ joined slots lens n ++ drop size join)
join_step-room slots join lens n size last e few room short =
    let s : size ≡ length (joined slots lens n) = ap (λ (x : JoinAfter). x.size) e in
    let m = length-joined slots lens n (λ k q. short k (omega arith)) in
    (s, ap (λ (x : JoinAfter). x.join) e ∙ rw s (joined_into-room join slots lens n (omega arith)))

-- ---- the slots after the piece p is stored in slot k

module _ (slots lens p : List ℕ) (k : ℕ) (long : length lens ≡ 16) (below : k < 16) (room : 24000 ≤ length slots) (short : length p ≤ 1497) where
  pub piece_at_same : piece_at (pasted slots (k * 1500) p) (set lens k (length p)) k ≡ p
  unfolding piece_at
  piece_at_same = rw (get_or-set_same lens k (length p) 0 (omega arith)) (part-pasted slots (k * 1500) p (omega arith))

  pub piece_at_other : (j : ℕ) → j < 16 → (j ≡ k → ⊥) → get_or lens j 0 ≤ 1497 → piece_at (pasted slots (k * 1500) p) (set lens k (length p)) j ≡ piece_at slots lens j
  unfolding piece_at
  piece_at_other j q ne len = rw (get_or-set_other lens k j (length p) 0 ne) (go (order j k)) where
    go : (j ≤ k) ⊎ (k < j) → take (get_or lens j 0) (drop (j * 1500) (pasted slots (k * 1500) p)) ≡ take (get_or lens j 0) (drop (j * 1500) slots)
    go (inl h) = part-pasted-before slots (k * 1500) p (j * 1500) (get_or lens j 0) (omega arith)
    go (inr h) = part-pasted-behind slots (k * 1500) p (j * 1500) (get_or lens j 0) (omega arith)
