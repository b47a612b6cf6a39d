-- The slots of a well-made record (specs/Held.antt of crate held): what is noted of each, and that the slot buffer has it there.
--
--   well_made-few       at most 16 slots are numbered
--   well_made_within    a filled slot is one of them      well_made-short, well_made-flag    a noted length; the flag of an empty slot
--   slot_at             what stands in a slot             well_made_has      and that the record and the buffer have it
-- Trusts: nothing.
use Prim.Native.Nat.{ℕ, ◌≤◌, ◌<◌}
use mathlib.Core.Path.{◌≡◌, refl, sym}
use mathlib.Core.Bool.{Bool, true, false, cond}
use mathlib.Core.List.{List}
use native.Mathlib.Omega.{arith}
use borrow.Author.Tests.{eqb-true, eqb-false, leb-true, ltb-true}
use lib.ListN.{length, get_or}
use lib.Dec.{ltb, leb}
use Rattle.wire.proofs.Laws.{both, clash}
use Rattle.held.specs.Held.{is_filled, slot_sound, sound_to, well_made}
use Rattle.joining.specs.Pieces.{piece_at}
use Rattle.collection.specs.declared.Collection.{Collection}
use Rattle.held.proofs.Laws.{sound_to-at}
use Rattle.joining.proofs.Laws.{length_piece_at}
use Rattle.collector_demands.specs.Runs.{Slot, empty, full}
use Rattle.collector_demands.proofs.Holds.{Has}

most_le : (t : Bool) (x : ℕ) → x ≤ cond t 1 0 → (x ≤ 1) × (x ≡ 1 → t ≡ true)
most_le true x h = (h, λ e. refl)
most_le false x h = (omega arith, λ e. absurd (omega arith))

-- what stands in a slot
abbrev pub slot_at : Collection → List ℕ → ℕ → Slot
slot_at r slots k = cond (is_filled (get_or r.filled k 0)) (full (piece_at slots r.lengths k)) empty

module _ (r : Collection) (made : well_made r ≡ true) where
  abbrev flag : ℕ → ℕ
  flag k = get_or r.filled k 0

  abbrev len : ℕ → ℕ
  len k = get_or r.lengths k 0

  pub well_made-few : r.number ≤ 16
  unfolding well_made
  well_made-few = leb-true r.number 16 (both (leb r.number 16) _ made).0

  sound : (k : ℕ) → k < 16 → slot_sound (flag k) (len k) k r.number ≡ true
  unfolding well_made
  sound k q = sound_to-at r.filled r.lengths r.number 16 k (both (sound_to r.filled r.lengths r.number 16) _ (both (leb r.number 16) _ made).1).0 q

  flag-most : (k : ℕ) → k < 16 → flag k ≤ cond (ltb k r.number) 1 0
  flag-most k q = leb-true _ _ (both (leb (flag k) (cond (ltb k r.number) 1 0)) _ (sound k q)).0

  len-most : (k : ℕ) → k < 16 → len k ≤ cond (is_filled (flag k)) 1497 0
  len-most k q = leb-true _ _ (both (leb (flag k) (cond (ltb k r.number) 1 0)) _ (sound k q)).1

  pub well_made_within : (k : ℕ) → k < 16 → is_filled (flag k) ≡ true → k < r.number
  well_made_within k q f = ltb-true k r.number ((most_le (ltb k r.number) (flag k) (flag-most k q)).1 (eqb-true (flag k) 1 f))

  pub well_made-short : (k : ℕ) → k < 16 → len k ≤ 1497
  well_made-short k q = go (is_filled (flag k)) (len-most k q) where
    go : (t : Bool) → len k ≤ cond t 1497 0 → len k ≤ 1497
    go true h = h
    go false h = omega arith

  len-empty : (k : ℕ) → k < 16 → is_filled (flag k) ≡ false → len k ≡ 0
  len-empty k q f = let h : len k ≤ 0 = rw f at (len-most k q) in omega arith

  pub well_made-flag : (k : ℕ) → k < 16 → is_filled (flag k) ≡ false → flag k ≡ 0
  well_made-flag k q f =
      let m = (most_le (ltb k r.number) (flag k) (flag-most k q)).0 in
      let ne = eqb-false (flag k) 1 f in
      omega arith

  pub well_made_has : (slots : List ℕ) → 24000 ≤ length slots → (k : ℕ) → k < 16 → Has (slot_at r slots k) r.number r slots k
  unfolding piece_at
  well_made_has slots room k q = go (is_filled (flag k)) refl where
    go : (t : Bool) → is_filled (flag k) ≡ t → Has (cond t (full (piece_at slots r.lengths k)) empty) r.number r slots k
    go true f = let l = well_made-short k q in record {
      has = record { flag = eqb-true (flag k) 1 f; len = sym (length_piece_at slots r.lengths k (omega arith)); bytes = refl };
      short = l;
      within = λ x. well_made_within k q f;
    }
    go false f = record {
      has = record { flag = well_made-flag k q f; len = len-empty k q f; bytes = rw (len-empty k q f) refl };
      short = well_made-short k q;
      within = λ x. absurd (clash x);
    }
