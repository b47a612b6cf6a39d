-- A record and a slot buffer that hold a run: what they are like, and what they hold when a body's piece is stored and noted.
--
--   Slots run r slots      each of sixteen slots has what the run has there, and only slots below the number are filled
--   put                    a piece stored and noted: the slots of the run with the body
--   put_same               a repeat: they are that already
--   well                   such a record with a full slot is well made
--   none-held              an empty record has the slots of no run
--   missing_is, message_is, lengths_is       what the record counts, joins and notes is what the run misses and has
-- Trusts: nothing.
use Prim.Native.Nat.{ℕ, zero, suc, ◌*◌, ◌-◌, ◌≤◌, ◌<◌}
use mathlib.Core.Path.{◌≡◌, refl, sym, ap, ◌∙◌}
use mathlib.Core.Bool.{Bool, true, false, cond, ◌&&◌}
use mathlib.Core.List.{List, [], ◌∷◌}
use native.Mathlib.Omega.{arith}
use borrow.Author.Tests.{eqb-true, eqb-false, eq-eqb, ne_eqb, lt-ltb, le-leb}
use lib.ListN.{length, get_or, length-set, length-drop, length-replicate, get_or-replicate}
use lib.Seq.{get_or-set_same, get_or-set_other}
use lib.Dec.{ltb, leb, eqb}
use Rattle.wire.specs.Bytes.{pasted}
use Rattle.wire.proofs.Laws.{clash, length-pasted}
use Rattle.collection.specs.Record.{empty_collection}
use Rattle.held.specs.Held.{empty_slots, slot_sound, well_made}
use Rattle.joining.specs.Pieces.{piece_at, joined}
use Rattle.body_tests.specs.Refusals.{number_of, slot_of, piece_of, Fits}
use Rattle.collector.specs.Step.{noted}
use Rattle.collection.specs.declared.Collection.{Collection}
use Rattle.held.proofs.Laws.{empty_slots_lt, sound_to-all}
use Rattle.joining.proofs.Laws.{piece_at_same, piece_at_other}
use Rattle.collector_demands.specs.Runs.{Slot, empty, full, is_full, lookup, missing, message, lengths_to, SlotHas}
use Rattle.collector_demands.proofs.Missing.{lengths_to-at}

-- a slot with what the run has; filled, it is one of the n
pub record Has (s : Slot) (n : ℕ) (r : Collection) (slots : List ℕ) (k : ℕ) : Type 0 where
  pub has : SlotHas s r slots k
  pub short : get_or r.lengths k 0 ≤ 1497
  pub within : is_full s ≡ true → k < n

pub record Slots (run : List (List ℕ)) (r : Collection) (slots : List ℕ) : Type 0 where
  pub room : 24000 ≤ length slots
  pub flags : length r.filled ≡ 16
  pub lens : length r.lengths ≡ 16
  pub each : (k : ℕ) → k < 16 → Has (lookup run k) r.number r slots k

-- ---- a piece is put

module _ (b : List ℕ) (fit : Fits b) (run : List (List ℕ)) (r : Collection) (slots : List ℕ) (number_is : r.number ≡ number_of b) (s : Slots run r slots) where
  abbrev k : ℕ
  k = slot_of b

  abbrev p : List ℕ
  p = piece_of b

  abbrev next : Collection
  next = noted r k (length b - 3)

  abbrev slots' : List ℕ
  slots' = pasted slots (k * 1500) p

  len_p : length p ≡ length b - 3
  len_p = length-drop 3 b

  put-own : Has (lookup (b ∷ run) k) next.number next slots' k
  unfolding lookup
  put-own =
      let e : eqb (slot_of b) k ≡ true = eq-eqb (slot_of b) k refl in
      let lp = len_p in
      let fl = s.flags in
      let ln = s.lens in
      let at = get_or-set_same r.lengths k (length b - 3) 0 (omega arith) in
      rw e (record {
        has = record {
          flag = get_or-set_same r.filled k 1 0 (omega arith);
          len = at ∙ sym lp;
          bytes = rw (← lp) (piece_at_same slots r.lengths p k ln (omega arith) s.room (omega arith));
        };
        short = omega arith;
        within = λ q. omega arith;
      })

  put_other : (j : ℕ) → j < 16 → (j ≡ k → ⊥) → Has (lookup (b ∷ run) j) next.number next slots' j
  unfolding lookup
  put_other j q ne =
      let e : eqb (slot_of b) j ≡ false = ne_eqb (slot_of b) j (λ x. ne (sym x)) in
      let lp = len_p in
      let h = s.each j q in
      let at = get_or-set_other r.lengths k j (length b - 3) 0 ne in
      rw e (record {
        has = record {
          flag = get_or-set_other r.filled k j 1 0 ne ∙ h.has.flag;
          len = at ∙ h.has.len;
          bytes = rw (← lp) (piece_at_other slots r.lengths p k s.lens (omega arith) s.room (omega arith) j q ne h.short) ∙ h.has.bytes;
        };
        short = omega (arith, h.short);
        within = h.within;
      })

  pub put : Slots (b ∷ run) next slots'
  put = record {
    room = rw (length-pasted slots (k * 1500) p) s.room;
    flags = length-set r.filled k 1 ∙ s.flags;
    lens = length-set r.lengths k (length b - 3) ∙ s.lens;
    each = λ j q. go j q (eqb j k) refl;
  } where
    go : (j : ℕ) → j < 16 → (t : Bool) → eqb j k ≡ t → Has (lookup (b ∷ run) j) next.number next slots' j
    go j q true e = rw (eqb-true j k e) put-own
    go j q false e = put_other j q (eqb-false j k e)

-- a repeat changes nothing: the run has the same in every slot
pub put_same : (b : List ℕ) (run : List (List ℕ)) (r : Collection) (slots : List ℕ) → Slots run r slots → lookup run (slot_of b) ≡ full (piece_of b) → Slots (b ∷ run) r slots
unfolding lookup
put_same b run r slots s g = record {
  room = s.room;
  flags = s.flags;
  lens = s.lens;
  each = λ j q. go j q (eqb (slot_of b) j) refl;
} where
  go : (j : ℕ) → j < 16 → (t : Bool) → eqb (slot_of b) j ≡ t → Has (cond (eqb (slot_of b) j) (full (piece_of b)) (lookup run j)) r.number r slots j
  go j q true e = let f : lookup run j ≡ full (piece_of b) = ap (lookup run) (sym (eqb-true (slot_of b) j e)) ∙ g in rw (e, ← f) (s.each j q)
  go j q false e = rw e (s.each j q)

pub lookup-own : (b : List ℕ) (run : List (List ℕ)) → lookup (b ∷ run) (slot_of b) ≡ full (piece_of b)
unfolding lookup
lookup-own b run = rw (eq-eqb (slot_of b) (slot_of b) refl) refl

-- ---- a record that holds a run

slot_sound_lem : (s : Slot) (n k : ℕ) (r : Collection) (slots : List ℕ) → Has s n r slots k → slot_sound (get_or r.filled k 0) (get_or r.lengths k 0) k n ≡ true
slot_sound_lem empty n k r slots h = rw (h.has.flag, h.has.len) (low (ltb k n)) where
  low : (t : Bool) → (leb 0 (cond t 1 0) && true) ≡ true
  low true = refl
  low false = refl
slot_sound_lem (full q) n k r slots h =
    let l = h.short in
    rw (h.has.flag, lt-ltb k n (h.within refl)) (le-leb (get_or r.lengths k 0) 1497 l)

pub well : (run : List (List ℕ)) (r : Collection) (slots : List ℕ) → Slots run r slots → r.number ≤ 16 → (k : ℕ) → k < 16 → is_full (lookup run k) ≡ true → well_made r ≡ true
unfolding well_made
well run r slots s few k q f =
    let one : get_or r.filled k 0 ≡ 1 = (s.each k q).has.flag ∙ rw f refl in
    simp (le-leb r.number 16 few, sound_to-all r.filled r.lengths r.number 16 (λ j x. slot_sound_lem (lookup run j) r.number j r slots (s.each j x)))
    (lt-ltb (empty_slots r.filled 16) 16 (empty_slots_lt r.filled k 16 one q))

pub none-held : (st c n : ℕ) (slots : List ℕ) → 24000 ≤ length slots → Slots [] (empty_collection st c n) slots
unfolding lookup piece_at
none-held st c n slots room = record {
  room = room;
  flags = length-replicate {A = ℕ} 16 0;
  lens = length-replicate {A = ℕ} 16 0;
  each = λ k q.
      let z = get_or-replicate {A = ℕ} 16 k 0 0 q in
      record { has = record { flag = z; len = z; bytes = rw z refl }; short = omega arith; within = λ x. absurd (clash x) };
}

empty_is : (s : Slot) (flag : ℕ) → flag ≡ cond (is_full s) 1 0 → ◌≡◌ {A = ℕ} (cond (eqb flag 0) 1 0) (cond (is_full s) 0 1)
empty_is empty flag e = rw e refl
empty_is (full p) flag e = rw e refl

module _ (run : List (List ℕ)) (r : Collection) (slots : List ℕ) (s : Slots run r slots) where
  pub missing_is : (n : ℕ) → n ≤ 16 → empty_slots r.filled n ≡ missing (lookup run) n
  unfolding empty_slots missing
  missing_is zero h = refl
  missing_is (suc n) h = rw (missing_is n (omega arith), empty_is (lookup run n) (get_or r.filled n 0) (s.each n h).has.flag) refl

  pub message_is : (n : ℕ) → n ≤ 16 → joined slots r.lengths n ≡ message (lookup run) n
  unfolding joined message
  message_is zero h = refl
  message_is (suc n) h = rw (message_is n (omega arith), (s.each n h).has.bytes) refl

  pub lengths_is : (n : ℕ) → n ≤ 16 → (j : ℕ) → j < n → get_or r.lengths j 0 ≡ get_or (lengths_to (lookup run) n) j 0
  lengths_is n h j q = (s.each j (omega arith)).has.len ∙ sym (lengths_to-at (lookup run) n j q)
