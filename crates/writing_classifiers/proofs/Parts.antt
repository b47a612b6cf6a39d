-- The parts of a classifier, written (specs/Encode.antt of writing_elements).
--
--   part-absent      its mark is 0: nothing is written            part-present         any other mark: its element is
--   part_row-lined    the five parts, one behind the other         classifier_row-lined  the three children, one behind the other
--   classifier_within    the children, and then the head ahead of them: the element
-- Trusts: nothing.
use Prim.Native.Nat.{ℕ, ◌+◌, ◌-◌, ◌≤◌, ◌<◌}
use mathlib.Core.Path.{◌≡◌, refl}
use mathlib.Core.List.{List}
use native.Mathlib.Omega.{arith}
use borrow.Author.Tests.{eq-eqb, ne_eqb}
use lib.ListN.{length, set}
use Rattle.table.specs.declared.Classifier.{Classifier}
use Rattle.texts.specs.Put.{put}
use Rattle.texts.specs.Writing.{Lined}
use Rattle.texts.proofs.Lengths.{lined_then}
use Rattle.writing_elements.specs.Encode.{big_endian, element, part, part_row, classifier_row, classifier_bytes}
use Rattle.writing_numbers.specs.Within.{put_within}
use Rattle.writing_numbers.proofs.Heads.{lined-none, lined-row}
use Rattle.writing_numbers.proofs.Within.{number→lined, byte→lined, within_room}

module _ (mark kind width n : ℕ) {out : List ℕ} {at : ℕ} where
  pub part-absent : mark ≡ 0 → Lined (2 + width) out at (part mark (element kind (big_endian width n))) out at
  unfolding part
  part-absent z = rw (eq-eqb mark 0 z) (lined-none (2 + width) out at)

  pub part-present : {new : List ℕ} {next : ℕ} → (mark ≡ 0 → ⊥) → at + (2 + width) ≤ length out → record { next = next; out = new } ≡ put (element kind (big_endian width n)) out at
      → Lined (2 + width) out at (part mark (element kind (big_endian width n))) new next
  unfolding part
  part-present some room e = rw (ne_eqb mark 0 some) (number→lined kind width n room e)

module _ (q : Classifier) {out new : List ℕ} {next : ℕ} where
  pub part_row-lined : {a b c d : List ℕ} {at i j k l : ℕ} → at + 26 ≤ length out
      → Lined 6 out at (part q.hassource (element 3 (big_endian 4 q.source))) a i
      → Lined 6 a i (part q.hasmask (element 4 (big_endian 4 q.mask))) b j
      → record { next = k; out = c } ≡ put (element 5 (big_endian 4 q.destination)) b j
      → Lined 4 c k (part q.hasstart (element 9 (big_endian 2 q.start))) d l
      → Lined 4 d l (part q.hasend (element 10 (big_endian 2 q.end))) new next
      → Lined 26 out at (part_row q) new next
  unfolding part_row
  part_row-lined room s m e t u =
      lined_then 6 20 room s
      (λ room. lined_then 6 14 room m
      (λ room. lined_then 6 8 room (number→lined 5 4 q.destination (omega arith) e)
      (λ room. lined_then 4 4 room t (λ room. u))))

  pub classifier_row-lined : {a b : List ℕ} {at i j : ℕ} → at + 35 ≤ length out → q.priority < 256
      → record { next = i; out = a } ≡ put (element 2 (big_endian 2 q.number)) out at
      → record { next = j; out = b } ≡ put (element 5 (big_endian 1 q.priority)) a i
      → Lined 28 b j (element 9 (part_row q)) new next
      → Lined 35 out at (classifier_row q) new next
  unfolding classifier_row
  classifier_row-lined room small n p w =
      lined_then 4 31 room (number→lined 2 2 q.number (omega arith) n)
      (λ room. lined_then 3 28 room (byte→lined 5 q.priority (omega arith) small p) (λ room. w))

  pub classifier_within : (at : ℕ) → at + 37 ≤ length out → Lined 35 out (at + 2) (classifier_row q) new next
      → record { next = next; out = set (set new at 23) (at + 1) (next - at - 2) } ≡ put_within 37 (classifier_bytes q) out at
  unfolding classifier_bytes
  classifier_within at room w = within_room 37 (element 23 (classifier_row q)) out at room (lined-row 23 35 (classifier_row q) out at (omega arith) w refl)
