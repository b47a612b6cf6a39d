-- A classifier number as bytes (specs/Encode.antt of writing_elements, number_bytes): what `put_number` says of it, where there is room.
-- Trusts: nothing.
use Prim.Native.Nat.{ℕ, ◌+◌, ◌≤◌}
use mathlib.Core.Path.{◌≡◌}
use mathlib.Core.List.{List}
use lib.ListN.{length}
use Rattle.texts.specs.Put.{put}
use Rattle.texts.specs.Writing.{Lined}
use Rattle.writing_elements.specs.Encode.{big_endian, element, number_bytes}
use Rattle.writing_numbers.proofs.Within.{number→lined}

pub named→lined : (n : ℕ) {out new : List ℕ} {at next : ℕ} → at + 4 ≤ length out → record { next = next; out = new } ≡ put (element 6 (big_endian 2 n)) out at
    → Lined 4 out at (number_bytes n) new next
unfolding number_bytes
named→lined n room e = number→lined 6 2 n room e
