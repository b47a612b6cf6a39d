-- The configuration with its head, or none (specs/Encode.antt of writing_elements, `configured`), from its children behind the place of the head.
--
--   configured-none       no child was written: nothing was           configured-some       a child was, and then the head: the element
--   configuration_none, configuration_some     the same of the configuration of a table
-- Trusts: nothing.
use Prim.Native.Nat.{ℕ, ◌+◌, ◌-◌, ◌≤◌}
use mathlib.Core.Path.{◌≡◌, refl, sym, subst, ◌∙◌}
use mathlib.Core.List.{List, [], ◌∷◌, ◌++◌, append-nil}
use native.Mathlib.Omega.{arith}
use lib.ListN.{length, take, set}
use Rattle.wire.specs.Bytes.{concat}
use Rattle.table.specs.Table.{limited_to, channels_of}
use Rattle.table.specs.declared.Table.{Table}
use Rattle.texts.specs.Text.{each}
use Rattle.texts.specs.Writing.{Lined}
use Rattle.texts.proofs.Written.{wrote_none}
use Rattle.writing_elements.specs.Encode.{element, channel_bytes, timers_row, configuration_row, configured}
use Rattle.writing_numbers.specs.Within.{put_within}
use Rattle.writing_numbers.proofs.Heads.{lined-none, lined-row}
use Rattle.writing_numbers.proofs.Within.{within_room}

module _ (most n : ℕ) {out : List ℕ} {at : ℕ} {new : List ℕ} {next : ℕ} where
  configured-none : (row : List ℕ) → Lined most out (at + 2) row new next → next ≡ at + 2 → Lined n out at (concat (configured row)) new at
  unfolding concat
  configured-none [] w e = subst (λ (l : List ℕ). Lined n out at [] l at) ((wrote_none out (at + 2)).bytes ∙ sym w.wrote.bytes) (lined-none n out at)
  configured-none (b ∷ row) w e = absurd (omega (arith, w.wrote.place))

  configured-some : (row : List ℕ) {last : List ℕ} → Lined most out (at + 2) row new next → (next ≡ at + 2 → ⊥) → Lined n out at (element 51 row) last next
      → Lined n out at (concat (configured row)) last next
  unfolding concat
  configured-some [] w some e = absurd (some (omega (arith, w.wrote.place)))
  configured-some (b ∷ row) w some e = rw (append-nil (element 51 (b ∷ row))) e

module _ (t : Table) (at : ℕ) {out new : List ℕ} {next : ℕ} (room : at + 210 ≤ length out)
    (w : Lined 208 out (at + 2) (each channel_bytes (take (limited_to 32 t.channelcount) t.channels) ++ timers_row t.timers) new next) where
  pub configuration_none : next ≡ at + 2 → record { next = at; out = new } ≡ put_within 210 (concat (configured (configuration_row t))) out at
  unfolding configuration_row channels_of
  configuration_none e = within_room 210 _ out at room (configured-none 208 210 _ w e)

  pub configuration_some : (next ≡ at + 2 → ⊥)
      → record { next = next; out = set (set new at 51) (at + 1) (next - at - 2) } ≡ put_within 210 (concat (configured (configuration_row t))) out at
  unfolding configuration_row channels_of
  configuration_some some = within_room 210 _ out at room (configured-some 208 210 _ w some (lined-row 51 208 _ out at (omega arith) w refl))
