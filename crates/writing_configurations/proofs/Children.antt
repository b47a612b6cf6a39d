-- The children of the configuration, written (specs/Encode.antt of writing_elements).
--
--   channel-lined    a channel                                     timers_row-lined    the four timer values, one behind the other
--   timer_usual      the usual value: nothing is written           timer-other        any other value: its element is
-- Trusts: nothing.
use Prim.Native.Nat.{ℕ, ◌+◌, ◌≤◌}
use mathlib.Core.Path.{◌≡◌}
use mathlib.Core.List.{List}
use borrow.Author.Tests.{eq-eqb, ne_eqb}
use lib.ListN.{length}
use Rattle.table.specs.declared.TimerValues.{TimerValues}
use Rattle.texts.specs.Put.{put}
use Rattle.texts.specs.Writing.{Lined}
use Rattle.texts.proofs.Lengths.{lined_then}
use Rattle.writing_elements.specs.Encode.{big_endian, element, channel_bytes, timer, timers_row}
use Rattle.writing_numbers.proofs.Heads.{lined-none}
use Rattle.writing_numbers.proofs.Within.{number→lined}

pub channel-lined : (n : ℕ) {out new : List ℕ} {at next : ℕ} → at + 6 ≤ length out → record { next = next; out = new } ≡ put (element 1 (big_endian 4 n)) out at
    → Lined 6 out at (channel_bytes n) new next
unfolding channel_bytes
channel-lined n room e = number→lined 1 4 n room e

module _ (kind usual v : ℕ) {out : List ℕ} {at : ℕ} where
  pub timer_usual : v ≡ usual → Lined 4 out at (timer kind usual v) out at
  unfolding timer
  timer_usual z = rw (eq-eqb v usual z) (lined-none 4 out at)

  pub timer-other : {new : List ℕ} {next : ℕ} → (v ≡ usual → ⊥) → at + 4 ≤ length out → record { next = next; out = new } ≡ put (element kind (big_endian 2 v)) out at
      → Lined 4 out at (timer kind usual v) new next
  unfolding timer
  timer-other other room e = rw (ne_eqb v usual other) (number→lined kind 2 v room e)

pub timers_row-lined : (v : TimerValues) {out a b c new : List ℕ} {at i j k next : ℕ} → at + 16 ≤ length out
    → Lined 4 out at (timer 2 2 v.tdsg1) a i
    → Lined 4 a i (timer 3 600 v.tdsg2) b j
    → Lined 4 b j (timer 4 300 v.tdsg3) c k
    → Lined 4 c k (timer 5 1800 v.tdsg4) new next
    → Lined 16 out at (timers_row v) new next
unfolding timers_row
timers_row-lined v room p q r s = lined_then 4 12 room p (λ room. lined_then 4 8 room q (λ room. lined_then 4 4 room r (λ room. s)))
