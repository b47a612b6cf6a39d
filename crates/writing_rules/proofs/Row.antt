-- The children of a rule written one behind the other, and the head stored ahead of them (specs/Encode.antt of writing_elements).
--
--   row-ucids      behind the number and the priority there is room for the UCIDs
--   row-numbers    behind the tunnel there is room for the classifier numbers
--   row-all        with them the row is written              rule-row      the row with its head is the rule
-- Trusts: nothing.
use Prim.Native.Nat.{ℕ, ◌+◌, ◌-◌, ◌≤◌, ◌<◌}
use mathlib.Core.Path.{◌≡◌}
use mathlib.Core.List.{List, [], ◌∷◌}
use native.Mathlib.Omega.{arith}
use lib.ListN.{length, set}
use Rattle.table.specs.Table.{clients_of, numbers_of, ucids_of}
use Rattle.table.specs.declared.Rule.{Rule}
use Rattle.table.proofs.Laws.{length-clients_of_le}
use Rattle.texts.specs.Put.{put}
use Rattle.texts.specs.Text.{each}
use Rattle.texts.specs.Writing.{Lined}
use Rattle.texts.proofs.Lengths.{lined_then}
use Rattle.writing_elements.specs.Encode.{big_endian, element, client_bytes, number_bytes, ucid_bytes, rule_row, rule_bytes}
use Rattle.writing_elements.proofs.Sizes.{clients-most}
use Rattle.writing_numbers.specs.Within.{put_within}
use Rattle.writing_numbers.proofs.Heads.{lined-row, lined-room}
use Rattle.writing_numbers.proofs.Within.{within_room, within→lined, number→lined, byte→lined}

-- outa, a and outb, b: the buffer and the place behind the number, behind the priority
module _ (q : Rule) (out : List ℕ) (at : ℕ) {outa outb : List ℕ} {a b : ℕ} (room : at + 130 ≤ length out) (small : q.number < 256) (low : q.priority < 256)
    (number : record { next = a; out = outa } ≡ put (element 1 (big_endian 1 q.number)) out at)
    (priority : record { next = b; out = outb } ≡ put (element 2 (big_endian 1 q.priority)) outa a) where
  first : Lined 3 out at (element 1 (q.number ∷ [])) outa a
  first = byte→lined 1 q.number (omega (arith, room)) small number

  second : Lined 3 outa a (element 2 (q.priority ∷ [])) outb b
  second = byte→lined 2 q.priority (omega (arith, lined-room 3 127 room first)) low priority

  second_room : b + 124 ≤ length outb
  second_room = lined-room 3 124 (lined-room 3 127 room first) second

  pub row-ucids : b + 18 ≤ length outb
  row-ucids = omega (arith, second_room)

  -- outc, c to oute, e: behind the UCIDs, the client IDs, the tunnel
  module _ {outc outd oute : List ℕ} {c d e : ℕ} (ucids : Lined 18 outb b (ucid_bytes (ucids_of q)) outc c)
      (clients : record { next = d; out = outd } ≡ put_within 66 (element 4 (each client_bytes (clients_of q))) outc c)
      (tunnel : record { next = e; out = oute } ≡ put (element 5 (big_endian 6 q.tunnel)) outd d) where
    fourth : Lined 66 outc c (element 4 (each client_bytes (clients_of q))) outd d
    fourth =
        within→lined 66 (element 4 (each client_bytes (clients_of q))) outc c (omega (arith, lined-room 18 106 second_room ucids))
        (omega (arith, clients-most (clients_of q) (length-clients_of_le q))) clients

    fourth_room : d + 40 ≤ length outd
    fourth_room = lined-room 66 40 (lined-room 18 106 second_room ucids) fourth

    fifth : Lined 8 outd d (element 5 (big_endian 6 q.tunnel)) oute e
    fifth = number→lined 5 6 q.tunnel (omega (arith, fourth_room)) tunnel

    pub row-numbers : e + 32 ≤ length oute
    row-numbers = lined-room 8 32 fourth_room fifth

    pub row-all : {last : List ℕ} {end : ℕ} → Lined 32 oute e (each number_bytes (numbers_of q)) last end → Lined 130 out at (rule_row q) last end
    unfolding rule_row
    row-all sixth =
        lined_then 3 127 room first
        (λ room. lined_then 3 124 room second
        (λ room. lined_then 18 106 room ucids
        (λ room. lined_then 66 40 room fourth
        (λ room. lined_then 8 32 room fifth (λ room. sixth)))))

pub rule-row : (q : Rule) (out : List ℕ) (at : ℕ) {new : List ℕ} {next len : ℕ} → at + 132 ≤ length out → Lined 130 out (at + 2) (rule_row q) new next → len ≡ next - at - 2
    → record { next = next; out = set (set new at 50) (at + 1) len } ≡ put_within 132 (rule_bytes q) out at
unfolding rule_bytes
rule-row q out at room w e = within_room 132 (element 50 (rule_row q)) out at room (lined-row 50 130 (rule_row q) out at (omega arith) w e)
