-- `writing_numbers::put_number` gives `put` of an element: `store_number` writes it where it has room.
-- Trusts: nothing.
use Rattle.std.proofs.Common.{◌+◌, ◌≤◌, ap, ◌∙◌, not, arith, length, leb}
use Rattle.texts.proofs.Puts.{put_past, put-room}
use Rattle.writing_elements.specs.Encode.{big_endian, element}
use Rattle.writing_elements.proofs.Stands.{length-big_endian}
use Rattle.writing_numbers.proofs.Within.{room_past, room-here}
use Rattle.writing_numbers.proofs.put_number.Goals as goal

-- no room
pub returns-then-not-has_room : goal.returns-then-not-has_room
returns-then-not-has_room c =
    let a = c.args in
    put_past (element a.kind (big_endian a.width a.n)) a.out.now a.at
    (ap (λ k. leb (a.at + k) (length a.out.now)) {x = length (element a.kind (big_endian a.width a.n))} {y = a.width + 2} (omega (arith, length-big_endian a.width a.n))
    ∙ room_past (length a.out.now) a.at (a.width + 2) c.has_room.ensures (ap not c.if-not-has_room.true))

-- the element, which has the room that the test found
pub returns : goal.returns
returns c =
    let a = c.args in
    let room : a.at + (a.width + 2) ≤ length a.out.now = room-here (length a.out.now) a.at (a.width + 2) c.has_room.ensures (ap not c.if-not-has_room.false) in
    put-room (record { room = omega (arith, length-big_endian a.width a.n) }) c.store_number.ensures
