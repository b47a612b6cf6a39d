-- `writing_numbers::put_element` gives `put_within` of an element: where it has room its value is written, then its head ahead of it.
-- Trusts: nothing.
use Rattle.std.proofs.Common.{◌+◌, ◌≤◌, ap, not, refl, length, arith}
use Rattle.writing_numbers.proofs.Heads.{lined-row}
use Rattle.writing_numbers.proofs.Within.{room_past, room-here, within_past, within_room}
use Rattle.writing_numbers.proofs.put_element.Goals as goal

-- no room
pub returns-then-not-has_room : goal.returns-then-not-has_room
returns-then-not-has_room g c =
    let a = c.args in within_past (2 + g.row.MOST) _ _ _ (room_past (length a.out.now) a.at (2 + g.row.MOST) c.has_room.ensures (ap not c.if-not-has_room.true))

-- the element, which has the room that the test found
pub returns : goal.returns
returns g c =
    let a = c.args in
    let room : a.at + (2 + g.row.MOST) ≤ length a.out.now = room-here (length a.out.now) a.at (2 + g.row.MOST) c.has_room.ensures (ap not c.if-not-has_room.false) in
    within_room (2 + g.row.MOST) _ _ _ room (lined-row a.kind g.row.MOST _ _ _ (omega arith) (c.requires.1.1.1.1.writes _ _ _ _ _ (omega arith) c.put-next.ensures) refl)
