-- `writing_configurations::put_configuration` gives `put_within` of the configuration. Where it has room its children are written behind the place of
-- the head, and the head is stored where there is one.
-- Trusts: nothing.
use Rattle.std.proofs.Common.{ap, not, length}
use Rattle.wire.specs.Bytes.{concat}
use Rattle.writing_elements.specs.Encode.{configuration_row, configured}
use Rattle.writing_numbers.proofs.Within.{room_past, room-here, within_past}
use Rattle.writing_configurations.proofs.Configured.{configuration_none, configuration_some}
use Rattle.writing_configurations.proofs.put_configuration.Goals as goal

-- no room
pub returns-then-not-has_room : goal.returns-then-not-has_room
returns-then-not-has_room c =
    let a = c.args in
    within_past 210 (concat (configured (configuration_row a.table))) a.out.now a.at
    (room_past (length a.out.now) a.at 210 c.has_room.ensures (ap not c.if-not-has_room.true))

-- no child
pub returns-then-next-at : goal.returns-then-next-at
returns-then-next-at c =
    let a = c.args in
    configuration_none a.table a.at (room-here (length a.out.now) a.at 210 c.has_room.ensures (ap not c.if-not-has_room.false)) c.put_row-next.ensures c.if-next-at.true

-- the element
pub returns : goal.returns
returns c =
    let a = c.args in
    configuration_some a.table a.at (room-here (length a.out.now) a.at 210 c.has_room.ensures (ap not c.if-not-has_room.false)) c.put_row-next.ensures c.if-next-at.false
