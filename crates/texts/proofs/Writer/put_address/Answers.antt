-- `texts::Writer::put_address` gives `put` of `address`: where it has room, a word and then twelve hexadecimal digits behind it.
-- Trusts: nothing.
use Rattle.std.proofs.Common.{refl, sym}
use Rattle.texts.specs.Text.{hexadecimal, address}
use Rattle.texts.proofs.Numbers.{length-hexadecimal}
use Rattle.texts.proofs.Written.{fits_rest, wrote_then}
use Rattle.texts.proofs.Puts.{room_past, room_fits, put-room}
use Rattle.texts.proofs.Writer.put_address.Goals as goal

pub put_hexadecimal-self-requires : goal.put_hexadecimal-self-requires
put_hexadecimal-self-requires c =
    let a = c.args in
    let fits = room_fits a.word.now (hexadecimal 12 a.n) a.self.now.out.now a.self.now.at (sym (length-hexadecimal 12 a.n)) c.has_room.ensures c.if-has_room.true in
    fits_rest fits (record { bytes = c.copy_at.ensures; place = refl })

-- the text
pub returns-then-has_room-clause-text : goal.returns-then-has_room-clause-text
unfolding address
returns-then-has_room-clause-text c =
    let a = c.args in
    let fits = room_fits a.word.now (hexadecimal 12 a.n) a.self.now.out.now a.self.now.at (sym (length-hexadecimal 12 a.n)) c.has_room.ensures c.if-has_room.true in
    put-room fits (wrote_then fits (record { bytes = c.copy_at.ensures; place = refl }) c.put_hexadecimal-self.ensures)

-- no room
pub returns-else-has_room-clause-text : goal.returns-else-has_room-clause-text
unfolding address
returns-else-has_room-clause-text c =
    let a = c.args in
    room_past a.word.now (hexadecimal 12 a.n) a.self.now.out.now a.self.now.at (sym (length-hexadecimal 12 a.n)) c.has_room.ensures c.if-has_room.false
