-- `texts::Writer::put_field` gives `put` of `field`: where it has room, a word and then a number in decimal behind it.
-- Trusts: nothing.
use Rattle.std.proofs.Common.{refl}
use Rattle.texts.specs.Text.{decimal, field}
use Rattle.texts.proofs.Written.{fits_rest, wrote_then}
use Rattle.texts.proofs.Puts.{room_past, room_fits, put-room}
use Rattle.texts.proofs.Writer.put_field.Goals as goal

pub put_decimal-self-requires : goal.put_decimal-self-requires
put_decimal-self-requires c =
    let a = c.args in
    let fits = room_fits a.word.now (decimal a.n) a.self.now.out.now a.self.now.at c.count_digits-digits.ensures c.has_room.ensures c.if-has_room.true in
    fits_rest fits (record { bytes = c.copy_at.ensures; place = refl })

-- the text
pub returns-then-has_room-clause-text : goal.returns-then-has_room-clause-text
unfolding field
returns-then-has_room-clause-text c =
    let a = c.args in
    let fits = room_fits a.word.now (decimal a.n) a.self.now.out.now a.self.now.at c.count_digits-digits.ensures c.has_room.ensures c.if-has_room.true in
    put-room fits (wrote_then fits (record { bytes = c.copy_at.ensures; place = refl }) c.put_decimal-self.ensures)

-- no room
pub returns-else-has_room-clause-text : goal.returns-else-has_room-clause-text
unfolding field
returns-else-has_room-clause-text c =
    let a = c.args in
    room_past a.word.now (decimal a.n) a.self.now.out.now a.self.now.at c.count_digits-digits.ensures c.has_room.ensures c.if-has_room.false
