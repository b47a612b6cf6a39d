-- `texts::Writer::put_byte` gives `put` of one byte.
-- Trusts: nothing.
use Rattle.texts.proofs.Puts.{put_byte-room, put_byte_past}
use Rattle.texts.proofs.Writer.put_byte.Goals as goal

pub returns-then-self-out-clause-text : goal.returns-then-self-out-clause-text
returns-then-self-out-clause-text c = put_byte-room _ _ _ c.if-self-out.true

-- no room
pub returns-else-self-out-clause-text : goal.returns-else-self-out-clause-text
returns-else-self-out-clause-text c = put_byte_past _ _ _ c.if-self-out.false
