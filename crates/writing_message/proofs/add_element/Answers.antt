-- `writing_message::add_element` gives `cut_on`: one answer on each side of its test.
-- Trusts: nothing.
use borrow.Author.Tests.{lt-ltb, le-ltb}
use Rattle.writing_message.specs.Message.{cut_on}
use Rattle.writing_message.proofs.add_element.Goals as goal

-- the element begins the next piece
pub returns-then-cut-n-gt-PIECE_BYTES : goal.returns-then-cut-n-gt-PIECE_BYTES
unfolding cut_on
returns-then-cut-n-gt-PIECE_BYTES c = simp (lt-ltb _ _ c.if-cut-n-gt-PIECE_BYTES.true)

-- the element goes into the piece
pub returns : goal.returns
unfolding cut_on
returns c = simp (le-ltb _ _ c.if-cut-n-gt-PIECE_BYTES.false)
