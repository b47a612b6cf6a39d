-- `texts::glyph` gives `digit`: one answer on each side of its test.
-- Trusts: nothing.
use borrow.Author.Tests.{lt-ltb, le-ltb}
use Rattle.texts.specs.Text.{digit}
use Rattle.texts.proofs.glyph.Goals as goal

-- `0` to `9`
pub returns-then-d-lt10 : goal.returns-then-d-lt10
unfolding digit
returns-then-d-lt10 c = simp (lt-ltb _ _ c.if-d-lt10.true)

-- `a` to `f`
pub returns-else-d-lt10 : goal.returns-else-d-lt10
unfolding digit
returns-else-d-lt10 c = simp (le-ltb _ _ c.if-d-lt10.false)
