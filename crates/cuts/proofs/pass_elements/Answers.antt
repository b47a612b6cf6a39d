-- `cuts::pass_elements` gives `Passed`. The loop keeps `Passing`; every turn passes an element, and what falls is the bytes left before the cut.
-- Trusts: nothing.
use mathlib.Core.Path.{refl}
use Rattle.cuts.proofs.Passing.{passing_long, passing_255, passing_on}
use Rattle.cuts.proofs.pass_elements.Goals as goal

-- a value ends behind it
pub returns-then-stop-next-2 : goal.returns-then-stop-next-2
returns-then-stop-next-2 c = passing_long _ _ _ _ c.loop-from.invariant _ refl c.if-stop-next-2.true

-- a length of 255
pub returns-then-len-eq255 : goal.returns-then-len-eq255
returns-then-len-eq255 c = passing_255 _ _ _ _ c.loop-from.invariant _ refl c.requires.1 c.if-stop-next.false c.if-len-eq255.true

-- the element is passed
pub loop-from-preserved : goal.loop-from-preserved
loop-from-preserved c = passing_on _ _ _ _ c.loop-from.invariant _ refl c.requires.1 c.if-stop-next.false c.if-stop-next-2.false c.if-len-eq255.false
