-- `writing_bodies::lay_one` lays one body: where it has room, three bytes stored and the piece copied behind them (`laid_one`).
-- Trusts: nothing.
use mathlib.Core.Path.{refl, sym}
use native.Mathlib.Omega.{arith}
use Rattle.writing_bodies.proofs.Laws.{laid_past}
use Rattle.writing_bodies.proofs.Turn.{laid_one}
use Rattle.writing_bodies.proofs.lay_one.Goals as goal

-- no room for the head
pub returns-then-out-at : goal.returns-then-out-at
returns-then-out-at c = sym (laid_past _ _ _ _ _ (omega arith))

-- no room for the piece
pub returns-then-out-at-2 : goal.returns-then-out-at-2
returns-then-out-at-2 c = sym (laid_past _ _ _ _ _ (omega arith))

-- the body
pub returns : goal.returns
returns c = laid_one _ _ _ _ _ refl (omega (arith, c.if-out-at-2.false)) c.copy_at.ensures
