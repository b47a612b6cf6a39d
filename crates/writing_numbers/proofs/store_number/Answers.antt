-- `writing_numbers::store_number` writes an element with a number. The loop stores its bytes from the last to the first (`Stored`).
-- Trusts: nothing.
use Rattle.std.proofs.Common.{◌-◌, arith}
use lib.ListN.{length-set}
use Rattle.writing_numbers.proofs.Stored.{stored-none, stored_more, stored-all, wrote-element}
use Rattle.writing_numbers.proofs.store_number.Goals as goal

pub loop-k-init : goal.loop-k-init
loop-k-init c = stored-none _ _ _ _ (simp length-set c.requires)

-- one byte more
pub loop-k-preserved : goal.loop-k-preserved
loop-k-preserved c = stored_more _ _ _ _ c.loop-k.invariant (c.loop-k.k - 1) (omega arith)

-- the element
pub returns : goal.returns
returns c = wrote-element _ _ _ _ _ c.requires (stored-all _ _ _ _ c.loop-k.invariant (omega arith))
