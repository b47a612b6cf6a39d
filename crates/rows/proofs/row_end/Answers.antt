-- `rows::row_end` gives `row_end`: 13 where a must is missing.
-- Trusts: nothing.
use Rattle.refusals.specs.Refusals.{number_of}
use Rattle.rows.specs.Tests.{row_end}
use Rattle.rows.specs.Told.{fault_of}
use Rattle.rows.proofs.row_end.Goals as goal

pub returns-then-lacks_must : goal.returns-then-lacks_must
unfolding row_end fault_of number_of
returns-then-lacks_must c = simp (← c.lacks_must.ensures, c.if-lacks_must.true)

pub returns : goal.returns
unfolding row_end fault_of number_of
returns c = simp (← c.lacks_must.ensures, c.if-lacks_must.false)
