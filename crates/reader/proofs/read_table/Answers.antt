-- `reader::read_table` gives read_table: the message's table, or its refusal with the given one.
-- Trusts: nothing.
use Rattle.reader.specs.Shown.{passed, shown}
use Rattle.reader.proofs.read_table.Goals as goal

pub returns-in-Ok : goal.returns-in-Ok
unfolding shown passed
returns-in-Ok c = c.in-Ok.ensures c.args.given

pub returns-in-Err : goal.returns-in-Err
unfolding shown passed
returns-in-Err c = c.in-Err.ensures c.args.given
