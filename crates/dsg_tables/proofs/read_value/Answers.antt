-- `dsg_tables::read_value` gives `read_stepped`: what `read_table` leaves, with its verdict as numbers.
-- Trusts: nothing.
use mathlib.Core.Path.{ap}
use Rattle.reader.specs.Shown.{shown}
use Rattle.dsg_tables.specs.Tables.{reading_as}
use Rattle.dsg_tables.proofs.read_value.Goals as goal

pub returns : goal.returns
unfolding shown
returns c = rw c.answer_from-answer.ensures (ap reading_as c.read_table-reading.ensures)
