-- `dsg_tables::answer_from` gives `read_answer`: 0, or the refusal's number and its offset.
-- Trusts: nothing.
use Rattle.reader.specs.Shown.{passed}
use Rattle.dsg_tables.proofs.answer_from.Goals as goal

pub returns-in-Ok : goal.returns-in-Ok
unfolding passed
returns-in-Ok c = simp c.in-Ok.is

pub returns-in-Err : goal.returns-in-Err
unfolding passed
returns-in-Err c = simp (c.in-Err.is, c.from.ensures, c.number.ensures)
