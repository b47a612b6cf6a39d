-- `dsg_frames::judge_parts` gives what `judge_lent` answers, as numbers.
-- Trusts: nothing.
use Rattle.dsg_frames.proofs.judge_parts.Goals as goal

pub returns : goal.returns
returns c = rw (c.verdict_from.ensures, c.judge_lent.ensures)
