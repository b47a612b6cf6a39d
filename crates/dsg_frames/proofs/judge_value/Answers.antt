-- `dsg_frames::judge_value` gives `verdict_for`: what `judge_frame` answers, as numbers.
-- Trusts: nothing.
use Rattle.dsg_frames.proofs.judge_value.Goals as goal

pub returns : goal.returns
returns c = rw (c.verdict_from.ensures, c.judge_frame-verdict.ensures, c.ucid_from-upstream.ensures)
