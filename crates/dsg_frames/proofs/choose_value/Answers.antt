-- `dsg_frames::choose_value` gives `choice_for`: what `choose_rule` answers, as numbers.
-- Trusts: nothing.
use Rattle.dsg_frames.proofs.choose_value.Goals as goal

pub returns : goal.returns
returns c = rw (c.choice_from.ensures, c.choose_rule.ensures, c.ucid_from-upstream.ensures)
