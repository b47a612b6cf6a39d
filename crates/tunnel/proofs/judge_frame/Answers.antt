-- `tunnel::judge_frame` gives `verdict_of`: the length, then the choice, then the chosen rule.
-- Trusts: nothing.
use Rattle.refusals.specs.Refusals.{number_of}
use Rattle.payloads.specs.Judged.{judged}
use Rattle.choice.specs.Chose.{chose}
use Rattle.tunnel.specs.Judge.{choice_verdict, verdict_of}
use Rattle.tunnel.proofs.judge_frame.Goals as goal

pub returns-then-wrong_length : goal.returns-then-wrong_length
unfolding verdict_of judged number_of
returns-then-wrong_length c = simp (c.number.ensures, ← c.wrong_length.ensures, c.if-wrong_length.true)

pub returns-in-Err : goal.returns-in-Err
unfolding verdict_of choice_verdict chose judged
returns-in-Err c =
    simp (c.number-in-Err.ensures, ← c.wrong_length.ensures, c.if-wrong_length.false, ← c.choose_rule.ensures, c.in-Err.is)

pub returns-in-Ok : goal.returns-in-Ok
unfolding verdict_of choice_verdict chose
returns-in-Ok c =
    simp (c.judge_rule.ensures, c.rule_at.ensures, ← c.wrong_length.ensures, c.if-wrong_length.false, ← c.choose_rule.ensures, c.in-Ok.is)
