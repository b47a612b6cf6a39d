-- `collector::settle` gives `settled`: one law of LawsStep for each answer.
-- Trusts: nothing.
use Rattle.collector.proofs.LawsStep.{settled_loose, settled_good, settled-bad}
use Rattle.collector.proofs.settle.Goals as goal

-- loose
pub returns-then-next-eq0 : goal.returns-then-next-eq0
returns-then-next-eq0 c = settled_loose _ _ _ c.requires c.if-next-eq0.true

-- every cut is good
pub returns-in-None : goal.returns-in-None
returns-in-None c = settled_good _ _ _ c.requires c.if-next-eq0.false c.judge_cuts.ensures c.in-None.is

-- dropped
pub returns-in-Some : goal.returns-in-Some
returns-in-Some c = settled-bad _ _ _ c.requires c.if-next-eq0.false c.judge_cuts.ensures c.in-Some.is
