-- `musts::lacks_between` says whether a must is missing.
-- Trusts: nothing.
use mathlib.Core.Path.{sym, ◌∙◌}
use native.Mathlib.Omega.{arith}
use Rattle.musts.proofs.Laws.{lacks_in-here, lacks_in-other, lacks_in-none}
use Rattle.musts.proofs.lacks_between.Goals as goal

pub returns-then-lacks_at : goal.returns-then-lacks_at
returns-then-lacks_at c = sym (lacks_in-here _ _ (omega arith) _ _ c.lacks_at.ensures c.if-lacks_at.true) ∙ c.loop-place.invariant

pub loop-place-preserved : goal.loop-place-preserved
loop-place-preserved c = sym (lacks_in-other _ _ (omega arith) _ _ c.lacks_at.ensures c.if-lacks_at.false) ∙ c.loop-place.invariant

pub returns : goal.returns
returns c = lacks_in-none _ _ _ _ (omega arith) ∙ c.loop-place.invariant
