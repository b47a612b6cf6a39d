-- `order::is_better` gives `is_better`: none so far, then the two pairs in order.
-- Trusts: nothing.
use mathlib.Core.Path.{◌∙◌}
use Rattle.order.specs.Best.{is_better}
use Rattle.order.proofs.Order.{pairs_in_order}
use Rattle.order.proofs.is_better.Goals as goal

pub returns-in-None : goal.returns-in-None
unfolding is_better
returns-in-None c = rw c.in-None.is

pub returns-in-Some : goal.returns-in-Some
unfolding is_better
returns-in-Some c = rw c.in-Some.is (c.lt.ensures ∙ pairs_in_order c.args.priority c.args.number c.in-Some.best.priority c.in-Some.best.number)
