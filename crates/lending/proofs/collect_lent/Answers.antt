-- `lending::collect_lent` gives `lent_at`: what `collect` leaves, and the parts that `own_part` and `joined_part` lend of it.
-- Trusts: nothing.
use Rattle.std.proofs.Common.{refl}
use Rattle.lending.proofs.Laws.{step_lent}
use Rattle.lending.proofs.collect_lent.Goals as goal

pub returns : goal.returns
returns c = step_lent c.args.held c.args.slots.now _ _ _ _ _ _ c.collect-outcome.ensures c.own_part.ensures c.joined_part-joined.ensures refl
