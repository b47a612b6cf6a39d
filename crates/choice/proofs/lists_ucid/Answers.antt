-- `choice::lists_ucid` gives `lists_ucid`: the library's search of the UCIDs that are used.
-- Trusts: nothing.
use mathlib.Core.Path.{◌∙◌}
use lib.Dec.{eqb}
use Rattle.table.specs.Table.{ucids_of}
use Rattle.choice.specs.Choose.{lists_ucid}
use Rattle.order.proofs.Search.{any_of_listed, eqb_turned}
use Rattle.choice.proofs.lists_ucid.Goals as goal

pub returns : goal.returns
unfolding lists_ucid ucids_of
returns c = rw (← c.limited-count.ensures) (c.contains.ensures.value ∙ any_of_listed _ (eqb c.args.ucid) _ (λ x. eqb_turned x c.args.ucid))
