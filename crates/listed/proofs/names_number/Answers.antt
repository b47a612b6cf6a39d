-- `listed::names_number` gives `names_number`: the library's search of the numbers that are used.
-- Trusts: nothing.
use mathlib.Core.Path.{◌∙◌}
use lib.Dec.{eqb}
use Rattle.table.specs.Table.{numbers_of}
use Rattle.listed.specs.Listed.{names_number}
use Rattle.order.proofs.Search.{any_of_listed, eqb_turned}
use Rattle.listed.proofs.names_number.Goals as goal

pub returns : goal.returns
unfolding names_number numbers_of
returns c = rw (← c.limited-count.ensures) (c.contains.ensures.value ∙ any_of_listed _ (eqb c.args.number) _ (λ x. eqb_turned x c.args.number))
