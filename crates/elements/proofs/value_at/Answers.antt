-- `elements::value_at` gives the length that `read_head` finds.
-- Trusts: nothing.
use mathlib.Core.Path.{ap, ◌∙◌}
use Rattle.elements.specs.Elements.{value_in}
use Rattle.elements.proofs.Stood.{value_told}
use Rattle.elements.proofs.value_at.Goals as goal

pub returns : goal.returns
returns c = c.unwrap_or.ensures ∙ value_told c.read_head.result ∙ ap value_in c.read_head.ensures
