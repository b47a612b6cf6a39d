-- `children::children_of` begins at the row's start.
-- Trusts: nothing.
use mathlib.Core.Path.{refl}
use Rattle.children.specs.Children.{left}
use Rattle.children.proofs.children_of.Goals as goal

pub returns : goal.returns
unfolding left
returns c = refl
