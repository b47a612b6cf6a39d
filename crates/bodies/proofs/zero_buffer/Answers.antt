-- `bodies::zero_buffer` gives `zeros`.
-- Trusts: nothing.
use mathlib.Core.Path.{refl}
use Rattle.bodies.specs.Body.{zeros}
use Rattle.bodies.proofs.zero_buffer.Goals as goal

pub returns : goal.returns
unfolding zeros
returns c = refl
