-- `types::known_at` gives what the table says at a place. That the array is the table is computed.
-- Trusts: nothing.
use mathlib.Core.Path.{ap}
use Rattle.types.specs.Places.{known_at}
use Rattle.types.specs.declared.TypeLine.{TypeLine}
use Rattle.types.proofs.LawsTypes.{lines}
use Rattle.types.proofs.LawsColumns.{code_line}
use Rattle.types.proofs.known_at.Goals as goal

pub returns : goal.returns
unfolding lines known_at
returns c = ap (λ (l : TypeLine). l.known) (code_line _ c.requires _)
