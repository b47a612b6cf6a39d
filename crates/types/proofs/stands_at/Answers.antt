-- `types::stands_at` tests the row, then the type. That the array is the table is computed.
-- Trusts: nothing.
use mathlib.Core.Path.{ap}
use Rattle.types.proofs.LawsTypes.{lines}
use Rattle.types.proofs.LawsColumns.{code_line}
use Rattle.types.proofs.LawsPlaces.{stands_row, stands_other}
use Rattle.types.proofs.stands_at.Goals as goal
use Rattle.types.specs.declared.TypeLine.{TypeLine}

pub returns-then-place-parent : goal.returns-then-place-parent
unfolding lines
returns-then-place-parent c =
    stands_row _ c.args.parent c.args.kind (ap (λ (l : TypeLine). l.parent) (code_line _ c.requires _)) (ap (λ (l : TypeLine). l.kind) (code_line _ c.requires _)) c.if-place-parent.true

pub returns-else-place-parent : goal.returns-else-place-parent
unfolding lines
returns-else-place-parent c = stands_other _ c.args.parent c.args.kind (ap (λ (l : TypeLine). l.parent) (code_line _ c.requires _)) c.if-place-parent.false
