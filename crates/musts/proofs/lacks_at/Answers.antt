-- `musts::lacks_at` tests the need, then the count. That the array is that column of the table is computed.
-- Trusts: nothing.
use borrow.Author.Rules.{rules}
use mathlib.Core.Bool.{false}
use Rattle.types.proofs.LawsTypes.{lines, column_at}
use Rattle.musts.proofs.Laws.{lacks_count, lacks_free}
use Rattle.musts.proofs.lacks_at.Goals as goal

pub returns-then-place : goal.returns-then-place
unfolding lines
returns-then-place c =
    lacks_count _ c.args.counts.now c.args.list (column_at _ c.requires.0 (λ l. l.need) false) c.if-place.true

pub returns-else-place : goal.returns-else-place
unfolding lines
returns-else-place c =
    lacks_free _ c.args.counts.now c.args.list (column_at _ c.requires.0 (λ l. l.need) false) c.if-place.false
