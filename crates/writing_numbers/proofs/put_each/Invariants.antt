-- `writing_numbers::put_each` writes an element for each entry. After i turns those of the first i stand there (`Turned`).
-- Trusts: nothing.
use Rattle.texts.proofs.Turns.{Turned}
use Rattle.writing_numbers.proofs.put_each.Given as goal

abbrev pub invariant-loop-entry : goal.invariant-loop-entry
invariant-loop-entry g l = Turned g.row.MOST g.line l.entries l.initial.out l.at l.entry-index l.out l.next
