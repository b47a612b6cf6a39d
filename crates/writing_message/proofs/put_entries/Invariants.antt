-- `writing_message::put_entries` writes the elements one behind the other and adds them to the record of the pieces (`Adding`).
-- Trusts: nothing.
use Rattle.writing_message.proofs.Turns.{Adding}
use Rattle.writing_message.proofs.put_entries.Given as goal

abbrev pub invariant-loop-entry : goal.invariant-loop-entry
invariant-loop-entry g l = Adding g.row.MOST g.line.bytes l.entries l.initial.held (record { length = l.initial.at; cut = l.initial.cut }) l.entry-index l.held l.at l.cut
