-- `texts::Writer::put_each` writes a text for each entry. After i turns the texts of the first i stand there (`Turned`), in the same buffer.
-- Trusts: nothing.
use Rattle.std.proofs.Common.{◌≡◌}
use Rattle.texts.proofs.Turns.{Turned}
use Rattle.texts.proofs.Writer.put_each.Given as goal

abbrev pub invariant-loop-item : goal.invariant-loop-item
invariant-loop-item g l = record {
  turned : Turned g.row.MOST g.line l.items l.initial.self.out.now l.initial.self.at l.item-index l.self.out.now l.self.at;
  same : l.self.out.ghost_name ≡ l.initial.self.out.ghost_name;
}
