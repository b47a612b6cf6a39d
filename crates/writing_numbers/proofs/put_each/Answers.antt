-- `writing_numbers::put_each` writes an element for each entry: one more at each turn, all of them after the last.
-- Trusts: nothing.
use Rattle.std.proofs.Common.{length, arith, sym}
use Rattle.texts.proofs.Turns.{turned_none, turned_room, turned_more, turned_all}
use Rattle.writing_numbers.proofs.put_each.Goals as goal

pub loop-entry-init : goal.loop-entry-init
loop-entry-init g c = turned_none g.row.MOST 0 g.line _ _ _

pub put-next-requires : goal.put-next-requires
put-next-requires g c =
    c.requires.1.1.1.0.callable _ _ _
    (turned_room g.row.MOST (length c.args.entries.now) g.line c.args.entries.now c.args.out.now c.args.at (omega arith) c.requires.1.1.1.1 c.loop-entry.invariant (omega arith))

-- one entry more
pub loop-entry-preserved : goal.loop-entry-preserved
loop-entry-preserved g c =
    let room = turned_room g.row.MOST (length c.args.entries.now) g.line c.args.entries.now c.args.out.now c.args.at (omega arith) c.requires.1.1.1.1 c.loop-entry.invariant (omega arith) in
    turned_more g.row.MOST (length c.args.entries.now) g.line _ _ _ (omega arith) c.requires.1.1.1.1 c.loop-entry.invariant _ (sym c.entry-item.is) (omega arith)
    (c.requires.1.1.1.0.writes _ _ _ _ _ room c.put-next.ensures)

pub returns : goal.returns
returns g c = turned_all g.row.MOST (length c.args.entries.now) g.line _ _ _ (omega arith) c.requires.1.1.1.1 c.loop-entry.invariant (omega arith)
