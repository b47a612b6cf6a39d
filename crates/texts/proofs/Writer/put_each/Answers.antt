-- `texts::Writer::put_each` writes a text for each entry: one more at each turn, all of them after the last.
-- Trusts: nothing.
use Rattle.std.proofs.Common.{length, arith, sym, refl, ◌∙◌}
use Rattle.texts.proofs.Turns.{turned_none, turned_room, turned_more, turned_all}
use Rattle.texts.proofs.Writer.put_each.Goals as goal

pub loop-item-init : goal.loop-item-init
loop-item-init g c = record { turned = turned_none g.row.MOST 0 g.line _ _ _; same = refl }

pub put-requires : goal.put-requires
put-requires g c = c.requires.1.1.1.0.callable _ _ (turned_room g.row.MOST (length c.args.items.now) g.line c.args.items.now c.args.self.now.out.now c.args.self.now.at (omega arith) c.requires.1.1.1.1 c.loop-item.invariant.turned (omega arith))

pub loop-item-preserved : goal.loop-item-preserved
loop-item-preserved g c =
    let room = turned_room g.row.MOST (length c.args.items.now) g.line c.args.items.now c.args.self.now.out.now c.args.self.now.at (omega arith) c.requires.1.1.1.1 c.loop-item.invariant.turned (omega arith) in
    record {
      turned = turned_more g.row.MOST (length c.args.items.now) g.line _ _ _ (omega arith) c.requires.1.1.1.1 c.loop-item.invariant.turned _ (sym c.item-item.is) (omega arith) (c.requires.1.1.1.0.writes _ _ _ room c.put.ensures);
      same = c.requires.1.1.1.0.keeps _ _ _ room c.put.ensures ∙ c.loop-item.invariant.same;
    }

pub returns-clause-text : goal.returns-clause-text
returns-clause-text g c = turned_all g.row.MOST (length c.args.items.now) g.line _ _ _ (omega arith) c.requires.1.1.1.1 c.loop-item.invariant.turned (omega arith)
