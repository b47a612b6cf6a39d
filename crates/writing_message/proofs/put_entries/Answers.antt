-- `writing_message::put_entries` writes the elements one behind the other: another one has room, and is short.
-- Trusts: nothing.
use Rattle.std.proofs.Common.{sym, arith}
use Rattle.writing_message.proofs.Turns.{Begun, adding_none, adding_filled, adding_size, adding_more, adding_all}
use Rattle.writing_message.proofs.put_entries.Goals as goal

pub overflow_sub-next : goal.overflow_sub-next
overflow_sub-next g c =
    let r = c.requires.1.1.1 in
    let b : Begun g.row.MOST g.line.bytes c.args.entries.now c.args.held.now c.args.done = record { short = g.line.short; small = r.0.0; few = r.0.1; size = r.1.0.0; room = r.1.0.1 } in
    (adding_size b c.loop-entry.invariant c.loop-entry-test.true _ (r.1.1.1.writes _ _ _ _ _ c.put-next.ensures)).0

pub add_element-cut-requires : goal.add_element-cut-requires
add_element-cut-requires g c =
    let r = c.requires.1.1.1 in
    let b : Begun g.row.MOST g.line.bytes c.args.entries.now c.args.held.now c.args.done = record { short = g.line.short; small = r.0.0; few = r.0.1; size = r.1.0.0; room = r.1.0.1 } in
    ((adding_size b c.loop-entry.invariant c.loop-entry-test.true _ (r.1.1.1.writes _ _ _ _ _ c.put-next.ensures)).1, adding_filled b c.loop-entry.invariant c.loop-entry-test.true)

pub loop-entry-init : goal.loop-entry-init
loop-entry-init g c = adding_none c.requires.1.1.1.1.1.0

-- one element more
pub loop-entry-preserved : goal.loop-entry-preserved
loop-entry-preserved g c =
    let r = c.requires.1.1.1 in
    let b : Begun g.row.MOST g.line.bytes c.args.entries.now c.args.held.now c.args.done = record { short = g.line.short; small = r.0.0; few = r.0.1; size = r.1.0.0; room = r.1.0.1 } in
    adding_more b c.loop-entry.invariant c.loop-entry-test.true _ (r.1.1.1.writes _ _ _ _ _ c.put-next.ensures) c.entry-item.result (sym c.entry-item.is) c.add_element-cut.ensures

pub returns : goal.returns
returns g c =
    let r = c.requires.1.1.1 in
    let b : Begun g.row.MOST g.line.bytes c.args.entries.now c.args.held.now c.args.done = record { short = g.line.short; small = r.0.0; few = r.0.1; size = r.1.0.0; room = r.1.0.1 } in
    adding_all b c.loop-entry.invariant (omega arith)
