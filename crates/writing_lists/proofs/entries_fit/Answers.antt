-- `writing_lists::entries_fit` goes over the used places, and keeps Used; then over the others, and keeps Unused.
-- Trusts: nothing.
use Rattle.std.proofs.Common.{◌≤◌, length, arith}
use Rattle.listed.proofs.Laws.{limited_le}
use Rattle.writing_lists.proofs.Numbered.{front_item, behind_item, used_none, used_more, unused_more, unused_end}
use Rattle.writing_lists.proofs.entries_fit.Goals as goal

pub loop-i-init : goal.loop-i-init
loop-i-init g c = used_none (limited_le 32 c.args.count c.limited-n.ensures) c.requires

pub loop-i-preserved : goal.loop-i-preserved
loop-i-preserved g c =
    let within : c.limited-n.result ≤ length c.args.entries.now = omega (arith, limited_le 32 c.args.count c.limited-n.ensures, c.requires) in
    let item = front_item c.args.entries.now c.limited-n.result c.loop-i.i c.entry-item.result within c.loop-i-test.true c.entry-item.is in
    used_more c.loop-i.invariant item.0 c.entry-item.result item.1 c.number-number.ensures c.is_sound.ensures c.is_listed.ensures

pub loop-entry-preserved : goal.loop-entry-preserved
loop-entry-preserved g c =
    let within : c.limited-n.result ≤ length c.args.entries.now = omega (arith, limited_le 32 c.args.count c.limited-n.ensures, c.requires) in
    let item = behind_item c.args.entries.now c.limited-n.result c.loop-entry.entry-index c.entry-item-in-loop-entry.result within c.loop-entry-test.true c.entry-item-in-loop-entry.is in
    unused_more c.loop-entry.invariant (omega (arith, item.0, c.requires)) c.entry-item-in-loop-entry.result item.1 c.is_unused-fit.ensures (omega arith)

pub returns : goal.returns
returns g c = unused_end c.loop-entry.invariant (omega arith) c.limited-n.ensures
