-- `collector::count_empty` gives `empty_slots`: a flag more, by its two cases.
-- Trusts: nothing.
use mathlib.Core.Path.{refl}
use borrow.Author.Tests.{eq-eqb, ne_eqb}
use native.Mathlib.Omega.{arith}
use native.Mathlib.Numerals.{add-one}
use lib.ListN.{get_or}
use Rattle.held.specs.Held.{empty_slots}
use Rattle.collector.proofs.count_empty.Goals as goal
use Rattle.collector.proofs.count_empty.Goals.{then-filled-k-eq0, else-filled-k-eq0}

pub loop-k-init : goal.loop-k-init
unfolding empty_slots
loop-k-init c = (refl, omega arith)

pub loop-k-preserved : goal.loop-k-preserved
unfolding empty_slots
loop-k-preserved c =
    let f = get_or c.args.filled c.loop-k.k 0 in
    elim c.if-filled-k-eq0.branch [
      | then-filled-k-eq0 w ↦ (rw (add-one, eq-eqb f 0 w.if-filled-k-eq0.true) (omega arith), omega arith)
      | else-filled-k-eq0 w ↦ (rw (add-one, ne_eqb f 0 w.if-filled-k-eq0.false) (omega arith), omega arith)
    ]
