-- `compare::same_long` gives `same_bytes`. The loop's invariant: the first `at` bytes of both are the same; what falls is the length less `at`.
-- Trusts: nothing.
use mathlib.Core.Path.{sym, ◌∙◌}
use Prim.Native.Nat.{◌+◌, ◌-◌}
use native.Mathlib.Omega.{arith}
use lib.ListN.{length}
use Rattle.compare.proofs.Blocks.{block_on, block_apart, block_last}
use Rattle.compare.proofs.same_long.Goals as goal
use Rattle.compare.proofs.same_long.Goals.{else-loop-at-test, then-loop-at-test+else-not-same_block+else-last-at-gt256}

-- a block differs
pub returns-then-not-same_block : goal.returns-then-not-same_block
returns-then-not-same_block c =
    let a = c.args in
    sym (block_apart a.a.now a.b.now c.loop-at.at (sym c.same_block.ensures ∙ c.if-not-same_block.true))

pub loop-at-preserved : goal.loop-at-preserved
loop-at-preserved c =
    let a = c.args in
    (omega arith, block_on a.a.now a.b.now c.loop-at.at c.loop-at.invariant.1 (sym c.same_block.ensures ∙ c.if-not-same_block.false))

-- the last block: behind the last step, or behind a block that reaches it
pub returns : goal.returns
returns c =
    let a = c.args.a.now in
    let b = c.args.b.now in
    let at = c.loop-at.at in
    let last = length a - 256 in
    c.same_block-2.ensures
    ∙ elim c.loop-at-test.branch [
      | else-loop-at-test w ↦ block_last a b at last (omega arith) (omega arith) (omega arith) c.loop-at.invariant.1
      | then-loop-at-test+else-not-same_block+else-last-at-gt256 w ↦
          block_last a b (at + 256) last (omega arith) (omega arith) (omega arith)
          (block_on a b at c.loop-at.invariant.1 (sym w.same_block.ensures ∙ w.if-not-same_block.false))
    ]
