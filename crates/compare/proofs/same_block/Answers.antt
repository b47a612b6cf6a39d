-- `compare::same_block` gives `same_bytes` of the two blocks. The loop's invariant: `apart` is 0 exactly where the first `k` bytes of both are the
-- same; what falls is 256 - k.
-- Trusts: nothing.
use mathlib.Core.Path.{refl, sym, ap, ◌∙◌}
use mathlib.Core.Bool.{Bool, ◌&&◌}
use Prim.Native.Nat.{◌+◌}
use native.Mathlib.Omega.{arith}
use native.Mathlib.Numerals.{add-one}
use lib.ListN.{get_or}
use lib.Dec.{eqb}
use Rattle.compare.specs.Compare.{same_bytes}
use Rattle.compare.proofs.Blocks.{gathered, block_more}
use Rattle.compare.proofs.same_block.Goals as goal

pub loop-k-init : goal.loop-k-init
unfolding same_bytes
loop-k-init c = (omega arith, refl)

pub loop-k-preserved : goal.loop-k-preserved
loop-k-preserved c =
    let a = c.args in
    let k = c.loop-k.k in
    let x = get_or a.a.now (a.at + k) 0 in
    let y = get_or a.b.now (a.at + k) 0 in
    (omega arith, rw add-one (gathered c.loop-k.apart x y ∙ ap (λ (t : Bool). t && eqb x y) c.loop-k.invariant.1 ∙ sym (block_more a.a.now a.b.now a.at k (omega arith) (omega arith))))
