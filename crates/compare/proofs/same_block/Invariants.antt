-- `compare::same_block` gives `same_bytes` of the two blocks. The loop's invariant: `apart` is 0 exactly where the first `k` bytes of both are the
-- same; what falls is 256 - k.
-- Trusts: nothing.
use mathlib.Core.Path.{◌≡◌}
use Prim.Native.Nat.{◌-◌, ◌≤◌}
use lib.ListN.{take, drop}
use lib.Dec.{eqb}
use Rattle.compare.specs.Compare.{same_bytes}
use Rattle.compare.proofs.same_block.Given as goal

abbrev pub invariant-loop-k : goal.invariant-loop-k
invariant-loop-k l = (l.k ≤ 256) × (eqb l.apart 0 ≡ same_bytes (take l.k (drop l.at l.a)) (take l.k (drop l.at l.b)))

abbrev pub decreases-loop-k : goal.decreases-loop-k
decreases-loop-k l = 256 - l.k
