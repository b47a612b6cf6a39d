-- `collector::count_empty` gives `empty_slots`. The loop's invariant: `empty` counts the empty ones of the first `k` slots, and is `k` at most.
-- Trusts: nothing.
use mathlib.Core.Path.{◌≡◌}
use Prim.Native.Nat.{◌≤◌}
use Rattle.held.specs.Held.{empty_slots}
use Rattle.collector.proofs.count_empty.Given as goal

abbrev pub invariant-loop-k : goal.invariant-loop-k
invariant-loop-k l = (l.empty ≡ empty_slots l.filled l.k) × (l.empty ≤ l.k)
