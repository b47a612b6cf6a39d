-- `cuts::pass_elements` gives `Passed`. The loop keeps `Passing`; every turn passes an element, and what falls is the bytes left before the cut.
-- Trusts: nothing.
use Prim.Native.Nat.{◌+◌, ◌-◌}
use Rattle.cuts.proofs.Passing.{Passing}
use Rattle.cuts.proofs.pass_elements.Given as goal

abbrev pub invariant-loop-from : goal.invariant-loop-from
invariant-loop-from l = Passing l.message l.from l.cut l.place

abbrev pub decreases-loop-from : goal.decreases-loop-from
decreases-loop-from l = l.cut + 1 - l.place
