-- `cuts::judge_cuts` gives `cuts_in`. The loop keeps `Walk`; every turn passes a piece.
-- Trusts: nothing.
use Prim.Native.Nat.{◌*◌, ◌≤◌}
use Rattle.cuts.proofs.Walk.{Walk}
use Rattle.cuts.proofs.judge_cuts.Given as goal

abbrev pub invariant-loop-length : goal.invariant-loop-length
invariant-loop-length l = (l.cut ≤ l.length-index * 65535) × Walk l.message l.fn.lengths l.n l.cut l.length-index
