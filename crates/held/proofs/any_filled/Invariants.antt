-- `held::any_filled` says whether fewer than sixteen slots are empty. The loop's invariant: `some` says whether fewer than `k` of the
-- first `k` are.
-- Trusts: nothing.
use Rattle.std.proofs.Common.{◌≡◌, ltb}
use Rattle.held.specs.Held.{empty_slots}
use Rattle.held.proofs.any_filled.Given as goal

abbrev pub invariant-loop-k : goal.invariant-loop-k
invariant-loop-k l = l.some ≡ ltb (empty_slots l.filled l.k) l.k
