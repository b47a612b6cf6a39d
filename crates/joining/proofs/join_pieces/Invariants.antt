-- `joining::join_pieces` gives `join_step`. The loop's invariant: the join buffer has the pieces of the first `k` slots, and `at` is their
-- length.
-- Trusts: nothing.
use Rattle.std.proofs.Common.{◌≡◌, ◌*◌, ◌≤◌, length}
use Rattle.joining.specs.Pieces.{joined, joined_into}
use Rattle.joining.proofs.join_pieces.Given as goal

abbrev pub invariant-loop-k : goal.invariant-loop-k
invariant-loop-k l = record {
  few : l.at ≤ l.k * 65535;
  size : l.at ≡ length (joined l.slots l.lengths l.k);
  bytes : l.join ≡ joined_into l.initial.join l.slots l.lengths l.k;
}
