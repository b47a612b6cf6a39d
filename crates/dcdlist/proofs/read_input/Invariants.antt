-- `dcdlist::read_input` ends, and what it reads lies in the buffer. The bytes read so far are no more than the buffer has; what is
-- left of it falls, since a read that gives nothing ends the loop.
-- Trusts: nothing.
use Rattle.std.proofs.Common.{◌≡◌, ◌-◌, ◌≤◌, length}
use Rattle.dcdlist.proofs.read_input.Given as goal

abbrev pub invariant-loop-n : goal.invariant-loop-n
invariant-loop-n g l = (l.n ≤ length l.buffer) × (length l.buffer ≡ length l.initial.buffer)

abbrev pub decreases-loop-n : goal.decreases-loop-n
decreases-loop-n g l = length l.buffer - l.n
