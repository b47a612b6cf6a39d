-- `held::all_sound` gives `sound_to`. The loop's invariant: `sound` says whether the first `k` slots are.
-- Trusts: nothing.
use Rattle.std.proofs.Common.{◌≡◌}
use Rattle.held.specs.Held.{sound_to}
use Rattle.held.proofs.all_sound.Given as goal

abbrev pub invariant-loop-k : goal.invariant-loop-k
invariant-loop-k l = l.sound ≡ sound_to l.filled l.lengths l.n l.k
