-- `held::all_sound` gives `sound_to`: behind the loop sixteen slots are looked at.
-- Trusts: nothing.
use Rattle.std.proofs.Common.{◌≡◌, arith}
use Rattle.held.proofs.all_sound.Goals as goal

pub returns : goal.returns
returns c =
    let k : c.loop-k.k ≡ 16 = omega arith in
    rw k at c.loop-k.invariant
