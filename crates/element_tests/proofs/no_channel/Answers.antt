-- `element_tests::no_channel` gives `no_channel`, on each side of its tests.
-- Trusts: nothing.
use borrow.Author.Tests.{lt-ltb, le-ltb}
use Prim.Native.Nat.{◌<◌}
use native.Mathlib.Omega.{arith}
use Rattle.element_tests.specs.Tests.{no_channel}
use Rattle.element_tests.proofs.no_channel.Goals as goal
use Rattle.element_tests.proofs.no_channel.Goals.{then-hertz-lt62500, else-hertz-lt62500}

pub returns-then-hertz-gt1000000000 : goal.returns-then-hertz-gt1000000000
unfolding no_channel
returns-then-hertz-gt1000000000 c =
    elim c.if-hertz-lt62500.branch [
      | then-hertz-lt62500 w ↦ simp (w.t-3-is, lt-ltb _ _ w.if-hertz-lt62500.true)
      | else-hertz-lt62500 w ↦
          let above : 1000000000 < c.args.hertz = omega arith in
          simp (w.t-3-is, le-ltb _ _ w.if-hertz-lt62500.false, lt-ltb _ _ above)
    ]

pub returns-else-hertz-gt1000000000 : goal.returns-else-hertz-gt1000000000
unfolding no_channel
returns-else-hertz-gt1000000000 c = simp (le-ltb _ _ c.if-hertz-gt1000000000.false.0, le-ltb _ _ c.if-hertz-gt1000000000.false.1)
