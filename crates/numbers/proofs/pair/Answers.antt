-- `numbers::pair` gives `number_at 2`: its two bytes are below 256.
-- Trusts: nothing.
use Prim.Native.Nat.{◌+◌}
use native.Mathlib.Omega.{arith}
use native.Mathlib.Nat.{add-zero, zero-add}
use borrow.Author.Rules.{rules}
use Rattle.numbers.specs.Numbers.{number_at}
use Rattle.numbers.proofs.pair.Goals as goal

pub returns : goal.returns
unfolding number_at
returns c = simp (add-zero, zero-add)
