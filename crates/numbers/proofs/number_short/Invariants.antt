-- `numbers::number_short` gives `number_at`. The loop's invariant: `n` is the number of the first `k` bytes, and below 256 ^ k.
-- Trusts: nothing.
use mathlib.Core.Path.{◌≡◌, refl}
use Prim.Native.Nat.{◌^◌, ◌<◌}
use native.Mathlib.Omega.{arith}
use native.Mathlib.Nat.{pow-suc, le_antisymm}
use native.Mathlib.Numerals.{add-one}
use borrow.Author.Rules.{rules}
use Rattle.numbers.specs.Numbers.{number_at}
use Rattle.numbers.proofs.Laws.{pow_five}
use Rattle.numbers.proofs.number_short.Given as goal

abbrev pub invariant-loop-k : goal.invariant-loop-k
invariant-loop-k l = (l.n ≡ number_at l.k l.bytes l.at) × (l.n < 256 ^ l.k)
