-- `numbers::number_short` gives `number_at`. The loop's invariant: `n` is the number of the first `k` bytes, and below 256 ^ k.
-- Trusts: nothing.
use mathlib.Core.Path.{◌≡◌, refl}
use Prim.Native.Nat.{◌-◌, ◌^◌, ◌≤◌, ◌<◌}
use native.Mathlib.Omega.{arith}
use native.Mathlib.Nat.{pow-suc, le_antisymm}
use native.Mathlib.Numerals.{add-one}
use borrow.Author.Rules.{rules}
use Rattle.numbers.specs.Numbers.{number_at}
use Rattle.numbers.proofs.Laws.{pow_five}
use Rattle.numbers.proofs.number_short.Goals as goal

pub loop-k-init : goal.loop-k-init
unfolding number_at
loop-k-init c = (refl, omega arith)

pub overflow_mul-n : goal.overflow_mul-n
overflow_mul-n c = omega (arith, pow_five c.loop-k.k (omega arith))

pub overflow_add-n : goal.overflow_add-n
overflow_add-n c = omega (arith, pow_five c.loop-k.k (omega arith))

pub loop-k-preserved : goal.loop-k-preserved
unfolding number_at
loop-k-preserved c =
    let k = c.loop-k.k in
    let i = c.loop-k.invariant in
    (rw (add-one k, i.0, c.from.ensures, c.byte_after.ensures) refl, rw (add-one k) (omega (arith, pow-suc 256 k)))
