-- `numbers::number6` gives `number_at 6`: four bytes and two, by the law of a number in two parts.
-- Trusts: nothing.
use native.Mathlib.Omega.{arith}
use borrow.Author.Rules.{rules}
use Rattle.numbers.proofs.Laws.{number_at_add}
use Rattle.numbers.proofs.number6.Goals as goal

-- the bytes are all there
pub returns : goal.returns
returns c =
    let a = c.args in
    omega (arith, number_at_add 4 2 a.bytes.now a.at)
