-- `numbers::four` gives `number_at 4`: two pairs of bytes, by the law of a number in two parts.
-- Trusts: nothing.
use native.Mathlib.Omega.{arith}
use borrow.Author.Rules.{rules}
use Rattle.numbers.proofs.Laws.{number_at_add}
use Rattle.numbers.proofs.four.Goals as goal

pub returns : goal.returns
returns c =
    let a = c.args in
    omega (arith, number_at_add 2 2 a.bytes.now a.at)
