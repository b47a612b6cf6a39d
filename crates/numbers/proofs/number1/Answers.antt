-- `numbers::number1` gives `number_at 1`: the byte, and 0 beyond the end.
-- Trusts: nothing.
use mathlib.Core.Path.{sym}
use borrow.Author.Rules.{rules}
use Rattle.numbers.proofs.Laws.{number_at_one, number_at_past}
use Rattle.numbers.proofs.number1.Goals as goal

pub returns-then-at-bytes : goal.returns-then-at-bytes
returns-then-at-bytes c = sym (number_at_one _ _)

pub returns : goal.returns
returns c = sym (number_at_past 1 c.args.bytes.now c.args.at c.if-at-bytes.false)
