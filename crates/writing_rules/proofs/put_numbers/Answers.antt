-- `writing_rules::put_numbers`: the numbers that are passed are those of `numbers_of`, eight at most.
-- Trusts: nothing.
use Rattle.std.proofs.Common.{◌≡◌, ℕ, take, ap}
use Rattle.table.specs.Table.{numbers_of}
use Rattle.table.proofs.Laws.{length-numbers_of_le}
use Rattle.writing_numbers.proofs.Within.{lined_listed}
use Rattle.writing_elements.specs.Encode.{number_bytes}
use Rattle.writing_rules.proofs.put_numbers.Goals as goal

pub returns : goal.returns
unfolding numbers_of
returns c =
    let same : take c.limited-n.result c.args.rule.numbers ≡ numbers_of c.args.rule = ap (λ (k : ℕ). take k c.args.rule.numbers) c.limited-n.ensures in
    lined_listed 4 8 number_bytes same (length-numbers_of_le c.args.rule) c.put_each.ensures
