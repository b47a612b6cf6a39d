-- `writing_classifiers::put_part_row` writes a row, which is no longer than its parts.
-- Trusts: nothing.
use Rattle.std.proofs.Common.{arith}
use Rattle.writing_elements.proofs.Sizes.{part_row-most}
use Rattle.writing_numbers.proofs.Within.{within→lined}
use Rattle.writing_classifiers.proofs.put_part_row.Goals as goal

pub returns : goal.returns
returns c = within→lined 28 _ _ _ c.requires (omega (arith, part_row-most c.args.classifier)) c.put_element.ensures
