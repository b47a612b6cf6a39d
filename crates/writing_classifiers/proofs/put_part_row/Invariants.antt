-- `writing_classifiers::put_part_row` has `put_element` write the parts of a classifier.
-- Trusts: nothing.
use Rattle.writing_elements.specs.Encode.{part_row}
use Rattle.writing_classifiers.proofs.put_part_row.Given as goal

abbrev pub ghost-put_element : goal.ghost-put_element
ghost-put_element a = part_row
