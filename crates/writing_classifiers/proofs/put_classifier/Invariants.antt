-- `writing_classifiers::put_classifier` has `put_element` write the row of a classifier.
-- Trusts: nothing.
use Rattle.writing_elements.specs.Encode.{classifier_row}
use Rattle.writing_classifiers.proofs.put_classifier.Given as goal

abbrev pub ghost-put_element : goal.ghost-put_element
ghost-put_element a = classifier_row
