-- `classifiers::classifier_at` gives classifier_at: every arm is one more step of the fold.
-- Trusts: nothing.
use Rattle.table.specs.Table.{empty_classifier}
use Rattle.children.specs.Rows.{row_inside}
use Rattle.children.specs.Children.{left}
use Rattle.children.proofs.Walked.{Walked}
use Rattle.classifiers.specs.Classifiers.{with_classifier_child}
use Rattle.classifiers.proofs.classifier_at.Given as goal

abbrev pub invariant-loop-child : goal.invariant-loop-child
invariant-loop-child l = Walked (with_classifier_child l.message) l.message (row_inside l.message l.at) empty_classifier (left l.child-iterator) l.classifier
