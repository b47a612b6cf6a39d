-- `classifiers::with_part` gives with_part: every arm is one more step of the fold.
-- Trusts: nothing.
use Rattle.children.specs.Rows.{row_in}
use Rattle.children.specs.Children.{left}
use Rattle.children.proofs.Walked.{Walked}
use Rattle.classifiers.specs.Classifiers.{with_part_child}
use Rattle.classifiers.proofs.with_part.Given as goal

abbrev pub invariant-loop-child : goal.invariant-loop-child
invariant-loop-child l = Walked (with_part_child l.message) l.message (row_in l.message l.from l.end) l.fn.given (left l.child-iterator) l.classifier
