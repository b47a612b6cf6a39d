-- `configurations::configuration_at` gives configuration_at: every turn is one more step of the fold.
-- Trusts: nothing.
use Rattle.children.specs.Rows.{row_inside}
use Rattle.children.specs.Children.{left}
use Rattle.children.proofs.Walked.{Walked}
use Rattle.configurations.specs.Configurations.{empty_configuration, with_configuration_child}
use Rattle.configurations.proofs.configuration_at.Given as goal

abbrev pub invariant-loop-child : goal.invariant-loop-child
invariant-loop-child l = Walked (with_configuration_child l.message) l.message (row_inside l.message l.at) empty_configuration (left l.child-iterator) l.configuration
