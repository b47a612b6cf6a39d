-- `rules::rule_at` gives rule_at: every arm is one more step of the fold.
-- Trusts: nothing.
use Rattle.table.specs.Table.{empty_rule}
use Rattle.children.specs.Rows.{row_inside}
use Rattle.children.specs.Children.{left}
use Rattle.children.proofs.Walked.{Walked}
use Rattle.rules.specs.Rules.{with_rule_child}
use Rattle.rules.proofs.rule_at.Given as goal

abbrev pub invariant-loop-child : goal.invariant-loop-child
invariant-loop-child l = Walked (with_rule_child l.message) l.message (row_inside l.message l.at) empty_rule (left l.child-iterator) l.rule
