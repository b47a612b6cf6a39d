-- `rules::rule_at` gives rule_at: every arm is one more step of the fold.
-- Trusts: nothing.
use mathlib.Core.Path.{refl, ◌∙◌}
use native.Mathlib.Omega.{arith}
use Rattle.numbers.proofs.Laws.{number_at_one}
use Rattle.children.proofs.Walked.{is_type, walk_inside, walk_turn, walk_fits, walk_end}
use Rattle.rules.specs.Rules.{rule_at}
use Rattle.rules.proofs.Laws.{with_rule_child-number, with_rule_child-priority, with_rule_child-ucids, with_rule_child_long, with_rule_child-clients}
use Rattle.rules.proofs.Laws.{with_rule_child-tunnel, with_rule_child-named, with_rule_child-full, with_rule_child-other}
use Rattle.rules.proofs.rule_at.Goals as goal

pub loop-child-init : goal.loop-child-init
loop-child-init c =
    rw (c.into_iter-child-iterator.ensures.into_iter_gives, c.empty_rule-rule.ensures) (walk_inside _ c.inside-child-items.ensures)

pub loop-child-preserved-in-1 : goal.loop-child-preserved-in-1
loop-child-preserved-in-1 c =
    walk_turn c.loop-child.invariant c.in-Some.ensures.steps
    (with_rule_child-number _ _ _ _ (is_type (walk_fits c.loop-child.invariant c.in-Some.ensures.steps) c.in-1.is) (c.number1.ensures ∙ number_at_one _ _))

pub loop-child-preserved-in-2 : goal.loop-child-preserved-in-2
loop-child-preserved-in-2 c =
    walk_turn c.loop-child.invariant c.in-Some.ensures.steps
    (with_rule_child-priority _ _ _ _ (is_type (walk_fits c.loop-child.invariant c.in-Some.ensures.steps) c.in-2.is) (c.number1-in-2.ensures ∙ number_at_one _ _))

pub loop-child-preserved-then-len-le16 : goal.loop-child-preserved-then-len-le16
loop-child-preserved-then-len-le16 c =
    walk_turn c.loop-child.invariant c.in-Some.ensures.steps
    (with_rule_child-ucids _ _ _ _ (is_type (walk_fits c.loop-child.invariant c.in-Some.ensures.steps) c.in-3.is) c.if-len-le16.true c.ucids_at-rule.ensures)

pub loop-child-preserved-else-len-le16 : goal.loop-child-preserved-else-len-le16
loop-child-preserved-else-len-le16 c =
    walk_turn c.loop-child.invariant c.in-Some.ensures.steps
    (with_rule_child_long _ _ _ _ (is_type (walk_fits c.loop-child.invariant c.in-Some.ensures.steps) c.in-3.is) c.if-len-le16.false)

pub loop-child-preserved-in-4 : goal.loop-child-preserved-in-4
loop-child-preserved-in-4 c =
    walk_turn c.loop-child.invariant c.in-Some.ensures.steps
    (with_rule_child-clients _ _ _ _ (is_type (walk_fits c.loop-child.invariant c.in-Some.ensures.steps) c.in-4.is) c.read_clients-clients.ensures)

pub loop-child-preserved-in-5 : goal.loop-child-preserved-in-5
loop-child-preserved-in-5 c =
    walk_turn c.loop-child.invariant c.in-Some.ensures.steps
    (with_rule_child-tunnel _ _ _ _ (is_type (walk_fits c.loop-child.invariant c.in-Some.ensures.steps) c.in-5.is) c.number6.ensures)

pub loop-child-preserved-then-n-lt8 : goal.loop-child-preserved-then-n-lt8
loop-child-preserved-then-n-lt8 c =
    walk_turn c.loop-child.invariant c.in-Some.ensures.steps
    (with_rule_child-named _ _ _ _ (is_type (walk_fits c.loop-child.invariant c.in-Some.ensures.steps) c.in-6.is) c.if-n-lt8.true c.number2.ensures refl)

pub loop-child-preserved-else-n-lt8 : goal.loop-child-preserved-else-n-lt8
loop-child-preserved-else-n-lt8 c =
    walk_turn c.loop-child.invariant c.in-Some.ensures.steps
    (with_rule_child-full _ _ _ _ (is_type (walk_fits c.loop-child.invariant c.in-Some.ensures.steps) c.in-6.is) c.if-n-lt8.false)

pub loop-child-preserved : goal.loop-child-preserved
loop-child-preserved c =
    let f = walk_fits c.loop-child.invariant c.in-Some.ensures.steps in
    walk_turn c.loop-child.invariant c.in-Some.ensures.steps
    (with_rule_child-other _ _ _ _ (omega arith) (omega arith) (omega arith) (omega arith) (omega arith) (omega arith))

pub returns : goal.returns
unfolding rule_at
returns c =
    walk_end c.loop-child.invariant c.in-None.ensures.steps.0
