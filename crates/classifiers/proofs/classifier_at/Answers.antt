-- `classifiers::classifier_at` gives classifier_at: every arm is one more step of the fold.
-- Trusts: nothing.
use mathlib.Core.Path.{◌∙◌}
use native.Mathlib.Omega.{arith}
use Rattle.numbers.proofs.Laws.{number_at_one}
use Rattle.children.proofs.Walked.{is_type, walk_inside, walk_turn, walk_fits, walk_end}
use Rattle.classifiers.specs.Classifiers.{classifier_at}
use Rattle.classifiers.proofs.Laws.{with_classifier_child-number, with_classifier_child-priority, with_classifier_child-part, with_classifier_child-other}
use Rattle.classifiers.proofs.classifier_at.Goals as goal

pub loop-child-init : goal.loop-child-init
loop-child-init c =
    rw (c.into_iter-child-iterator.ensures.into_iter_gives, c.empty_classifier-classifier.ensures) (walk_inside _ c.inside-child-items.ensures)

pub loop-child-preserved-in-2 : goal.loop-child-preserved-in-2
loop-child-preserved-in-2 c =
    walk_turn c.loop-child.invariant c.in-Some.ensures.steps
    (with_classifier_child-number _ _ _ _ (is_type (walk_fits c.loop-child.invariant c.in-Some.ensures.steps) c.in-2.is) c.number2.ensures)

pub loop-child-preserved-in-5 : goal.loop-child-preserved-in-5
loop-child-preserved-in-5 c =
    walk_turn c.loop-child.invariant c.in-Some.ensures.steps
    (with_classifier_child-priority _ _ _ _ (is_type (walk_fits c.loop-child.invariant c.in-Some.ensures.steps) c.in-5.is) (c.number1.ensures ∙ number_at_one _ _))

pub loop-child-preserved-in-9 : goal.loop-child-preserved-in-9
loop-child-preserved-in-9 c =
    walk_turn c.loop-child.invariant c.in-Some.ensures.steps
    (with_classifier_child-part _ _ _ _ (is_type (walk_fits c.loop-child.invariant c.in-Some.ensures.steps) c.in-9.is) c.with_part-classifier.ensures)

pub loop-child-preserved : goal.loop-child-preserved
loop-child-preserved c =
    let f = walk_fits c.loop-child.invariant c.in-Some.ensures.steps in
    walk_turn c.loop-child.invariant c.in-Some.ensures.steps
    (with_classifier_child-other _ _ _ _ (omega arith) (omega arith) (omega arith))

pub returns : goal.returns
unfolding classifier_at
returns c =
    walk_end c.loop-child.invariant c.in-None.ensures.steps.0
