-- `classifiers::with_part` gives with_part: every arm is one more step of the fold.
-- Trusts: nothing.
use native.Mathlib.Omega.{arith}
use Rattle.children.proofs.Walked.{is_type, walk_start, walk_turn, walk_fits, walk_end}
use Rattle.classifiers.specs.Classifiers.{with_part}
use Rattle.classifiers.proofs.Laws.{with_part_child-source, with_part_child-mask, with_part_child-destination, with_part_child-start, with_part_child-end, with_part_child-other}
use Rattle.classifiers.proofs.with_part.Goals as goal

pub loop-child-init : goal.loop-child-init
loop-child-init c =
    rw c.into_iter-child-iterator.ensures.into_iter_gives (walk_start _ _ c.children_of-child-items.ensures)

pub loop-child-preserved-in-3 : goal.loop-child-preserved-in-3
loop-child-preserved-in-3 c =
    walk_turn c.loop-child.invariant c.in-Some.ensures.steps
    (with_part_child-source _ _ _ _ (is_type (walk_fits c.loop-child.invariant c.in-Some.ensures.steps) c.in-3.is) c.number4.ensures)

pub loop-child-preserved-in-4 : goal.loop-child-preserved-in-4
loop-child-preserved-in-4 c =
    walk_turn c.loop-child.invariant c.in-Some.ensures.steps
    (with_part_child-mask _ _ _ _ (is_type (walk_fits c.loop-child.invariant c.in-Some.ensures.steps) c.in-4.is) c.number4-in-4.ensures)

pub loop-child-preserved-in-5 : goal.loop-child-preserved-in-5
loop-child-preserved-in-5 c =
    walk_turn c.loop-child.invariant c.in-Some.ensures.steps
    (with_part_child-destination _ _ _ _ (is_type (walk_fits c.loop-child.invariant c.in-Some.ensures.steps) c.in-5.is) c.number4-in-5.ensures)

pub loop-child-preserved-in-9 : goal.loop-child-preserved-in-9
loop-child-preserved-in-9 c =
    walk_turn c.loop-child.invariant c.in-Some.ensures.steps
    (with_part_child-start _ _ _ _ (is_type (walk_fits c.loop-child.invariant c.in-Some.ensures.steps) c.in-9.is) c.number2.ensures)

pub loop-child-preserved-in-10 : goal.loop-child-preserved-in-10
loop-child-preserved-in-10 c =
    walk_turn c.loop-child.invariant c.in-Some.ensures.steps
    (with_part_child-end _ _ _ _ (is_type (walk_fits c.loop-child.invariant c.in-Some.ensures.steps) c.in-10.is) c.number2-in-10.ensures)

pub loop-child-preserved : goal.loop-child-preserved
loop-child-preserved c =
    let f = walk_fits c.loop-child.invariant c.in-Some.ensures.steps in
    walk_turn c.loop-child.invariant c.in-Some.ensures.steps
    (with_part_child-other _ _ _ _ (omega arith) (omega arith) (omega arith) (omega arith) (omega arith))

pub returns : goal.returns
unfolding with_part
returns c =
    walk_end c.loop-child.invariant c.in-None.ensures.steps.0
