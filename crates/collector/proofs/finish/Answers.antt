-- `collector::finish` gives `finished`: one law of LawsStep for each answer.
-- Trusts: nothing.
use mathlib.Core.Path.{refl, ap, ◌∙◌}
use Rattle.joining.specs.Pieces.{joined}
use Rattle.joining.proofs.Laws.{join_step-room}
use Rattle.collector.proofs.LawsStep.{step_waiting, step_alone, step_joined, joined-front, joined-fits}
use Rattle.collector.specs.Step.{settled}
use Rattle.collector.proofs.finish.Goals as goal

-- waiting
pub returns-then-empty-ne0 : goal.returns-then-empty-ne0
returns-then-empty-ne0 c = step_waiting _ _ _ _ _ refl _ c.count_empty-empty.ensures c.if-empty-ne0.true

-- complete in one piece
pub returns-then-n-eq1 : goal.returns-then-n-eq1
returns-then-n-eq1 c = step_alone _ _ _ _ _ refl _ c.count_empty-empty.ensures c.if-empty-ne0.false c.if-n-eq1.true

pub settle-requires : goal.settle-requires
settle-requires c =
    let a = c.args in
    let q = c.requires in
    let i = join_step-room _ _ _ _ _ _ c.join_pieces-size.ensures q.number_bound.0 q.number_bound.1 q.by_index in
    let m = joined a.slots.now a.next.lengths a.next.number in
    joined-fits m a.join.now _ _ i.0 i.1

-- complete or dropped
pub returns : goal.returns
returns c =
    let a = c.args in
    let q = c.requires in
    let i = join_step-room _ _ _ _ _ _ c.join_pieces-size.ensures q.number_bound.0 q.number_bound.1 q.by_index in
    let m = joined a.slots.now a.next.lengths a.next.number in
    step_joined _ _ _ _ _ refl _ c.count_empty-empty.ensures c.if-empty-ne0.false c.if-n-eq1.false _ i.0 _ i.1 _
    (c.settle.ensures ∙ ap (settled a.next) (joined-front m a.join.now _ _ i.0 i.1))
