-- `configurations::configuration_at` gives configuration_at: every turn is one more step of the fold.
-- Trusts: nothing.
use mathlib.Core.Path.{◌∙◌}
use Rattle.children.proofs.Walked.{is_type, walk_inside, walk_turn, walk_fits, walk_end}
use Rattle.configurations.specs.Configurations.{configuration_at}
use Rattle.configurations.proofs.Laws.{with_timer_child, with_channel_child, full-channel_child}
use Rattle.configurations.proofs.configuration_at.Goals as goal

pub loop-child-init : goal.loop-child-init
loop-child-init c =
    rw (c.into_iter-child-iterator.ensures.into_iter_gives, c.empty_configuration-configuration.ensures) (walk_inside _ c.inside-child-items.ensures)

pub loop-child-preserved-then-child-ne1 : goal.loop-child-preserved-then-child-ne1
loop-child-preserved-then-child-ne1 c =
    let f = walk_fits c.loop-child.invariant c.in-Some.ensures.steps in
    walk_turn c.loop-child.invariant c.in-Some.ensures.steps
    (with_timer_child _ _ _ _ (λ e. c.if-child-ne1.true (f.kind ∙ e)) c.with_timer-configuration.ensures)

pub loop-child-preserved-then-n-lt32 : goal.loop-child-preserved-then-n-lt32
loop-child-preserved-then-n-lt32 c =
    walk_turn c.loop-child.invariant c.in-Some.ensures.steps
    (with_channel_child _ _ _ _ (is_type (walk_fits c.loop-child.invariant c.in-Some.ensures.steps) c.if-child-ne1.false) c.if-n-lt32.true c.number4.ensures)

pub loop-child-preserved : goal.loop-child-preserved
loop-child-preserved c =
    walk_turn c.loop-child.invariant c.in-Some.ensures.steps
    (full-channel_child _ _ _ _ (is_type (walk_fits c.loop-child.invariant c.in-Some.ensures.steps) c.if-child-ne1.false) c.if-n-lt32.false)

pub returns : goal.returns
unfolding configuration_at
returns c =
    walk_end c.loop-child.invariant c.in-None.ensures.steps.0
