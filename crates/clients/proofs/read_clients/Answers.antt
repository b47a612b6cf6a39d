-- `clients::read_clients` gives clients_in: every turn is one more step of the fold.
-- Trusts: nothing.
use mathlib.Core.Path.{◌≡◌, ap, ◌∙◌}
use borrow.Author.Tests.{lt-ltb, le-ltb}
use Rattle.children.proofs.Walked.{walk_start, walk_turn, walk_fits, walk_end}
use Rattle.clients.specs.Clients.{is_client, with_client_child, clients_in}
use Rattle.clients.proofs.Laws.{no_client_child, with_client_child_lem, full-client_child}
use Rattle.clients.proofs.read_clients.Goals.{else-is_client-via-then-is_client+else-used-lt8, else-is_client-via-else-is_client}
use Rattle.clients.proofs.read_clients.Goals as goal

pub loop-child-init : goal.loop-child-init
loop-child-init c = rw (c.into_iter-child-iterator.ensures.into_iter_gives, c.no_clients-clients.ensures) (walk_start _ _ c.children_of-child-items.ensures)

pub loop-child-preserved-then-used-lt8 : goal.loop-child-preserved-then-used-lt8
loop-child-preserved-then-used-lt8 c =
    let f = walk_fits c.loop-child.invariant c.in-Some.ensures.steps in
    walk_turn c.loop-child.invariant c.in-Some.ensures.steps
    (with_client_child_lem _ _ _ _ (c.is_client.ensures ∙ ap is_client f.kind) c.if-is_client.true (lt-ltb _ _ c.if-used-lt8.true) c.client_at-one.ensures)

pub loop-child-preserved : goal.loop-child-preserved
loop-child-preserved c =
    let f = walk_fits c.loop-child.invariant c.in-Some.ensures.steps in
    let kept : c.loop-child.clients ≡ with_client_child c.args.message.now c.in-Some.child.at c.in-Some.child.len c.loop-child.clients =
    elim c.else-is_client.branch [
      | else-is_client-via-then-is_client+else-used-lt8 w ↦ full-client_child _ _ _ _ (c.is_client.ensures ∙ ap is_client f.kind) w.if-is_client.true (le-ltb _ _ w.if-used-lt8.false)
      | else-is_client-via-else-is_client w ↦ no_client_child _ _ _ _ (c.is_client.ensures ∙ ap is_client f.kind) w.if-is_client.false
    ] in
    walk_turn c.loop-child.invariant c.in-Some.ensures.steps kept

pub returns : goal.returns
unfolding clients_in
returns c = walk_end c.loop-child.invariant c.in-None.ensures.steps.0
