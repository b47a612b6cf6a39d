-- `writing_table::write_table` gives `writing`: each return cites the law of its answer. When the message is written, the record of its pieces has
-- the need; only then the bodies are laid.
-- Trusts: nothing.
use Prim.Native.Nat.{ℕ}
use mathlib.Core.Path.{◌≡◌, sym, ◌∙◌}
use native.Mathlib.Omega.{arith}
use lib.ListN.{length, replicate, length-replicate}
use lib.Seq.{length-take-le}
use Rattle.refusals.specs.Refusals.{number_of}
use Rattle.writing_table.proofs.Laws.{writing_cannot, writing-short, writing-bodies}
use Rattle.writing_table.proofs.Parts.{closed_few, need_is, pieces_in_lem, bodies_are, cut_is, message_in_lem, bytes_are}
use Rattle.writing_table.proofs.write_table.Goals as goal

-- the array, and the message in it
size : length {A = ℕ} (replicate 5632 0) ≡ 5632
size = length-replicate {A = ℕ} 5632 0

-- 19
pub returns-then-not-is_producible : goal.returns-then-not-is_producible
unfolding number_of
returns-then-not-is_producible c =
    writing_cannot _ _ _ (sym c.is_producible.ensures ∙ c.if-not-is_producible.true)

-- 20
pub returns-then-out-at : goal.returns-then-out-at
unfolding number_of
returns-then-out-at c =
    writing-short _ _ _ (sym c.is_producible.ensures ∙ c.if-not-is_producible.false) (omega (arith, need_is _ (cut_is _ _ c.put_message-message.ensures), c.if-out-at.true))

pub overflow_add-number : goal.overflow_add-number
overflow_add-number c = omega (arith, closed_few _ (cut_is _ _ c.put_message-message.ensures))

pub bounds-pieces-at : goal.bounds-pieces-at
bounds-pieces-at c = omega (arith, closed_few _ (cut_is _ _ c.put_message-message.ensures))

pub slice_bounds-held-end : goal.slice_bounds-held-end
slice_bounds-held-end c = message_in_lem _ _ c.put_message-message.ensures size

pub slice_bounds-lay_all-end : goal.slice_bounds-lay_all-end
slice_bounds-lay_all-end c = sym (length-take-le _ _ (message_in_lem _ _ c.put_message-message.ensures size))

pub body_lengths-lengths-requires : goal.body_lengths-lengths-requires
body_lengths-lengths-requires c =
    let cut = cut_is _ _ c.put_message-message.ensures in
    (omega (arith, closed_few _ cut), pieces_in_lem _ cut)

-- the bodies
pub returns : goal.returns
returns c =
    let w = c.put_message-message.ensures in
    bodies_are _ (cut_is _ _ w) _ _ (bytes_are _ _ w size) c.lay_all.ensures c.body_lengths-lengths.ensures
    ∙ writing-bodies _ _ _ (sym c.is_producible.ensures ∙ c.if-not-is_producible.false) (omega (arith, need_is _ (cut_is _ _ w), c.if-out-at.false))
