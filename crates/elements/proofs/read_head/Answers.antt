-- `elements::read_head` gives `head_at`. Each return cites the law of its answer; the tests passed on the way are its premises.
-- Trusts: nothing.
use mathlib.Core.Path.{sym}
use native.Mathlib.Omega.{arith}
use Rattle.refusals.specs.Refusals.{number_of}
use Rattle.elements.specs.Stood.{stood}
use Rattle.elements.proofs.Laws.{head_at-end, head_at_lone, head_at_255, head_at_past, head_at-whole}
use Rattle.elements.proofs.read_head.Goals as goal

pub returns-then-stop-at : goal.returns-then-stop-at
unfolding stood
returns-then-stop-at c = sym (head_at-end _ _ _ (omega arith))

pub returns-then-left-eq1 : goal.returns-then-left-eq1
unfolding stood number_of
returns-then-left-eq1 c = sym (head_at_lone _ _ _ (omega arith))

pub returns-then-length-eq255 : goal.returns-then-length-eq255
unfolding stood number_of
returns-then-length-eq255 c = sym (head_at_255 _ _ _ (omega arith) c.from-length.ensures c.if-length-eq255.true)

pub returns-then-left-length : goal.returns-then-left-length
unfolding stood number_of
returns-then-left-length c = sym (head_at_past _ _ _ (omega arith) c.from-length.ensures c.if-length-eq255.false (omega arith))

pub returns : goal.returns
unfolding stood
returns c = sym (head_at-whole _ _ _ (omega arith) c.from-length.ensures c.if-length-eq255.false (omega arith))
