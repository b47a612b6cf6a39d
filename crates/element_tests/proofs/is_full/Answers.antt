-- `element_tests::is_full` gives `is_full`: elements are counted where the type repeats, else bytes.
-- Trusts: nothing.
use Rattle.element_tests.specs.Tests.{is_full}
use Rattle.element_tests.proofs.is_full.Goals as goal

pub returns-then-repeats : goal.returns-then-repeats
unfolding is_full
returns-then-repeats c = simp c.if-repeats.true

pub returns-else-repeats : goal.returns-else-repeats
unfolding is_full
returns-else-repeats c = simp (c.if-repeats.false, c.from.ensures)
