-- `element_tests::second_copy` gives `second_copy`, on each side of its first test.
-- Trusts: nothing.
use Rattle.element_tests.specs.Tests.{second_copy}
use Rattle.element_tests.proofs.second_copy.Goals as goal

pub returns-then-not-repeats : goal.returns-then-not-repeats
unfolding second_copy
returns-then-not-repeats c = simp c.if-not-repeats.true

pub returns-else-not-repeats : goal.returns-else-not-repeats
unfolding second_copy
returns-else-not-repeats c = simp c.if-not-repeats.false
