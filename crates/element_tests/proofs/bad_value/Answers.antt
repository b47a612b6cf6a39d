-- `element_tests::bad_value` gives `bad_value`, variant by variant.
-- Trusts: nothing.
use borrow.Author.Tests.{eq-eqb, ne_eqb}
use mathlib.Core.Path.{sym, ◌∙◌}
use Rattle.element_tests.specs.Tests.{bad_value}
use Rattle.element_tests.proofs.bad_value.Goals as goal

pub returns-in-Any : goal.returns-in-Any
unfolding bad_value
returns-in-Any c = simp c.in-Any.is

pub returns-then-len-eq2 : goal.returns-then-len-eq2
unfolding bad_value
returns-then-len-eq2 c = simp (c.in-NotZero.is, eq-eqb _ _ c.if-len-eq2.true, sym (c.number2.ensures ∙ c.value_place.ensures 2))

pub returns-else-len-eq2 : goal.returns-else-len-eq2
unfolding bad_value
returns-else-len-eq2 c = simp (c.in-NotZero.is, ne_eqb _ _ c.if-len-eq2.false)

pub returns-in-Channel : goal.returns-in-Channel
unfolding bad_value
returns-in-Channel c = simp (c.in-Channel.is, sym (c.number4.ensures ∙ c.value_place-in-Channel.ensures 4), ← c.no_channel.ensures)
