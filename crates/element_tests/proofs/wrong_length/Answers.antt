-- `element_tests::wrong_length` gives `wrong_length`, variant by variant.
-- Trusts: nothing.
use borrow.Author.Tests.{eq-eqb, ne_eqb}
use Rattle.element_tests.specs.Tests.{wrong_length}
use Rattle.element_tests.proofs.wrong_length.Goals as goal

pub returns-in-Row : goal.returns-in-Row
unfolding wrong_length
returns-in-Row c = simp c.in-Row.is

pub returns-in-Bytes : goal.returns-in-Bytes
unfolding wrong_length
returns-in-Bytes c = simp c.in-Bytes.is

pub returns-then-len-ne0 : goal.returns-then-len-ne0
unfolding wrong_length
returns-then-len-ne0 c = simp (c.in-NoneOr.is, ne_eqb _ _ c.if-len-ne0.true)

pub returns-else-len-ne0 : goal.returns-else-len-ne0
unfolding wrong_length
returns-else-len-ne0 c = simp (c.in-NoneOr.is, eq-eqb _ _ c.if-len-ne0.false)

pub returns-in-OrMore : goal.returns-in-OrMore
unfolding wrong_length
returns-in-OrMore c = simp c.in-OrMore.is
