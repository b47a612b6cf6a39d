-- `element_tests::own_tests` gives `own_tests`: the tests stand in the order of their numbers, and a return follows from those before it.
-- Trusts: nothing.
use mathlib.Core.Path.{sym, ◌∙◌}
use Prim.Native.Nat.{◌+◌, ◌<◌}
use borrow.Author.Rules.{rules}
use Rattle.element_tests.proofs.Counts.{count_fits}
use Rattle.refusals.specs.Refusals.{number_of}
use Rattle.element_tests.specs.Stepped.{step_of}
use Rattle.element_tests.specs.Tests.{own_tests}
use Rattle.element_tests.proofs.own_tests.Goals as goal

pub returns-then-second_copy : goal.returns-then-second_copy
unfolding own_tests step_of number_of
returns-then-second_copy c = simp (sym c.second_copy.ensures ∙ c.if-second_copy.true)

pub returns-then-wrong_length : goal.returns-then-wrong_length
unfolding own_tests step_of number_of
returns-then-wrong_length c =
    simp (sym c.second_copy.ensures ∙ c.if-second_copy.false, sym c.wrong_length.ensures ∙ c.if-wrong_length.true)

pub returns-then-bad_value : goal.returns-then-bad_value
unfolding own_tests step_of number_of
returns-then-bad_value c =
    simp (
      sym c.second_copy.ensures ∙ c.if-second_copy.false,
      sym c.wrong_length.ensures ∙ c.if-wrong_length.false,
      sym c.bad_value.ensures ∙ c.if-bad_value.true,
    )

pub returns-then-is_full : goal.returns-then-is_full
unfolding own_tests step_of number_of
returns-then-is_full c =
    simp (
      sym c.second_copy.ensures ∙ c.if-second_copy.false,
      sym c.wrong_length.ensures ∙ c.if-wrong_length.false,
      sym c.bad_value.ensures ∙ c.if-bad_value.false,
      sym c.is_full.ensures ∙ c.if-is_full.true,
    )

-- one more still fits a byte
pub overflow_add-result : goal.overflow_add-result
overflow_add-result c =
    let fits : c.args.count + 1 < 256 =
    count_fits _ _ _ _ (sym c.second_copy.ensures ∙ c.if-second_copy.false) (sym c.is_full.ensures ∙ c.if-is_full.false) (search rules) in
    search rules

pub returns : goal.returns
unfolding own_tests step_of number_of
returns c =
    simp (
      sym c.second_copy.ensures ∙ c.if-second_copy.false,
      sym c.wrong_length.ensures ∙ c.if-wrong_length.false,
      sym c.bad_value.ensures ∙ c.if-bad_value.false,
      sym c.is_full.ensures ∙ c.if-is_full.false,
    )
