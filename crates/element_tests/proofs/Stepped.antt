-- What an element comes to is known by the answer (specs/Stepped.antt).
--
--   step_of-only    two answers that come to the same are the same
--   count_as, step_gives   the answer that comes to this
--   step_counts, step_bad   an element with a count comes to no refusal; one that is refused to its number
-- Trusts: nothing.
use mathlib.Core.Path.{◌≡◌, refl, sym, ap, ◌∙◌}
use Rattle.std.proofs.Common.{ℕ, cond, eqb, Result, Ok, Err}
use borrow.Author.Tests.{ne_eqb}
use Rattle.refusals.specs.declared.Refusal.{Refusal}
use Rattle.refusals.specs.Refusals.{number_of}
use Rattle.refusals.proofs.Only.{refusal_from, refusal_from-back, number_of-some}
use Rattle.element_tests.specs.Tests.{Step, stepped}
use Rattle.element_tests.specs.Stepped.{step_of}

unfoldable pub count_as : Step → Result ℕ Refusal
count_as s = cond (eqb s.bad 0) (Ok s.count) (Err (refusal_from s.bad))

module _ (at list count : ℕ) where
  count_as_back : (r : Result ℕ Refusal) → count_as (step_of at list count r) ≡ r
  unfolding step_of count_as
  count_as_back (Ok n) = refl
  count_as_back (Err r) = simp (ne_eqb _ _ (number_of-some r), refusal_from-back r)

  pub step_gives : (r : Result ℕ Refusal) {s : Step} → step_of at list count r ≡ s → r ≡ count_as s
  step_gives r e = sym (count_as_back r) ∙ ap count_as e

  pub step_of-only : (r q : Result ℕ Refusal) → step_of at list count r ≡ step_of at list count q → r ≡ q
  step_of-only r q e = step_gives r e ∙ count_as_back q

  pub step_counts : (n : ℕ) → step_of at list count (Ok n) ≡ stepped 0 at list n
  unfolding step_of
  step_counts n = refl

  pub step_bad : (r : Refusal) → step_of at list count (Err r) ≡ stepped (number_of r) at list count
  unfolding step_of
  step_bad r = refl
