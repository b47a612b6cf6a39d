-- `named::lone_number` gives lone_number: a return for each answer of the search.
-- Trusts: nothing.
use mathlib.Core.Path.{◌≡◌, refl, sym, ap, ◌∙◌}
use Rattle.named.specs.Sought.{sought, in_words}
use Rattle.named.proofs.Sought.{found_nothing, found_number}
use Rattle.named.proofs.LawsLone.{placed-nothing, placed-number}
use Rattle.named.proofs.lone_number.Goals as goal

-- every number is answered
pub returns-in_err-i : goal.returns-in_err-i
unfolding sought
returns-in_err-i c = rw c.from_residual.ensures (ap in_words (placed-nothing _ _ (sym (found_nothing c.in_err-i.was) ∙ c.first_unanswered.ensures) refl))

-- the first that is not
pub returns : goal.returns
unfolding sought
returns c = ap in_words (placed-number _ _ (sym (found_number c.in_ok-i.was) ∙ c.first_unanswered.ensures) refl c.named_place.ensures)
