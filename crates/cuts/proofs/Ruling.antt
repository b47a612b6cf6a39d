-- The words tell rulings apart (specs/Cuts.antt).
--
--   ruling_only   two answers that rule the same are the same
-- Trusts: nothing.
use mathlib.Core.Path.{◌≡◌, refl, sym, ap, ◌∙◌}
use Rattle.std.proofs.Common.{ℕ, Option, Some, None}
use Rattle.cuts.specs.Cuts.{Ruling, all_good, bad_at, ruling}

cuts_as : Ruling → Option ℕ
cuts_as all_good = None
cuts_as (bad_at cut) = Some cut

cuts_as_back : (r : Option ℕ) → cuts_as (ruling r) ≡ r
unfolding cuts_as
cuts_as_back None = refl
cuts_as_back (Some cut) = refl

pub ruling_only : (r s : Option ℕ) → ruling r ≡ ruling s → r ≡ s
ruling_only r s e = sym (cuts_as_back r) ∙ ap cuts_as e ∙ cuts_as_back s
