-- `types::place_between` gives the first place with this row and type.
-- Trusts: nothing.
use mathlib.Core.Path.{sym, ap, ◌∙◌}
use native.Mathlib.Omega.{arith}
use Rattle.types.specs.Columns.{place_of}
use Rattle.types.proofs.Columns.{place_of_some, place_of_none}
use Rattle.types.proofs.LawsPlaces.{place_in_here, place_in_other, place_in_none}
use Rattle.types.proofs.place_between.Goals as goal

pub returns-then-stands_at : goal.returns-then-stands_at
returns-then-stands_at c =
    sym (place_of_some _ (omega arith)) ∙ ap place_of (sym (place_in_here _ _ (omega arith) _ _ c.stands_at.ensures c.if-stands_at.true) ∙ c.loop-place.invariant)

pub loop-place-preserved : goal.loop-place-preserved
loop-place-preserved c = sym (place_in_other _ _ (omega arith) _ _ c.stands_at.ensures c.if-stands_at.false) ∙ c.loop-place.invariant

pub returns : goal.returns
returns c = sym place_of_none ∙ ap place_of (place_in_none _ _ _ _ (omega arith) ∙ c.loop-place.invariant)
