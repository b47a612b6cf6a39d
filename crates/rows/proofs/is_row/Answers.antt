-- `rows::is_row` gives `is_row`: the one length that is a row, and any other.
-- Trusts: nothing.
use mathlib.Core.Path.{◌≡◌, refl}
use mathlib.Core.Bool.{false}
use Rattle.types.specs.declared.Length.{Length}
use Rattle.types.specs.declared.Length.TheVariants.{Row, Bytes, NoneOr, OrMore}
use Rattle.rows.specs.Tests.{is_row}
use Rattle.rows.proofs.is_row.Goals as goal

other : (l : Length) → (l ≡ Row → ⊥) → false ≡ is_row l
unfolding is_row
other Row n = absurd (n refl)
other (Bytes k) n = refl
other (NoneOr k) n = refl
other (OrMore k) n = refl

pub returns-in-Row : goal.returns-in-Row
unfolding is_row
returns-in-Row c = simp c.in-Row.is

pub returns-in_default : goal.returns-in_default
returns-in_default c = other _ c.in_default.not-Row
