-- `types::find_place` gives the place of a type in its row. In each arm the row's own places are looked through; by the table no other place is in
-- that row, and an arm's answer is computed. A number that names no row has no place at all.
-- Trusts: nothing.
use Prim.Native.Nat.{ℕ}
use mathlib.Core.Path.{◌≡◌, sym, ◌∙◌}
use mathlib.Core.Bool.{false}
use lib.Dec.{eqb}
use borrow.Author.Tests.{ne_eqb}
use Rattle.types.specs.Places.{place_in, line_at}
use Rattle.types.specs.Columns.{place_of}
use Rattle.types.proofs.LawsTypes.{lines, table_lines}
use Rattle.types.proofs.Columns.{place_of_none}
use Rattle.types.proofs.find_place.Goals as goal

-- the number of no row: no line of the table has it
unlike : {k n : ℕ} → (k ≡ n → ⊥) → eqb n k ≡ false
unlike ne = ne_eqb _ _ (λ e. ne (sym e))

pub returns-in-26 : goal.returns-in-26
unfolding place_in line_at lines
returns-in-26 c = c.place_between.ensures ∙ sym (simp (c.in-26.is, table_lines))

pub returns-in-0 : goal.returns-in-0
unfolding place_in line_at lines
returns-in-0 c = c.place_between-in-0.ensures ∙ sym (simp (c.in-0.is, table_lines))

pub returns-in-5 : goal.returns-in-5
unfolding place_in line_at lines
returns-in-5 c = c.place_between-in-5.ensures ∙ sym (simp (c.in-5.is, table_lines))

pub returns-in-1 : goal.returns-in-1
unfolding place_in line_at lines
returns-in-1 c = c.place_between-in-1.ensures ∙ sym (simp (c.in-1.is, table_lines))

pub returns-in-14 : goal.returns-in-14
unfolding place_in line_at lines
returns-in-14 c = c.place_between-in-14.ensures ∙ sym (simp (c.in-14.is, table_lines))

pub returns-in-2 : goal.returns-in-2
unfolding place_in line_at lines
returns-in-2 c = c.place_between-in-2.ensures ∙ sym (simp (c.in-2.is, table_lines))

pub returns-in_default : goal.returns-in_default
unfolding place_in line_at lines
returns-in_default c =
    let no = c.in_default.in_default-own.rest in
    sym place_of_none ∙ sym (simp (table_lines, unlike no.1, unlike no.0.1, unlike no.0.0.1, unlike no.0.0.0.1, unlike no.0.0.0.0.1, unlike no.0.0.0.0.0.1))
