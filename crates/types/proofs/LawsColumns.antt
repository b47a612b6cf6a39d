-- Laws of the code's array (src/lib.rt) and the table's lines (specs/Places.antt).
--
--   line_as    a line of the table as the code's array has it
--   code_line  what stands at a place of the array is the table's line there
--   place_at   the line at a place is numbered by it
--   listed_at, listed_past    what the table says at a place is of a listed type; past its end it is of none
-- Trusts: nothing.
use mathlib.Core.Path.{◌≡◌, ◌∙◌}
use mathlib.Core.List.{List, [], ◌∷◌, map}
use Prim.Native.Nat.{ℕ, zero, suc, ◌+◌, ◌<◌, ◌≤◌}
use borrow.Author.Tests.{ne_eqb}
use Rattle.std.proofs.Common.{None, Some}
use Rattle.std.proofs.lemmas.List.{get_or_past}
use Rattle.types.specs.Columns.{listed}
use native.Mathlib.Omega.{arith}
use native.Mathlib.Nat.{not-suc-le-zero, le_of_suc-le-suc}
use lib.ListN.{length, get_or}
use Rattle.types.specs.Types.{Entry, known_types}
use Rattle.types.specs.Places.{Line, lines_from, no_line, child_of, under, placed, table, line_at, known_of_line, known_at}
use Rattle.types.specs.declared.TypeLine.{TypeLine}
use Rattle.types.proofs.LawsTypes.{lines, table_lines, column_at}

abbrev pub line_as : Line → TypeLine
line_as l = record { kind = l.kind; parent = l.parent; known = known_of_line l }

pub code_line : (i : ℕ) → i < 26 → (d : TypeLine) → get_or (map line_as lines) i d ≡ line_as (line_at i)
code_line i h d = column_at i h line_as d

place_from : (es : List Entry) (k i : ℕ) → i < length (lines_from k es) → (get_or (lines_from k es) i no_line).place ≡ k + i
place_from [] k i h = absurd (not-suc-le-zero h)
place_from (e ∷ es) k zero h = omega arith
place_from (e ∷ es) k (suc i) h = place_from es (k + 1) i (le_of_suc-le-suc h) ∙ omega arith

pub place_at : (i : ℕ) → i < 26 → (line_at i).place ≡ i
unfolding known_types child_of under placed table line_at
place_at i h = place_from placed 0 i h ∙ omega arith

pub listed_at : (i : ℕ) → i < 26 → listed (known_at i) ≡ Some (known_at i)
unfolding listed known_at
listed_at i h = simp (place_at i h, ne_eqb i 26 (λ e. absurd (omega arith)))

pub listed_past : (i : ℕ) → 26 ≤ i → listed (known_at i) ≡ None
unfolding listed known_at line_at lines
listed_past i h = simp (table_lines, get_or_past lines i no_line h)
