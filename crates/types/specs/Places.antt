-- Places: the known types numbered from 0, the types of one row together, and the look-up of a type in its row.
--
--   placed                    the entries of known_types in the order of their places
--   table                     the same as lines: the type, the row it stands in, what its entry says, its place
--   place_in from n parent t   the first of the n places from `from` with this row and type; 26 where there is none
--   known_at place             what the table says of the type at a place
--   type_under parent t        what it says of the type t in the row `parent`; place 26 where t is not listed there
--
-- A row is named by the place of the type whose value it is, and the message itself by 26.
-- Tested by: the arrays of the code, which are this table (proofs/LawsTypes.antt). Trusts: nothing.
use Rattle.std.specs.Prelude.{ℕ, zero, suc, ◌+◌, Bool, true, false, cond, ◌&&◌, List, [], ◌∷◌, ◌++◌, get_or, eqb}
use Rattle.types.specs.Types.{Entry, known_types}
use Rattle.types.specs.declared.Length.{Length}
use Rattle.types.specs.declared.Length.TheVariants.{Bytes}
use Rattle.types.specs.declared.Values.{Values}
use Rattle.types.specs.declared.Values.TheVariants.{Any}
use Rattle.types.specs.declared.Known.{Known}

-- whether the second path is the first and one type more
unfoldable pub child_of : List ℕ → List ℕ → Bool
child_of [] [] = false
child_of [] (t ∷ []) = true
child_of [] (t ∷ u ∷ q) = false
child_of (s ∷ p) [] = false
child_of (s ∷ p) (t ∷ q) = eqb s t && child_of p q

-- the entries of the types that stand in the row of the type with this path
unfoldable pub under : List ℕ → List Entry → List Entry
under p [] = []
under p (e ∷ es) = cond (child_of p e.path) (e ∷ under p es) (under p es)

unfoldable pub placed : List Entry
placed =
    under [] known_types
    ++ under (23 ∷ []) known_types
    ++ under (23 ∷ 9 ∷ []) known_types
    ++ under (50 ∷ []) known_types
    ++ under (50 ∷ 4 ∷ []) known_types
    ++ under (51 ∷ []) known_types

-- the type itself: the last of its path
unfoldable pub type_of : List ℕ → ℕ
type_of [] = 0
type_of (t ∷ []) = t
type_of (s ∷ t ∷ p) = type_of (t ∷ p)

-- the place, counted from i, of the entry in whose row a path stands; 26 where there is none: the path is at top level
unfoldable pub parent_in : List Entry → ℕ → List ℕ → ℕ
parent_in [] i p = 26
parent_in (e ∷ es) i p = cond (child_of e.path p) i (parent_in es (i + 1) p)

-- a line of the table: a type, the row it stands in, what its entry says, and its place
pub record Line : Type 0 where
  pub kind : ℕ
  pub parent : ℕ
  pub size : Length
  pub need : Bool
  pub repeats : Bool
  pub values : Values
  pub room : ℕ
  pub list : ℕ
  pub place : ℕ

abbrev pub line : ℕ → ℕ → Length → Bool → Bool → Values → ℕ → ℕ → ℕ → Line
line t p s n r v m l k = record { kind = t; parent = p; size = s; need = n; repeats = r; values = v; room = m; list = l; place = k }

-- the lines of the entries, numbered from k
abbrev pub lines_from : ℕ → List Entry → List Line
lines_from k [] = []
lines_from k (e ∷ es) =
    line (type_of e.path) (parent_in placed 0 e.path) e.size e.need e.repeats e.values e.room e.list k ∷ lines_from (k + 1) es

unfoldable pub table : List Line
table = lines_from 0 placed

-- what stands past the table: no type
abbrev pub no_line : Line
no_line = line 0 0 (Bytes 0) false false Any 0 0 26

unfoldable pub line_at : ℕ → Line
line_at k = get_or table k no_line

unfoldable pub place_in : ℕ → ℕ → ℕ → ℕ → ℕ
place_in i zero p t = 26
place_in i (suc n) p t = cond (eqb (line_at i).parent p && eqb (line_at i).kind t) i (place_in (i + 1) n p t)

abbrev pub known_of_line : Line → Known
known_of_line l =
    record { place = l.place; length = l.size; repeats = l.repeats; values = l.values; room = l.room; list = l.list }

unfoldable pub known_at : ℕ → Known
known_at k = known_of_line (line_at k)

unfoldable pub type_under : ℕ → ℕ → Known
type_under p t = known_at (place_in 0 26 p t)
