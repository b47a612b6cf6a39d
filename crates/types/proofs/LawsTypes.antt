-- Laws of the known types (specs/Types.antt, specs/Places.antt).
--
--   table_lines       document 01's table, line by line, in the order of its places
--   column_at         what stands at a place of a column. A proof that reads an array of the code cites it, and antt computes that the array
--                     is that column of the table
--   type_under-list    a type's list is one of its row's eight
--   type_under_finds   each entry of known_types is found by its path, row by row from the message on, with exactly its columns
-- Trusts: nothing.
use mathlib.Core.Path.{◌≡◌, refl, sym, ◌∙◌}
use mathlib.Core.Bool.{Bool, true, false}
use mathlib.Core.List.{List, [], ◌∷◌, map}
use Prim.Native.Nat.{ℕ, zero, suc, ◌<◌}
use borrow.Author.Tests.{ltb-true}
use lib.Dec.{ltb}
use native.Mathlib.Nat.{not-suc-le-zero, le_of_suc-le-suc}
use lib.ListN.{get_or, get_or-map}
use Rattle.std.proofs.lemmas.List.{get_or_default}
use Rattle.types.specs.Types.{Entry, known_types}
use Rattle.types.specs.Places.{Line, line, no_line, child_of, under, placed, type_of, parent_in, table, line_at, place_in, known_at, type_under}
use Rattle.types.specs.declared.Length.TheVariants.{Row, Bytes, NoneOr, OrMore}
use Rattle.types.specs.declared.Values.TheVariants.{Any, NotZero, Channel}
use Rattle.types.specs.declared.Known.{Known}

unfoldable pub lines : List Line
lines =
    line 23 26 Row false true Any 32 0 0
    ∷ line 50 26 Row false true Any 32 1 1
    ∷ line 51 26 Row false false Any 255 2 2
    ∷ line 2 0 (Bytes 2) true false NotZero 255 0 3
    ∷ line 5 0 (Bytes 1) true false Any 255 1 4
    ∷ line 9 0 Row true false Any 255 2 5
    ∷ line 3 5 (Bytes 4) false false Any 255 0 6
    ∷ line 4 5 (Bytes 4) false false Any 255 1 7
    ∷ line 5 5 (Bytes 4) true false Any 255 2 8
    ∷ line 9 5 (Bytes 2) false false Any 255 3 9
    ∷ line 10 5 (Bytes 2) false false Any 255 4 10
    ∷ line 1 1 (Bytes 1) true false Any 255 0 11
    ∷ line 2 1 (Bytes 1) false false Any 255 1 12
    ∷ line 3 1 (OrMore 1) false false Any 16 2 13
    ∷ line 4 1 Row true false Any 255 3 14
    ∷ line 5 1 (Bytes 6) true false Any 255 4 15
    ∷ line 6 1 (Bytes 2) false true NotZero 8 5 16
    ∷ line 1 14 (NoneOr 2) false true NotZero 8 0 17
    ∷ line 2 14 (Bytes 6) false true Any 8 0 18
    ∷ line 3 14 (Bytes 2) false true Any 8 0 19
    ∷ line 4 14 (Bytes 2) false true Any 8 0 20
    ∷ line 1 2 (Bytes 4) false true Channel 32 0 21
    ∷ line 2 2 (Bytes 2) false false NotZero 255 1 22
    ∷ line 3 2 (Bytes 2) false false NotZero 255 2 23
    ∷ line 4 2 (Bytes 2) false false Any 255 3 24
    ∷ line 5 2 (Bytes 2) false false Any 255 4 25
    ∷ []

pub table_lines : table ≡ lines
unfolding known_types child_of under placed type_of parent_in table lines
table_lines = refl

-- two functions that agree on a list and on what stands past it agree at every place
pub map_at : {A B : Type 0} (f g : A → B) (l : List A) (d : A) (n : ℕ) → map f l ≡ map g l → f d ≡ g d → f (get_or l n d) ≡ g (get_or l n d)
map_at f g l d n e z = sym (get_or-map f l n d) ∙ rw (e, z) (get_or-map g l n d)

module _ (i : ℕ) (h : i < 26) where
  pub column_at : {B : Type 0} (f : Line → B) (d : B) → get_or (map f lines) i d ≡ f (line_at i)
  unfolding line_at lines
  column_at f d = rw table_lines (get_or_default (map f lines) i d (f no_line) h ∙ get_or-map f lines i no_line)

line_at_list : (i : ℕ) {l : ℕ} → l ≡ (line_at i).list → l < 8
unfolding line_at lines
line_at_list i e =
    rw (e, table_lines) (ltb-true _ _ (map_at (λ (l : Line). ltb l.list 8) (λ l. true) lines no_line i refl refl))

pub type_under-list : (p t : ℕ) {known : Known} → known ≡ type_under p t → known.list < 8
unfolding type_under known_at
type_under-list p t e = rw e (line_at_list (place_in 0 26 p t) refl)

-- what a path leads to from a row: each of its types is looked up in the row of the one before it
unfoldable pub follow : ℕ → List ℕ → Known
follow row [] = known_at 26
follow row (t ∷ []) = type_under row t
follow row (t ∷ u ∷ p) = follow (type_under row t).place (u ∷ p)

pub type_under_finds : map (λ e. follow 26 e.path) known_types
    ≡ map (λ e. record { place = (follow 26 e.path).place; length = e.size; repeats = e.repeats; values = e.values; room = e.room; list = e.list }) known_types
unfolding follow type_under place_in known_at line_at table known_types child_of under placed type_of parent_in
type_under_finds = refl
