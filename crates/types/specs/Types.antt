-- Types: document 01's table of the known types, an entry for each, in the document's order ("Elements").
--
--   known_types   the table; an entry has
--   path      the type with the types that it stands in: 50.4.1 is 50 ∷ 4 ∷ 1 ∷ []
--   size      the Length column: Row, Bytes n, NoneOr 2 ("0 or 2"), OrMore 1 ("1 or more")
--   need      the Need column: must, or free where it is blank
--   repeats   the Repeats column: yes, or once where it is blank
--   values    what the Meaning column and refusal 11 forbid: a number of 0 (NotZero), or what is no channel (Channel)
--   room      how many entries the type's list takes: elements where it repeats, else bytes of its value; 255 where there is no list
--   list      which of its row's lists it is counted in: one for each type, but one for the four kinds of client ID together
--
-- A value has at most 254 bytes, so a room of 255 is never used up. 50.43 and 51.43 are skipped and so not listed.
-- Tested by: the arrays of the code, which are this table (proofs/LawsTypes.antt). Trusts: nothing.
use Rattle.std.specs.Prelude.{ℕ, Bool, true, false, List, [], ◌∷◌}
use Rattle.types.specs.declared.Length.{Length}
use Rattle.types.specs.declared.Length.TheVariants.{Row, Bytes, NoneOr, OrMore}
use Rattle.types.specs.declared.Values.{Values}
use Rattle.types.specs.declared.Values.TheVariants.{Any, NotZero, Channel}

pub record Entry : Type 0 where
  pub path : List ℕ
  pub size : Length
  pub need : Bool
  pub repeats : Bool
  pub values : Values
  pub room : ℕ
  pub list : ℕ

abbrev pub must : Bool
must = true

abbrev pub free : Bool
free = false

abbrev pub yes : Bool
yes = true

abbrev pub once : Bool
once = false

abbrev pub entry : List ℕ → Length → Bool → Bool → Values → ℕ → ℕ → Entry
entry p s n r v m l = record { path = p; size = s; need = n; repeats = r; values = v; room = m; list = l }

unfoldable pub known_types : List Entry
known_types =
    entry (23 ∷ []) Row free yes Any 32 0
    ∷ entry (23 ∷ 2 ∷ []) (Bytes 2) must once NotZero 255 0
    ∷ entry (23 ∷ 5 ∷ []) (Bytes 1) must once Any 255 1
    ∷ entry (23 ∷ 9 ∷ []) Row must once Any 255 2
    ∷ entry (23 ∷ 9 ∷ 3 ∷ []) (Bytes 4) free once Any 255 0
    ∷ entry (23 ∷ 9 ∷ 4 ∷ []) (Bytes 4) free once Any 255 1
    ∷ entry (23 ∷ 9 ∷ 5 ∷ []) (Bytes 4) must once Any 255 2
    ∷ entry (23 ∷ 9 ∷ 9 ∷ []) (Bytes 2) free once Any 255 3
    ∷ entry (23 ∷ 9 ∷ 10 ∷ []) (Bytes 2) free once Any 255 4
    ∷ entry (50 ∷ []) Row free yes Any 32 1
    ∷ entry (50 ∷ 1 ∷ []) (Bytes 1) must once Any 255 0
    ∷ entry (50 ∷ 2 ∷ []) (Bytes 1) free once Any 255 1
    ∷ entry (50 ∷ 3 ∷ []) (OrMore 1) free once Any 16 2
    ∷ entry (50 ∷ 4 ∷ []) Row must once Any 255 3
    ∷ entry (50 ∷ 4 ∷ 1 ∷ []) (NoneOr 2) free yes NotZero 8 0
    ∷ entry (50 ∷ 4 ∷ 2 ∷ []) (Bytes 6) free yes Any 8 0
    ∷ entry (50 ∷ 4 ∷ 3 ∷ []) (Bytes 2) free yes Any 8 0
    ∷ entry (50 ∷ 4 ∷ 4 ∷ []) (Bytes 2) free yes Any 8 0
    ∷ entry (50 ∷ 5 ∷ []) (Bytes 6) must once Any 255 4
    ∷ entry (50 ∷ 6 ∷ []) (Bytes 2) free yes NotZero 8 5
    ∷ entry (51 ∷ []) Row free once Any 255 2
    ∷ entry (51 ∷ 1 ∷ []) (Bytes 4) free yes Channel 32 0
    ∷ entry (51 ∷ 2 ∷ []) (Bytes 2) free once NotZero 255 1
    ∷ entry (51 ∷ 3 ∷ []) (Bytes 2) free once NotZero 255 2
    ∷ entry (51 ∷ 4 ∷ []) (Bytes 2) free once Any 255 3
    ∷ entry (51 ∷ 5 ∷ []) (Bytes 2) free once Any 255 4
    ∷ []
