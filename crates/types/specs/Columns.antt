-- Columns: what the look-up answers of a type, in the words of document 01's table ("Elements").
--
--   Lengths, lengths l   the Length column: a row; so many bytes; none or so many; so many or more
--   Allowed, allowed v   what the Meaning column allows: any value; any number but 0; a channel
--   Columns, columns k   the columns of a type, with its place, its room and its list
--   Found, found o       an answer: the type is not listed in its row, or its columns
--   listed k             what the table says of a type as an answer: the place 26 is no type's
--   place_of n           the same of a place by itself; cited by no promise
--
-- Trusts: nothing.
use Rattle.std.specs.Prelude.{ℕ, Bool, cond, Option, None, Some, eqb, ltb}
use Rattle.types.specs.declared.Length.{Length}
use Rattle.types.specs.declared.Length.TheVariants.{Row, Bytes, NoneOr, OrMore}
use Rattle.types.specs.declared.Values.{Values}
use Rattle.types.specs.declared.Values.TheVariants.{Any, NotZero, Channel}
use Rattle.types.specs.declared.Known.{Known}

pub data Lengths : Type 0 where
  row : Lengths
  bytes : ℕ → Lengths
  none_or : ℕ → Lengths
  or_more : ℕ → Lengths

unfoldable pub lengths : Length → Lengths
lengths Row = row
lengths (Bytes n) = bytes n
lengths (NoneOr n) = none_or n
lengths (OrMore n) = or_more n

pub data Allowed : Type 0 where
  any : Allowed
  not_zero : Allowed
  channel : Allowed

unfoldable pub allowed : Values → Allowed
allowed Any = any
allowed NotZero = not_zero
allowed Channel = channel

pub record Columns : Type 0 where
  pub place : ℕ
  pub length : Lengths
  pub repeats : Bool
  pub values : Allowed
  pub room : ℕ
  pub list : ℕ

unfoldable pub columns : Known → Columns
columns k =
    record { place = k.place; length = lengths k.length; repeats = k.repeats; values = allowed k.values; room = k.room; list = k.list }

pub data Found : Type 0 where
  unlisted : Found
  known : Columns → Found

unfoldable pub found : Option Known → Found
found None = unlisted
found (Some k) = known (columns k)

unfoldable pub listed : Known → Option Known
listed k = cond (eqb k.place 26) None (Some k)

unfoldable pub place_of : ℕ → Option ℕ
place_of n = cond (ltb n 26) (Some n) None
