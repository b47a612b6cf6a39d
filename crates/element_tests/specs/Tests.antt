-- Tests: what one element of a known type is tested for besides its head (document 01, refusals 9 to 12).
--
--   second_copy, wrong_length, bad_value, is_full   refusals 9, 10, 11 and 12, each by itself
--   own_tests msg known at len count             the first of them, at the type byte; else 0, and one more in the type's list
--
-- `count` is how many elements of the type's list stand before this one in its row. A step with bad 0 is fine; it names the list that
-- the element is counted in and the count after it. Which lengths, values and rooms a type has is said by the table of the crate types.
-- Tested by: the bench messages that end in 9 and 11 (proofs/Bench.antt of rows). Trusts: nothing.
use Rattle.std.specs.Prelude.{ℕ, ◌+◌, ◌%◌, Bool, false, cond, not, ◌&&◌, ◌||◌, List, eqb, leb, ltb}
use Rattle.numbers.specs.Numbers.{number_at}
use Rattle.types.specs.declared.Length.{Length}
use Rattle.types.specs.declared.Length.TheVariants.{Row, Bytes, NoneOr, OrMore}
use Rattle.types.specs.declared.Values.{Values}
use Rattle.types.specs.declared.Values.TheVariants.{Any, NotZero, Channel}
use Rattle.types.specs.declared.Known.{Known}

-- what an element comes to: a refusal number, or 0; where; and the count of one list of its row
pub record Step : Type 0 where
  pub bad : ℕ
  pub off : ℕ
  pub list : ℕ
  pub count : ℕ

abbrev pub stepped : ℕ → ℕ → ℕ → ℕ → Step
stepped bad at list count = record { bad = bad; off = at; list = list; count = count }

-- 9: a second copy of a type not marked repeats
unfoldable pub second_copy : Bool → ℕ → Bool
second_copy repeats count = not repeats && not (eqb count 0)

-- 10: a length other than the table's
unfoldable pub wrong_length : Length → ℕ → Bool
wrong_length Row len = false
wrong_length (Bytes n) len = not (eqb len n)
wrong_length (NoneOr n) len = not (eqb len 0) && not (eqb len n)
wrong_length (OrMore n) len = ltb len n

-- no multiple of 62,500 from 62,500 to 1,000,000,000
unfoldable pub no_channel : ℕ → Bool
no_channel hertz = ltb hertz 62500 || ltb 1000000000 hertz || not (eqb (hertz % 62500) 0)

-- 11: a value that the table does not allow; a value of no bytes is no number
unfoldable pub bad_value : List ℕ → Values → ℕ → ℕ → Bool
bad_value msg Any at len = false
bad_value msg NotZero at len = eqb len 2 && eqb (number_at 2 msg (at + 2)) 0
bad_value msg Channel at len = no_channel (number_at 4 msg (at + 2))

-- 12: the list is full, or its entries, which are the bytes of one value, are too many
unfoldable pub is_full : Bool → ℕ → ℕ → ℕ → Bool
is_full repeats room count len = cond repeats (leb room count) (ltb room len)

unfoldable pub own_tests : List ℕ → Known → ℕ → ℕ → ℕ → Step
own_tests msg known at len count =
    cond (second_copy known.repeats count) (stepped 9 at known.list count)
    (cond (wrong_length known.length len) (stepped 10 at known.list count)
    (cond (bad_value msg known.values at len) (stepped 11 at known.list count)
    (cond (is_full known.repeats known.room count len) (stepped 12 at known.list count)
    (stepped 0 at known.list (count + 1)))))
