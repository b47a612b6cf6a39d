-- Tests: what a row is tested for at its end, and its counts (document 01, refusal 13).
--
--   is_row allowed                               whether the value is a row of elements
--   row_end parent own counts                    refusal 13, at the row's own type byte, where a must of the row has a count of 0
--   none_counted, empty_tally                     the counts of a row that begins
--
-- `counts` has, for each list of the row, how many elements of it stand before this one; list 8 means none. A fault with bad 0 is fine.
-- Which musts a row has is said by the table of the crate types.
-- Tested by: the bench message that ends in 13 (proofs/Bench.antt). Trusts: nothing.
use Rattle.std.specs.Prelude.{ℕ, Bool, true, false, cond, List, replicate}
use Rattle.musts.specs.Musts.{lacks_must}
use Rattle.types.specs.declared.Length.{Length}
use Rattle.types.specs.declared.Length.TheVariants.{Row, Bytes, NoneOr, OrMore}
use Rattle.rows.specs.declared.Tally.{Tally}

-- what a row comes to: a refusal number, or 0; and where
pub record Fault : Type 0 where
  pub bad : ℕ
  pub off : ℕ

unfoldable pub is_row : Length → Bool
is_row Row = true
is_row (Bytes n) = false
is_row (NoneOr n) = false
is_row (OrMore n) = false

-- 13: the row ends without a must
unfoldable pub row_end : ℕ → ℕ → List ℕ → Fault
row_end parent own counts = cond (lacks_must parent counts) (record { bad = 13; off = own }) (record { bad = 0; off = own })

abbrev pub none_counted : List ℕ
none_counted = replicate 8 0

abbrev pub empty_tally : Tally
empty_tally = record { counts = none_counted }
