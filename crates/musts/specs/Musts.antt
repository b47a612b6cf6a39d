-- Musts: whether a must of a row is missing (document 01, refusal 13).
--
--   lacks_must parent counts   whether a must of that row has a count of 0 in its list (test 13)
--   lacks_in first i n counts  whether one of the n places from i is a must with a count of 0, a list for each place from `first`; cited by no promise
--
-- Which types are musts, the row of each and its list are said by the table of the crate types, whose places these are.
-- A row is named by the place of the type whose value it is, and the message itself by 26.
-- Tested by: the array of the code, which is the table's column (proofs/lacks_at/Proof.antt). Trusts: nothing.
use Rattle.std.specs.Prelude.{ℕ, zero, suc, ◌+◌, ◌-◌, Bool, false, ◌&&◌, ◌||◌, List, get_or, eqb}
use Rattle.types.specs.Places.{line_at}

unfoldable pub missing_in : ℕ → ℕ → ℕ → List ℕ → Bool
missing_in i zero p counts = false
missing_in i (suc n) p counts =
    (eqb (line_at i).parent p && ((line_at i).need && eqb (get_or counts (line_at i).list 0) 0)) || missing_in (i + 1) n p counts

unfoldable pub lacks_must : ℕ → List ℕ → Bool
lacks_must p counts = missing_in 0 26 p counts

unfoldable pub lacks_in : ℕ → ℕ → ℕ → List ℕ → Bool
lacks_in first i zero counts = false
lacks_in first i (suc n) counts = ((line_at i).need && eqb (get_or counts (i - first) 0) 0) || lacks_in first (i + 1) n counts
