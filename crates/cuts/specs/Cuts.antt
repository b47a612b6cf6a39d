-- Cuts: whether a joined message was cut only between its top-level elements (document 02, Req 04, refusal 21).
--
--   starts_at row c           an element of the row starts at c, one with a faulty head too
--   judged_to row end         where the judging ends: the start of the first faulty head, else the row's end
--   may_cut msg c             a piece may end at c: a top-level element starts there, or the message ends there, or c is not judged
--   sum_to lens k             the bytes of the first k pieces: where piece k - 1 ends and piece k begins
--   Ruling, ruling r         what the cuts of a message come to: all are good, or the first that is not stands at this byte of it
--   cuts_in msg lens n        the ruling on the n - 1 cuts between n pieces of these lengths
--
-- Only type and length bytes are looked at. Pieces count from 0; a piece may be empty.
-- Tested by: proofs/Reached.antt, which says the same by a walk; M cut after 10 and after 22 bytes in proofs/BenchStrict.antt of
-- collector_demands; cuttings of every kind against the other program in host/.
-- Trusts: nothing.
use Rattle.std.specs.Prelude.{ℕ, zero, suc, ◌+◌, ◌-◌, Bool, false, cond, ◌||◌, List, length, get_or, eqb, ltb, Option, Some, None}
use Rattle.children.specs.Rows.{Row, done, bad, item, row_in}

pub data Ruling : Type 0 where
  all_good : Ruling
  bad_at : ℕ → Ruling

abbrev pub ruling : Option ℕ → Ruling
ruling None = all_good
ruling (Some cut) = bad_at cut

unfoldable pub starts_at : Row → ℕ → Bool
starts_at done c = false
starts_at (bad at n) c = eqb at c
starts_at (item at len rest) c = eqb at c || starts_at rest c

unfoldable pub judged_to : Row → ℕ → ℕ
judged_to done end = end
judged_to (bad at n) end = at
judged_to (item at len rest) end = judged_to rest end

-- a cut at c in a message whose top level, from some place on, is this row
unfoldable pub may_in : Row → ℕ → ℕ → Bool
may_in row end c = starts_at row c || (eqb c end || ltb (judged_to row end) c)

abbrev pub may_cut : List ℕ → ℕ → Bool
may_cut msg c = may_in (row_in msg 0 (length msg)) (length msg) c

unfoldable pub sum_to : List ℕ → ℕ → ℕ
sum_to lens zero = 0
sum_to lens (suc k) = sum_to lens k + get_or lens k 0

-- the cuts behind piece k and the `left` - 1 pieces after it
unfoldable pub cuts_from : List ℕ → List ℕ → ℕ → ℕ → Ruling
cuts_from msg lens k zero = all_good
cuts_from msg lens k (suc left) = cond (may_cut msg (sum_to lens (suc k))) (cuts_from msg lens (suc k) left) (bad_at (sum_to lens (suc k)))

unfoldable pub cuts_in : List ℕ → List ℕ → ℕ → Ruling
cuts_in msg lens n = cuts_from msg lens 0 (n - 1)
