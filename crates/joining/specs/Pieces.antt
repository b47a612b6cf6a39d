-- Pieces: what stands in the slots of the slot buffer, and the pieces joined (document 01, "Collecting pieces").
--
--   piece_at slots lens k       the piece in slot k: so many bytes from byte k x 1,500 of the slot buffer, cut where the buffer ends
--   part_in slots k len         the same of a slot buffer that stands somewhere: the part of it that is so many bytes from there
--   joined slots lens n        the pieces of the first n slots, one behind the other
--   joined_into join slots lens n     the join buffer with each of them where it then stands, if it fits there
--   join_step slots join lens n       the length of what is joined, and the join buffer after the call
--
-- Slots count from 0 here, so piece s of the document is in slot s - 1. A slot beyond the lengths has no bytes. Nothing here knows a body
-- or a record.
-- Tested by: the bench example in proofs/Bench.antt of collector_demands; up to sixteen pieces in random orders against the other program in host/.
-- Trusts: nothing.
use Rattle.std.specs.Prelude.{ℕ, zero, suc, ◌+◌, ◌*◌, min, List, [], ◌++◌, length, get_or, take, drop}
use Rattle.wire.specs.Bytes.{pasted}
use Rattle.wire.specs.Parts.{Part, part}

unfoldable pub piece_at : List ℕ → List ℕ → ℕ → List ℕ
piece_at slots lens k = take (get_or lens k 0) (drop (k * 1500) slots)

abbrev pub part_in : Part → ℕ → ℕ → Part
part_in slots k len = part (slots.at.0, min (k * 1500) (length slots.bytes) + slots.at.1) (take len (drop (k * 1500) slots.bytes))

unfoldable pub joined : List ℕ → List ℕ → ℕ → List ℕ
joined slots lens zero = []
joined slots lens (suc n) = joined slots lens n ++ piece_at slots lens n

unfoldable pub joined_into : List ℕ → List ℕ → List ℕ → ℕ → List ℕ
joined_into join slots lens zero = join
joined_into join slots lens (suc n) = pasted (joined_into join slots lens n) (length (joined slots lens n)) (piece_at slots lens n)

-- what the caller has after a call
pub record JoinAfter : Type 0 where
  pub size : ℕ
  pub join : List ℕ

abbrev pub join_step : List ℕ → List ℕ → List ℕ → ℕ → JoinAfter
join_step slots join lens n = record { size = length (joined slots lens n); join = joined_into join slots lens n }
