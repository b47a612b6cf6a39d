-- Bodies: the pieces of a message as the bodies of a DCD, at their places of the output buffer (document 02, Req 01).
--
--   laid count n k ps out   the buffer with the bodies of the pieces ps, from piece k (counted from 0) of n on, each at a step of 1,500: change count,
--                           number of pieces, sequence number from 1, the piece
--   needed_bytes ps          where the last body ends: every body but the last takes a whole step
--   cut_by ns msg            a message cut into pieces of these lengths
--
-- Bytes between the bodies and behind the last are as they were: `pasted` changes no other byte.
-- Tested by: proofs/Bench.antt; the writer against the other program in host/.
-- Trusts: nothing.
use Rattle.std.specs.Prelude.{ℕ, ◌+◌, ◌*◌, List, [], ◌∷◌, length, take, drop}
use Rattle.wire.specs.Bytes.{pasted}

unfoldable pub laid : ℕ → ℕ → ℕ → List (List ℕ) → List ℕ → List ℕ
laid count n k [] out = out
laid count n k (p ∷ ps) out = laid count n (k + 1) ps (pasted out (k * 1500) (count ∷ n ∷ (k + 1) ∷ p))

unfoldable pub needed_bytes : List (List ℕ) → ℕ
needed_bytes [] = 0
needed_bytes (p ∷ []) = 3 + length p
needed_bytes (p ∷ q ∷ ps) = 1500 + needed_bytes (q ∷ ps)

unfoldable pub cut_by : List ℕ → List ℕ → List (List ℕ)
cut_by [] msg = []
cut_by (n ∷ ns) msg = take n msg ∷ cut_by ns (drop n msg)
