-- Pieces: a list of elements cut into pieces, between elements (document 02, Req 01).
--
--   pieces_from now es       the pieces of es where the piece that is being filled has the bytes `now`: an element goes into it if it then has at
--                           most 1,497 bytes, else it begins the next
--   pieces_of es             the pieces of es: at least one, also of no element
--   packed_from, packed      the same of the lengths alone
--   total ns                the sum of lengths
--   ElementSized es         every element has 1 to 256 bytes
--
-- A piece here is a part of the message: its body has three bytes more.
-- Tested by: proofs/Bench.antt; the writer against the other program in host/.
-- Trusts: nothing.
use Rattle.std.specs.Prelude.{ℕ, ◌+◌, ◌≤◌, cond, List, [], ◌∷◌, ◌++◌, length, ltb}

unfoldable pub pieces_from : List ℕ → List (List ℕ) → List (List ℕ)
pieces_from now [] = now ∷ []
pieces_from now (e ∷ es) = cond (ltb 1497 (length now + length e)) (now ∷ pieces_from e es) (pieces_from (now ++ e) es)

unfoldable pub pieces_of : List (List ℕ) → List (List ℕ)
pieces_of es = pieces_from [] es

unfoldable pub packed_from : ℕ → List ℕ → List ℕ
packed_from now [] = now ∷ []
packed_from now (n ∷ ns) = cond (ltb 1497 (now + n)) (now ∷ packed_from n ns) (packed_from (now + n) ns)

unfoldable pub packed : List ℕ → List ℕ
packed ns = packed_from 0 ns

unfoldable pub total : List ℕ → ℕ
total [] = 0
total (n ∷ ns) = n + total ns

pub data ElementSized : List (List ℕ) → Type 0 where
  none : ElementSized []
  more : {e : List ℕ} {es : List (List ℕ)} → 1 ≤ length e → length e ≤ 256 → ElementSized es → ElementSized (e ∷ es)
