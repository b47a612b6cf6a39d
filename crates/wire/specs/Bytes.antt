-- Bytes: a piece put into a buffer, and pieces one behind the other (document 01, "Collecting pieces").
--
--   pasted target at piece  the target with the piece from `at` on where it fits, else the target as it was
--   concat ps               the bytes of the pieces, one behind the other
--
-- Tested by: every run of bodies that the collector and the other program take.
-- Trusts: nothing.
use Rattle.std.specs.Prelude.{ℕ, ◌+◌, cond, List, [], ◌∷◌, ◌++◌, length, take, drop, leb}

unfoldable pub pasted : List ℕ → ℕ → List ℕ → List ℕ
pasted target at piece =
    cond (leb (at + length piece) (length target)) (take at target ++ (piece ++ drop (at + length piece) target)) target

unfoldable pub concat : List (List ℕ) → List ℕ
concat [] = []
concat (p ∷ ps) = p ++ concat ps
