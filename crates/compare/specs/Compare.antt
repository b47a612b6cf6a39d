-- Compare: two parts compared (document 01, "Collecting pieces").
--
--   same_bytes a b           whether both have the same length and the same bytes
--
-- Tested by: every run of bodies that the collector and the other program take.
-- Trusts: nothing.
use Rattle.std.specs.Prelude.{ℕ, Bool, true, false, ◌&&◌, List, [], ◌∷◌, eqb}

unfoldable pub same_bytes : List ℕ → List ℕ → Bool
same_bytes [] [] = true
same_bytes [] (y ∷ ys) = false
same_bytes (x ∷ xs) [] = false
same_bytes (x ∷ xs) (y ∷ ys) = eqb x y && same_bytes xs ys
