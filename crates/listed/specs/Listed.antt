-- Listed: a number looked up in a list, for tests 14 and 15 (document 01, "Refusal numbers") and in a rule ("Choosing and judging").
--
--   is_listed n l           whether the number is in the list
--   is_distinct l           no number stands twice in the list
--   is_among n k l          whether it is at one of the first k places; 0 stands past the end of the list
--   names_number rule n     the rule names the classifier number n
--
-- Tested by: proofs/Bench.antt of the crate reader; random frames against the other program.
-- Trusts: nothing.
use Rattle.std.specs.Prelude.{ℕ, zero, suc, Bool, true, false, not, ◌&&◌, ◌||◌, List, [], ◌∷◌, get_or, eqb}
use Rattle.table.specs.declared.Rule.{Rule}
use Rattle.table.specs.Table.{numbers_of}
use Rattle.order.specs.Best.{any_of}

abbrev pub is_listed : ℕ → List ℕ → Bool
is_listed n [] = false
is_listed n (x ∷ xs) = eqb x n || is_listed n xs

abbrev pub is_distinct : List ℕ → Bool
is_distinct [] = true
is_distinct (x ∷ xs) = not (is_listed x xs) && is_distinct xs

abbrev pub is_among : ℕ → ℕ → List ℕ → Bool
is_among n zero l = false
is_among n (suc k) l = eqb (get_or l k 0) n || is_among n k l

unfoldable pub names_number : Rule → ℕ → Bool
names_number rule n = any_of (eqb n) (numbers_of rule)
