-- Numbers: numbers out of bytes (document 01, "Elements": numbers are big-endian).
--
--   number_at w bytes at     the big-endian number of the `w` bytes from `at`; a byte beyond the end counts as 0
--
-- A list of bytes is a list of numbers; that each is below 256 is known of a slice, and is a premise where a law wants it.
-- Tested by: every message that the reader and the other program read.
-- Trusts: nothing.
use Rattle.std.specs.Prelude.{ℕ, zero, suc, ◌+◌, ◌*◌, List, get_or}

unfoldable pub number_at : ℕ → List ℕ → ℕ → ℕ
number_at zero bytes at = 0
number_at (suc w) bytes at = number_at w bytes at * 256 + get_or bytes (at + w) 0
