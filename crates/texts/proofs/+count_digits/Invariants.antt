-- The measure of `texts::count_digits`.
-- Trusts: nothing.
use Rattle.texts.proofs.+count_digits.Given as goal

abbrev pub decreases-count_digits : goal.decreases-count_digits
decreases-count_digits l = l.n
