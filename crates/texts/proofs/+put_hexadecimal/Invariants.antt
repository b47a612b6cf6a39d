-- The measure of `texts::put_hexadecimal`.
-- Trusts: nothing.
use Rattle.texts.proofs.+put_hexadecimal.Given as goal

abbrev pub decreases-put_hexadecimal : goal.decreases-put_hexadecimal
decreases-put_hexadecimal l = l.width
