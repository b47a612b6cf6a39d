-- `texts::put_digit` writes one byte: a store is `wrote_byte`.
-- Trusts: nothing.
use Rattle.texts.proofs.Written.{wrote_byte}
use Rattle.texts.proofs.put_digit.Goals as goal

pub returns : goal.returns
returns c = wrote_byte _ _ _ c.requires
