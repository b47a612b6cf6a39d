-- Chose: the answer on a client, in the paper's words (document 01, "Choosing and judging" and refusal 17).
--
--   Choice           the cases of the paper: the place of the chosen rule, or a refusal with its number
--   chose c          what an answer says: each case with its value
--
-- The refusal carries the offset 0, so none is kept. Trusts: nothing.
use Rattle.std.specs.Prelude.{ℕ, Result, Ok, Err}
use Rattle.refusals.specs.Refusals.{number_of}
use Rattle.refusals.specs.declared.Refusal.{Refusal}

pub data Choice : Type 0 where
  Chosen : ℕ → Choice
  Refused : ℕ → Choice

unfoldable pub chose : Result ℕ Refusal → Choice
chose (Ok k) = Chosen k
chose (Err r) = Refused (number_of r)
