-- Judged: the verdict on a frame, in the paper's words (document 01, "Choosing and judging" and refusals 16 and 17).
--
--   Verdict     the cases of the paper: a refusal with its number; a frame of another tunnel; forwarded, with the number of the
--               matching classifier, 0 for none; filtered
--   judged v    what an answer says: each case with its value
--
-- Refusals of a frame carry the offset 0, so none is kept. Trusts: nothing.
use Rattle.std.specs.Prelude.{ℕ}
use Rattle.payloads.specs.declared.Verdict as answers
use Rattle.payloads.specs.declared.Verdict.TheVariants as answer

pub data Verdict : Type 0 where
  Refused : ℕ → Verdict
  Other : Verdict
  Forward : ℕ → Verdict
  Filtered : Verdict

unfoldable pub judged : answers.Verdict → Verdict
judged (answer.Refused n) = Refused n
judged answer.Other = Other
judged (answer.Forward n) = Forward n
judged answer.Filtered = Filtered
