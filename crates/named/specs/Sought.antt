-- Sought: the answer of test 15, in the paper's words (document 01, refusal 15), and what the code answers.
--
--   found f                what the search over a table found: nothing, or rule i's number j
--   sought o               test 15: which case of the definition an answer is
--   Sought, in_words l     each case, with its number and offset: every number is answered; refusal 15 at the 50.6 that is not
--
-- Trusts: nothing.
use Rattle.std.specs.Prelude.{ℕ, Option, Some, None}
use Rattle.named.specs.Named.{Found, Nothing, Number, Lone, Answered, At}

unfoldable pub found : Option (ℕ × ℕ) → Found
found None = Nothing
found (Some p) = Number p.0 p.1

unfoldable pub sought : Option ℕ → Lone
sought None = Answered
sought (Some offset) = At offset

pub data Sought : Type 0 where
  answered : Sought
  refused : ℕ → ℕ → Sought

unfoldable pub in_words : Lone → Sought
in_words Answered = answered
in_words (At offset) = refused 15 offset
