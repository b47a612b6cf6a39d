-- Text: what the listing of a refusal and of an unfinished collection says, as a list of bytes (document 01, "Listing").
--
--   refusal_text, waiting_text    a line each
--
-- Tested by: document 01's examples in proofs/Bench.antt; the samples of examples/; random bodies against the other program.
-- Trusts: nothing.
use Rattle.std.specs.Prelude.{ℕ, List, ◌++◌}
use Rattle.texts.specs.Text.{ascii, field}

unfoldable pub refusal_text : ℕ → ℕ → List ℕ
refusal_text number offset = field (ascii "refused ") number ++ (field (ascii " at ") offset ++ ascii "\n")

unfoldable pub waiting_text : ℕ → List ℕ
waiting_text slots = field (ascii "waiting ") slots ++ ascii "\n"
