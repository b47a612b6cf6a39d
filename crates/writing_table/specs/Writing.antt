-- Writing: the answer to a table that is to be written, and the output buffer after it (document 02, Req 01).
--
--   Written                  the answer as numbers: the refusal, or 0; how many bodies there are; their lengths
--   as_written w             the answer of the writer, as numbers
--   refusal n out            a refusal: its number, nothing else, and the buffer as it was
--   writing count t out      19 where reading cannot produce the table; else 20 where the buffer is too short for the bodies; else their number,
--                            their lengths, and the buffer with them
--
-- A length is the body's: the piece of the message and the three bytes ahead of it. Places of `lengths` behind the number are 0.
-- `as_written` tells answers apart: the law `as_written-only` (proofs/Only.antt).
-- Tested by: random tables and buffers against the other program in host/. What it is made of is computed in proofs/Bench.antt of writing_cuts,
-- of writing_bodies and of writing_laws.
-- Trusts: nothing.
use Rattle.std.specs.Prelude.{ℕ, ◌+◌, cond, not, List, map, length, replicate, ltb, Result, Ok, Err}
use Rattle.refusals.specs.declared.Refusal.{Refusal}
use Rattle.refusals.specs.Refusals.{number_of}
use Rattle.table.specs.Table.{padded}
use Rattle.table.specs.declared.Table.{Table}
use Rattle.writing_cuts.specs.Pieces.{pieces_of}
use Rattle.writing_elements.specs.Encode.{elements_of}
use Rattle.writing_bodies.specs.Bodies.{laid, needed_bytes}
use Rattle.writing_check.specs.Producible.{producible}
use Rattle.writing_table.specs.declared.Written.{Written as Bodies}

-- the answer as numbers
pub record Written : Type 0 where
  pub refused : ℕ
  pub number : ℕ
  pub lengths : List ℕ

abbrev pub as_written : Result Bodies Refusal → Written
as_written (Ok w) = record { refused = 0; number = w.number; lengths = w.lengths }
as_written (Err r) = record { refused = number_of r; number = 0; lengths = replicate 16 0 }

-- the answer, and the buffer after the call
pub record Writing : Type 0 where
  pub answer : Written
  pub out : List ℕ

abbrev pub refusal : ℕ → List ℕ → Writing
refusal n out = record { answer = record { refused = n; number = 0; lengths = replicate 16 0 }; out = out }

-- the pieces as bodies
abbrev pub bodies : ℕ → List (List ℕ) → List ℕ → Writing
bodies count ps out =
    record { answer = record { refused = 0; number = length ps; lengths = padded 16 0 (map (λ p. length p + 3) ps) }; out = laid count (length ps) 0 ps out }

unfoldable pub writing : ℕ → Table → List ℕ → Writing
writing count t out =
    cond (not (producible t)) (refusal 19 out)
    (let ps = pieces_of (elements_of t) in
    cond (ltb (length out) (needed_bytes ps)) (refusal 20 out) (bodies count ps out))
