-- Put: a text at a place of a lent buffer (the contract of every function that writes a text).
--
--   put text out at    where the text lies in the buffer from `at` on: the place behind it, and the buffer with the text there, every other byte
--                      as it was; else `at`, and the buffer as it was
--
-- Tested by: proofs/Bench.antt.
-- Trusts: nothing.
use Rattle.std.specs.Prelude.{ℕ, ◌+◌, cond, List, length, leb}
use Rattle.wire.specs.Bytes.{pasted}

-- the place behind the text and the buffer after the call
pub record Put : Type 0 where
  pub next : ℕ
  pub out : List ℕ

unfoldable pub put : List ℕ → List ℕ → ℕ → Put
put text out at = cond (leb (at + length text) (length out)) (record { next = at + length text; out = pasted out at text }) (record { next = at; out = out })
