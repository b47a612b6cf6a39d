-- Within: bytes at a place of a buffer that has room for the most that they could be (the contract of every function that writes an element).
--
--   put_within most bytes out at    where the buffer has `most` bytes from `at` on: the place behind the bytes, and the buffer with them there,
--                                  every other byte as it was; else `at`, and the buffer as it was
--
--   Puts most line pre post         a function that is passed in may be called where `most` bytes are left, and then writes `line` of an entry, of
--                                  at most `most` bytes
--
-- So a writer asks for room once, before it knows how long its element is. `put` (specs/Put.antt of texts) asks for the bytes themselves.
-- Trusts: nothing.
use Rattle.std.specs.Prelude.{ℕ, ◌+◌, ◌≤◌, cond, List, length, leb}
use denote.Ref.{MutBor}
use Rattle.wire.specs.Bytes.{pasted}
use Rattle.texts.specs.Put.{Put}
use Rattle.texts.specs.Writing.{Lined}

unfoldable pub put_within : ℕ → List ℕ → List ℕ → ℕ → Put
put_within most bytes out at = cond (leb (at + most) (length out)) (record { next = at + length bytes; out = pasted out at bytes }) (record { next = at; out = out })

pub record Puts {A : Type 0} (most : ℕ) (line : A → List ℕ) (pre : A → MutBor (List ℕ) → ℕ → Type 0) (post : A → MutBor (List ℕ) → ℕ → ℕ → MutBor (List ℕ) → Type 0) : Type 0 where
  pub callable : (x : A) (out : MutBor (List ℕ)) (at : ℕ) → at + most ≤ length out.now → pre x out at
  pub writes : (x : A) (old new : MutBor (List ℕ)) (at next : ℕ) → at + most ≤ length old.now → post x old at next new → Lined most old.now at (line x) new.now next
