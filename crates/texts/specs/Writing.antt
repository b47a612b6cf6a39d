-- Writing: what private writers ask and leave (of the public contracts that of `Writer::put_each` alone cites it).
--
--   Fits out at text             the text has room in the buffer from `at` on
--   Wrote out at text new next   the buffer is now `new`: the text from `at` on, all else as it was; `next` is the place behind it
--   Short most text              the text has at most `most` bytes
--   Lined most ..                what Wrote says, of a text that is Short
--   Puts most line pre post      a function value that writes the text of an entry, one of at most `most` bytes, wherever those have room,
--                                and leaves the writer at its buffer
--
-- Trusts: nothing.
use Rattle.std.specs.Prelude.{ℕ, ◌+◌, ◌≤◌, ◌≡◌, List, length}
use denote.Ref.{MutBor}
use Rattle.wire.specs.Bytes.{pasted}
use Rattle.texts.specs.declared.Writer.{Writer}

pub record Fits (out : List ℕ) (at : ℕ) (text : List ℕ) : Type 0 where
  pub room : at + length text ≤ length out

pub record Wrote (out : List ℕ) (at : ℕ) (text new : List ℕ) (next : ℕ) : Type 0 where
  pub bytes : new ≡ pasted out at text
  pub place : next ≡ at + length text

pub record Short (most : ℕ) (text : List ℕ) : Type 0 where
  pub bytes : length text ≤ most

pub record Lined (most : ℕ) (out : List ℕ) (at : ℕ) (text new : List ℕ) (next : ℕ) : Type 0 where
  pub wrote : Wrote out at text new next
  pub short : Short most text

pub record Puts {A : Type 0} (most : ℕ) (line : A → List ℕ) (pre : A → MutBor Writer → Type 0) (post : A → MutBor Writer → Unit {0} → MutBor Writer → Type 0) : Type 0 where
  pub callable : (x : A) (w : MutBor Writer) → w.now.at + most ≤ length w.now.out.now → pre x w
  pub writes : (x : A) (old new : MutBor Writer) → old.now.at + most ≤ length old.now.out.now → post x old tt new → Lined most old.now.out.now old.now.at (line x) new.now.out.now new.now.at
  pub keeps : (x : A) (old new : MutBor Writer) → old.now.at + most ≤ length old.now.out.now → post x old tt new → new.now.out.ghost_name ≡ old.now.out.ghost_name
