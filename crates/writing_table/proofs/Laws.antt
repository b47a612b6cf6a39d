-- Laws of `writing` (specs/Writing.antt): one for each answer, in the order of the tests.
--
--   writing_cannot     reading cannot produce the table: 19          writing-short      the buffer is too short: 20
--   writing-bodies     else: the bodies
-- Trusts: nothing.
use Prim.Native.Nat.{ℕ, ◌≤◌, ◌<◌}
use mathlib.Core.Path.{◌≡◌, refl}
use mathlib.Core.Bool.{true, false}
use mathlib.Core.List.{List}
use borrow.Author.Tests.{lt-ltb, le-ltb}
use lib.ListN.{length}
use Rattle.table.specs.declared.Table.{Table}
use Rattle.writing_cuts.specs.Pieces.{pieces_of}
use Rattle.writing_elements.specs.Encode.{elements_of}
use Rattle.writing_bodies.specs.Bodies.{needed_bytes}
use Rattle.writing_check.specs.Producible.{producible}
use Rattle.writing_table.specs.Writing.{refusal, bodies, writing}

module _ (count : ℕ) (t : Table) (out : List ℕ) where
  pub writing_cannot : producible t ≡ false → refusal 19 out ≡ writing count t out
  unfolding writing
  writing_cannot e = rw e refl

  module _ (e : producible t ≡ true) where
    pub writing-short : length out < needed_bytes (pieces_of (elements_of t)) → refusal 20 out ≡ writing count t out
    unfolding writing
    writing-short h = rw (e, lt-ltb (length out) (needed_bytes (pieces_of (elements_of t))) h) refl

    pub writing-bodies : needed_bytes (pieces_of (elements_of t)) ≤ length out → bodies count (pieces_of (elements_of t)) out ≡ writing count t out
    unfolding writing
    writing-bodies h = rw (e, le-ltb (length out) (needed_bytes (pieces_of (elements_of t))) h) refl
