-- Parts: a part of a slice that is lent back (document 01, "lent from the body itself", "lent back, not copied").
--
--   Part          where it stands, a block of memory and a place in it, and its bytes
--   part at bytes the part of these two
--
-- Trusts: nothing.
use Rattle.std.specs.Prelude.{ℕ, List}

pub record Part : Type 0 where
  pub at : ℕ × ℕ
  pub bytes : List ℕ

abbrev pub part : ℕ × ℕ → List ℕ → Part
part at bytes = record { at = at; bytes = bytes }
