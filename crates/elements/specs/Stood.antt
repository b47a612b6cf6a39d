-- Stood: what an answer of `read_head` says that stands at a place of a row.
--
--   stood r   the row ends; an element, with the length of its value; a head that is refused, with the refusal's number
--
-- The offset of a refusal is the place itself, so it is not kept. Trusts: nothing.
use Rattle.std.specs.Prelude.{ℕ, Option, Some, None, Result, Ok, Err}
use Rattle.refusals.specs.declared.Refusal.{Refusal}
use Rattle.refusals.specs.Refusals.{number_of}
use Rattle.elements.specs.Elements.{Head, End, Refused, Value}

unfoldable pub stood : Result (Option ℕ) Refusal → Head
stood (Ok None) = End
stood (Ok (Some len)) = Value len
stood (Err r) = Refused (number_of r)
