-- Elements: what stands at a place of a row (document 01, "Elements" and refusals 6 to 8).
--
--   Head                 what stands at a place of a row: End, the row ends; Refused n, a head that is refused; Value len, an element
--   length_byte msg at   the length byte of the element whose type byte is at `at`
--   value_in h           the length of the value, where an element stands
--   head_at msg at end   at the end of the row: End; else the length of the value of the element whose type byte is at `at`,
--                       or the first of 6, 7, 8 that its two head bytes earn
--
-- Places count from the message's first byte; a row ends at `end`, or with the message if that is sooner.
-- Nothing here looks at a value's own bytes, or knows which types are listed.
-- Tested by: `32`, `32 FF` and `63 01 00` of the bench list, in the crate rows.
-- Trusts: nothing.
use Rattle.std.specs.Prelude.{ℕ, ◌+◌, min, cond, List, length, get_or, eqb, leb, ltb, Option, Some, None}

pub data Head : Type 0 where
  End : Head
  Refused : ℕ → Head
  Value : ℕ → Head

abbrev pub length_byte : List ℕ → ℕ → ℕ
length_byte msg at = get_or msg (at + 1) 0

abbrev pub value_in : Head → Option ℕ
value_in End = None
value_in (Refused n) = None
value_in (Value len) = Some len

unfoldable pub head_at : List ℕ → ℕ → ℕ → Head
head_at msg at end =
    let stop = min end (length msg) in
    cond (leb stop at) End
    (cond (eqb stop (at + 1)) (Refused 6)
    (cond (eqb (length_byte msg at) 255) (Refused 7)
    (cond (ltb stop (at + 2 + length_byte msg at)) (Refused 8)
    (Value (length_byte msg at)))))
