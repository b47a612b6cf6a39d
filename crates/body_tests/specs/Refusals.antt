-- Refusals: the parts of a body, and refusals 1 to 5 (document 01, "Collecting pieces").
--
--   count_of, number_of, slot_of, piece_of   the change count, the number of fragments, the slot of the piece, the piece
--   body_refusal body           the first of tests 2 to 5 that the body fails, or 0
--   refusal_of slots join body  test 1 on the lengths of the two buffers, then those
--   refused_by answer           the number of a refusal that is answered, or 0 where nothing is refused
--   Fits body                  what tests 2 to 5 leave (asked by private functions; no promise cites it)
--
-- Piece s of the document is in slot s - 1. A byte beyond the body's end counts as 0: a shorter body is refused before it is read.
-- Tested by: bodies of every length and head against the other program in host/.
-- Trusts: nothing.
use Rattle.std.specs.Prelude.{ℕ, ◌-◌, ◌≤◌, cond, ◌||◌, List, length, get_or, drop, ltb, eqb, Result, Ok, Err}
use Rattle.refusals.specs.declared.Refusal.{Refusal}
use Rattle.refusals.specs.Refusals as refusals

abbrev pub count_of : List ℕ → ℕ
count_of body = get_or body 0 0

abbrev pub number_of : List ℕ → ℕ
number_of body = get_or body 1 0

abbrev pub slot_of : List ℕ → ℕ
slot_of body = get_or body 2 0 - 1

abbrev pub piece_of : List ℕ → List ℕ
piece_of body = drop 3 body

unfoldable pub body_refusal : List ℕ → ℕ
body_refusal body =
    cond (ltb (length body) 3) 2
    (cond (ltb 1500 (length body)) 3
    (cond (eqb (number_of body) 0 || ltb 16 (number_of body)) 4
    (cond (eqb (get_or body 2 0) 0 || ltb (number_of body) (get_or body 2 0)) 5 0)))

unfoldable pub refusal_of : ℕ → ℕ → List ℕ → ℕ
refusal_of slots join body = cond (ltb slots 24000 || ltb join 24000) 1 (body_refusal body)

abbrev pub refused_by : Result (Unit {0}) Refusal → ℕ
refused_by (Ok x) = 0
refused_by (Err r) = refusals.number_of r

pub record Fits (body : List ℕ) : Type 0 where
  pub head : 3 ≤ length body
  pub most : length body ≤ 1500
  pub first : 1 ≤ get_or body 2 0
  pub last : get_or body 2 0 ≤ get_or body 1 0
  pub few : get_or body 1 0 ≤ 16
