-- Read: a message becomes a table or a refusal (document 01, "Refusal numbers": the order of the tests).
--
--   read_table given msg    3; then the top-level elements in byte order, each tested 6 to 13 with all that is in it, then 14, then
--                          taken up; last 15; then the table. After a refusal the table is the given one.
--   number_of, offset_of     the paper's number and offset of a verdict: 0 and 0 where the message is accepted
--
-- Tests 6 to 13 are tested_at, of the crate rows; 15 is lone_number, of the crate named. A message is refused at its first fault in this order.
-- Tested by: the starred messages in proofs/Bench.antt; random messages against the other program.
-- Trusts: nothing.
use Rattle.std.specs.Prelude.{ℕ, cond, not, List, length, eqb, ltb}
use Rattle.table.specs.Table.{empty_table}
use Rattle.table.specs.declared.Table.{Table}
use Rattle.children.specs.Rows.{Row, done, bad, item, row_in}
use Rattle.rows.specs.Tests.{empty_tally}
use Rattle.rows.specs.Rows.{tested_at}
use Rattle.rows.specs.declared.Tally.{Tally}
use Rattle.named.specs.Named.{Lone, Answered, At, lone_number}
use Rattle.reader.specs.Take.{with_element, is_taken}

-- what became of a message: it is a table; it is refused, with the number and the offset of the type byte concerned (0 for number 3)
pub data Verdict : Type 0 where
  Accepted : Verdict
  Refused : ℕ → ℕ → Verdict

-- the verdict, and the table: the message's if it is accepted, else the one given
pub record Reading : Type 0 where
  pub verdict : Verdict
  pub table : Table

abbrev pub number_of : Verdict → ℕ
number_of Accepted = 0
number_of (Refused n off) = n

abbrev pub offset_of : Verdict → ℕ
offset_of Accepted = 0
offset_of (Refused n off) = off

abbrev pub refusal : ℕ → ℕ → Table → Reading
refusal n off given = record { verdict = Refused n off; table = given }

-- 15, or the table
abbrev pub read_lone : Table → Table → Lone → Reading
read_lone given t Answered = record { verdict = Accepted; table = t }
read_lone given t (At off) = refusal 15 off given

-- the rest of the top level, with the tally and the table that the elements before it leave
abbrev pub read_row : Table → List ℕ → Row → Tally → Table → Reading
read_row given msg done tally t = read_lone given t (lone_number msg t)
read_row given msg (bad at n) tally t = refusal n at given
read_row given msg (item at len rest) tally t =
    cond (not (eqb (tested_at msg at tally).bad 0)) (refusal (tested_at msg at tally).bad (tested_at msg at tally).off given)
    (cond (is_taken msg at t) (refusal 14 at given)
    (read_row given msg rest (tested_at msg at tally).tally (with_element msg at t)))

unfoldable pub read_table : Table → List ℕ → Reading
read_table given msg = cond (ltb 23952 (length msg)) (refusal 3 0 given) (read_row given msg (row_in msg 0 (length msg)) empty_tally empty_table)
