-- The steps of a reading that is computed (Bench.antt): one for each thing that the top-level row does.
--
--   accepted t          the reading that accepts a message with the table t
--   counted n m         the tally after n rules and m configurations
--   whole               a reading is the reading of the message's row
--   stops, goes, ends   an element is refused with 6 to 13; an element is taken up; the row ends, and every number is answered
--   answered            no rule: every number is
-- Trusts: nothing.
use mathlib.Core.Path.{◌≡◌}
use mathlib.Core.List.{List, [], ◌∷◌}
use Prim.Native.Nat.{ℕ}
use mathlib.Core.Bool.{true, false}
use lib.ListN.{length}
use lib.Dec.{eqb, ltb}
use Rattle.table.specs.Table.{rules_of, empty_table}
use Rattle.table.specs.declared.Table.{Table}
use Rattle.rows.specs.Tests.{empty_tally}
use Rattle.rows.specs.Rows.{tested_at}
use Rattle.rows.specs.declared.Tally.{Tally}
use Rattle.rows.specs.Rows.{Tested}
use Rattle.children.specs.Rows.{Row, done, item, row_in}
use Rattle.named.specs.Named.{Nothing, unanswered, lone_number}
use Rattle.reader.specs.Take.{with_element, is_taken}
use Rattle.reader.specs.Read.{refusal, read_row, read_table}
use Rattle.reader.specs.Read.{Reading}
use Rattle.reader.specs.Read.{Accepted}

abbrev pub accepted : Table → Reading
accepted t = record { verdict = Accepted; table = t }

abbrev pub counted : ℕ → ℕ → Tally
counted rules configurations = record { counts = 0 ∷ rules ∷ configurations ∷ 0 ∷ 0 ∷ 0 ∷ 0 ∷ 0 ∷ [] }

pub answered : (t : Table) → t.rulecount ≡ 0 → unanswered t ≡ Nothing
unfolding unanswered rules_of
answered t e = rw e

module _ (given : Table) (msg : List ℕ) where
  pub whole : (row : Row) → ltb 23952 (length msg) ≡ false → row_in msg 0 (length msg) ≡ row → read_table given msg ≡ read_row given msg row empty_tally empty_table
  unfolding read_table
  whole row e f = rw (e, f)

  pub ends : (tally : Tally) (t : Table) → unanswered t ≡ Nothing → read_row given msg done tally t ≡ accepted t
  unfolding lone_number
  ends tally t e = rw e

  module _ (at len : ℕ) (rest : Row) (tally : Tally) (t : Table) {s : Tested} (e : tested_at msg at tally ≡ s) where
    pub stops : eqb s.bad 0 ≡ false → read_row given msg (item at len rest) tally t ≡ refusal s.bad s.off given
    stops b = rw (e, b)

    pub goes : {u : Table} → eqb s.bad 0 ≡ true → is_taken msg at t ≡ false → with_element msg at t ≡ u
        → read_row given msg (item at len rest) tally t ≡ read_row given msg rest s.tally u
    goes b f w = rw (e, b, f, w)
