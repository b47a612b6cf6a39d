-- Steps: what the private functions of a reading owe each other. No promise of a public function cites these.
--
--   handed given r         the reading with this answer: the table, or a refusal with the given one
--   PlaceFor l n x at r m  r is the place of the number x in the list l, whose first n are used, and m is the list with it: refusal 14
--                          at `at` if it is among these, none if there is no place
--   finished msg s         the table of s with the configuration that stands at its place
--   TakesUp msg r          the elements come to r: a refusal of the message, or a table of which only 15 is to be tested
--   ReadsAs msg r          with any given table, the reading of the message is r, handed back
--
-- Trusts: nothing.
use Rattle.std.specs.Prelude.{ℕ, ◌≤◌, ◌<◌, ◌≡◌, true, false, List, length, take, set, Option, None, Some, Result, Ok, Err}
use Rattle.refusals.specs.Refusals.{number_of}
use Rattle.refusals.specs.declared.Fault.{Fault}
use Rattle.table.specs.Table.{empty_table}
use Rattle.table.specs.declared.Table.{Table}
use Rattle.children.specs.Rows.{row_in}
use Rattle.rows.specs.Tests.{empty_tally}
use Rattle.configurations.specs.Configurations.{configuration_at}
use Rattle.listed.specs.Listed.{is_listed}
use Rattle.named.specs.Named.{lone_number}
use Rattle.reader.specs.Take.{with_configuration}
use Rattle.reader.specs.Read.{Accepted, Reading, refusal, read_lone, read_row, read_table}
use Rattle.reader.specs.declared.Taken.{Taken}

abbrev pub handed : Table → Result Table Fault → Reading
handed given (Ok t) = record { verdict = Accepted; table = t }
handed given (Err f) = refusal (number_of f.refusal) f.offset given

abbrev pub PlaceFor : List ℕ → ℕ → ℕ → ℕ → Result (Option ℕ) Fault → List ℕ → Type 0
PlaceFor l n x at (Err f) m = (is_listed x (take n l) ≡ true) × (number_of f.refusal ≡ 14) × (f.offset ≡ at)
PlaceFor l n x at (Ok None) m = (is_listed x (take n l) ≡ false) × (32 ≤ n) × (m ≡ l)
PlaceFor l n x at (Ok (Some place)) m = (is_listed x (take n l) ≡ false) × (n < 32) × (place ≡ n) × (m ≡ set l n x)

-- the reading of all elements, with the table that a refusal hands back
unfoldable pub read_all : Table → List ℕ → Reading
read_all given msg = read_row given msg (row_in msg 0 (length msg)) empty_tally empty_table

-- the table that the elements leave: the configuration is put into the one without it
abbrev pub finished : List ℕ → Taken → Table
finished msg s = with_configuration (configuration_at msg s.configured) s.table

abbrev pub TakesUp : List ℕ → Result Taken Fault → Type 0
TakesUp msg (Err f) = (given : Table) → refusal (number_of f.refusal) f.offset given ≡ read_all given msg
TakesUp msg (Ok s) = (given : Table) → read_lone given (finished msg s) (lone_number msg (finished msg s)) ≡ read_all given msg

abbrev pub ReadsAs : List ℕ → Result Table Fault → Type 0
ReadsAs msg r = (given : Table) → handed given r ≡ read_table given msg
