-- Tables: the numbers by which the answers of reading, listing and writing cross to C (include/dsg.h).
--
--   read_answer v               a verdict of the reader: number 0, or the refusal and its offset
--   read_stepped t msg          what a host has after `dsg_read`: the answer and the table
--   listed_as l                 an answer of the listing: number 0 and the length of the text, or the refusal
--   list_after t count out      what a host has after `dsg_list_table`: the answer and the buffer
--   body_after body out         what a host has after `dsg_list_body`
--   written_as w                an answer of the writer: number 0, the bodies' number and their lengths, or the refusal
--   write_after t count out     what a host has after `dsg_write`: the answer and the buffer
--
-- What an answer does not use is 0. Trusts: nothing.
use Rattle.std.specs.Prelude.{ℕ, List}
use Rattle.table.specs.declared.Table.{Table}
use Rattle.reader.specs.Read.{Verdict}
use Rattle.reader.specs.Read.{Reading}
use Rattle.reader.specs.Read.{number_of, offset_of, read_table}
use Rattle.listing.specs.Text.{table_text}
use Rattle.notices.specs.Listing.{Written as WrittenText, text, refused, Listing, listing}
use Rattle.bodies.specs.Body.{body_text}
use Rattle.writing_table.specs.Writing.{Written as WrittenBodies, Writing, writing}
use Rattle.dsg_tables.specs.declared.ReadAnswer.{ReadAnswer}
use Rattle.dsg_tables.specs.declared.ReadStepped.{ReadStepped}
use Rattle.dsg_tables.specs.declared.Listed.{Listed}
use Rattle.dsg_tables.specs.declared.Written.{Written}

abbrev pub read_answer : Verdict → ReadAnswer
read_answer v = record { number = number_of v; offset = offset_of v }

abbrev pub reading_as : Reading → ReadStepped
reading_as s = record { answer = read_answer s.verdict; table = s.table }

abbrev pub read_stepped : Table → List ℕ → ReadStepped
read_stepped t msg = reading_as (read_table t msg)

abbrev pub listed_as : WrittenText → Listed
listed_as (text n) = record { number = 0; length = n }
listed_as (refused n) = record { number = n; length = 0 }

pub record ListAfter : Type 0 where
  pub answer : Listed
  pub out : List ℕ

abbrev pub listing_as : Listing → ListAfter
listing_as l = record { answer = listed_as l.answer; out = l.out }

abbrev pub list_after : Table → ℕ → List ℕ → ListAfter
list_after t count out = listing_as (listing (table_text count t) out)

abbrev pub body_after : List ℕ → List ℕ → ListAfter
body_after body out = listing_as (listing (body_text body) out)

abbrev pub written_as : WrittenBodies → Written
written_as w = record { number = w.refused; pieces = w.number; lengths = w.lengths }

pub record WriteAfter : Type 0 where
  pub answer : Written
  pub out : List ℕ

abbrev pub writing_as : Writing → WriteAfter
writing_as w = record { answer = written_as w.answer; out = w.out }

abbrev pub write_after : Table → ℕ → List ℕ → WriteAfter
write_after t count out = writing_as (writing count t out)
