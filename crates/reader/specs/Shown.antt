-- Shown: what a message is answered, in the paper's words (document 01, refusals 3 and 6 to 15).
--
--   passed v   each case of a verdict, with its number and offset: accepted; a refusal with its number and the offset in the message
--   shown r    a reading: its verdict so told, and the table
--
-- Trusts: nothing.
use Rattle.std.specs.Prelude.{Result, Ok, Err}
use Rattle.refusals.specs.Refusals.{number_of}
use Rattle.refusals.specs.declared.Fault.{Fault}
use Rattle.reader.specs.declared.Reading.{Reading as Answer}
use Rattle.reader.specs.Read.{Verdict, Accepted, Refused, Reading}

unfoldable pub passed : Result (Unit {0}) Fault → Verdict
passed (Ok u) = Accepted
passed (Err f) = Refused (number_of f.refusal) f.offset

unfoldable pub shown : Answer → Reading
shown r = record { verdict = passed r.verdict; table = r.table }
