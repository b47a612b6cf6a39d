-- Receive: what one body does to a collection and a table (document 01, "Collecting pieces" and "Refusal numbers"; document 02, Req 04).
--
--   Told, told r          each case of a report, with its number or values: a refused body with its number, 1 to 5 (its offset is 0); Repeat;
--                         Waiting with the empty slots; an accepted message; a refused message with its number and its offset in the message;
--                         a dropped collection, which is refusal 21, with the offset of its first bad cut
--   taken a t message     the report and the table after the collector's answer: only a complete message is read, and only an
--                         accepted one changes the table
--   receive_step held t slots join body     the report, the record, the table and both buffers after the call
--
-- The record and the buffers are those that `collect_step` leaves, whatever the reader says: where the message is complete and refused the
-- collector took the body, so its piece stays held, and the same piece again is a Repeat. A body refused with 1 to 5 leaves all as it
-- was; one refused with 21 leaves the table, which nothing is read into.
-- Tested by: the samples of examples/bodies; bodies and messages against the other program in host/.
-- Trusts: nothing.
use Rattle.std.specs.Prelude.{ℕ, List}
use Rattle.refusals.specs.Refusals.{number_of}
use Rattle.table.specs.declared.Table.{Table}
use Rattle.collection.specs.declared.Collection.{Collection}
use Rattle.collector.specs.Answers.{Said, lent_of}
use Rattle.collector.specs.Answers as collected
use Rattle.collector.specs.Step.{collect_step}
use Rattle.reader.specs.Read.{read_table}
use Rattle.reader.specs.Read.{Verdict}
use Rattle.reader.specs.Read as verdict
use Rattle.receiver.specs.declared.Report.{Report}
use Rattle.receiver.specs.declared.Report.TheVariants.{BodyRefused, Repeat, Waiting, Accepted, MessageRefused, Dropped}

pub data Told : Type 0 where
  body_refused : ℕ → Told
  again : Told
  waiting : ℕ → Told
  accepted : Told
  message_refused : ℕ → ℕ → Told
  dropped : ℕ → Told

abbrev pub told : Report → Told
told (BodyRefused n) = body_refused n
told Repeat = again
told (Waiting k) = waiting k
told Accepted = accepted
told (MessageRefused f) = message_refused (number_of f.refusal) f.offset
told (Dropped cut) = dropped cut

-- the verdict on a complete message
abbrev pub reported : Verdict → Told
reported verdict.Accepted = accepted
reported (verdict.Refused n offset) = message_refused n offset

-- a report, and the table that goes with it
pub record Taken : Type 0 where
  pub report : Told
  pub table : Table

unfoldable pub taken : Said → Table → List ℕ → Taken
taken (collected.refused n) t message = record { report = body_refused n; table = t }
taken collected.again t message = record { report = again; table = t }
taken (collected.waiting k) t message = record { report = waiting k; table = t }
taken (collected.complete n) t message = record { report = reported (read_table t message).verdict; table = (read_table t message).table }
taken (collected.dropped cut) t message = record { report = dropped cut; table = t }

-- what the caller has after a call
pub record Had : Type 0 where
  pub report : Told
  pub held : Collection
  pub table : Table
  pub slots : List ℕ
  pub join : List ℕ

unfoldable pub receive_step : Collection → Table → List ℕ → List ℕ → List ℕ → Had
receive_step held t slots join body =
    let a = collect_step held slots join body in
    let b = taken a.answer t (lent_of a.answer a.held.number body a.join) in
    record { report = b.report; held = a.held; table = b.table; slots = a.slots; join = a.join }
