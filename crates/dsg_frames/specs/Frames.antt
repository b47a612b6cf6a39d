-- Frames: the numbers by which choices and verdicts cross to C (include/dsg.h).
--
--   ucid_of known ucid     the UCID of a mark and a number: none where the mark is 0
--   client_of kind value   the client of a kind and a value
--   choice_as c            a choice: number 0 and the rule's place, or the refusal
--   choice_for t kind value known ucid    what `dsg_choose` answers
--   verdict_as v n         a verdict on a frame of n bytes
--   verdict_for t kind value known ucid frame    what `dsg_judge` answers
--
-- Kinds of a verdict: 0 refused, 1 other, 2 forward, 3 filtered. What an answer does not use is 0. Trusts: nothing.
use Rattle.std.specs.Prelude.{ℕ, ◌-◌, cond, List, length, eqb, None, Some}
use Rattle.table.specs.declared.Client.{Client}
use Rattle.table.specs.declared.Table.{Table}
use Rattle.choice.specs.Chose as rules
use Rattle.choice.specs.Choose.{Ucid, choice_of, refusal_of, place_of}
use Rattle.payloads.specs.Judged as frames
use Rattle.payloads.specs.Judged.{Refused, Other, Forward, Filtered}
use Rattle.payloads.specs.Payload.{payload_range}
use Rattle.tunnel.specs.Judge.{verdict_of}
use Rattle.dsg_frames.specs.declared.Choice.{Choice}
use Rattle.dsg_frames.specs.declared.Verdict.{Verdict}

abbrev pub ucid_of : ℕ → ℕ → Ucid
ucid_of known ucid = cond (eqb known 0) None (Some ucid)

abbrev pub client_of : ℕ → ℕ → Client
client_of kind value = record { kind = kind; value = value }

abbrev pub choice_as : rules.Choice → Choice
choice_as c = record { number = refusal_of c; place = place_of c }

abbrev pub choice_for : Table → ℕ → ℕ → ℕ → ℕ → Choice
choice_for t kind value known ucid = choice_as (choice_of t (client_of kind value) (ucid_of known ucid))

-- the payload is told by its range
abbrev pub verdict_as : frames.Verdict → ℕ → Verdict
verdict_as (Refused k) n = record { kind = 0; number = k; start = 0; length = 0 }
verdict_as Other n = record { kind = 1; number = 0; start = 0; length = 0 }
verdict_as (Forward k) n = let p = payload_range (Forward k) n in record { kind = 2; number = k; start = p.start; length = p.end - p.start }
verdict_as Filtered n = record { kind = 3; number = 0; start = 0; length = 0 }

abbrev pub verdict_for : Table → ℕ → ℕ → ℕ → ℕ → List ℕ → Verdict
verdict_for t kind value known ucid frame = verdict_as (verdict_of t (client_of kind value) (ucid_of known ucid) frame) (length frame)
