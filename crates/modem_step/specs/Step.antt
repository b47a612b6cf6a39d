-- Step: one event on a modem record: who ignores it, who refuses it, and what comes of it (document 01, "Modem record").
--
--   clock_step now last     now minus last on the 32-bit clock;  is_back now last   the step is half the range or more
--   aged m now             the record with its clock and its running timers moved to now
--   Answer, Stepped        what an event is answered; that, and the record after it
--   answer_number, answer_of this paper's number of an answer, and the answer of a number
--   stepped_modem m now ev  the answer and the record after the event;  next_modem   that record alone
--
-- Tested by: `FFFFFF00 then 00000100` of the bench list in proofs/Bench.antt of crate modem; random records and events
-- against the other program in host/. Trusts: nothing.
use Rattle.std.specs.Prelude.{ℕ, ◌+◌, ◌-◌, ◌%◌, ◌^◌, Bool, true, false, cond, not, ◌&&◌, ◌==◌, nat_le}
use Rattle.modem_record.specs.declared.Modem.{Modem}
use Rattle.modem_rows.specs.declared.Event.{Event}
use Rattle.modem_rows.specs.declared.Event.TheVariants.{Start, Locked, ScanEmpty, TableAccepted, Packet, Tick, Enable, UpstreamUp, UpstreamLost, Disable, Hunt, DownstreamLost, Unnamed}
use Rattle.modem_record.specs.Record.{counts_idle}
use Rattle.modem_rows.specs.Events.{event_on}

abbrev pub clock_step : ℕ → ℕ → ℕ
clock_step now last = (now + (2 ^ 32 - last)) % 2 ^ 32

unfoldable pub is_back : ℕ → ℕ → Bool
is_back now last = nat_le (2 ^ 31) (clock_step now last)

-- what a timer with this mark shows after a step: one that runs falls, not below 0
unfoldable pub fallen : ℕ → ℕ → ℕ → ℕ
fallen mark value by = cond (mark == 0) value (value - by)

abbrev pub aged : Modem → ℕ → Modem
aged m now =
    record { last = now; receive = fallen m.receiveon m.receive (clock_step now m.last); retry = fallen m.retryon m.retry (clock_step now m.last); tdsg1 = m.tdsg1; tdsg2 = m.tdsg2; tdsg3 = m.tdsg3; tdsg4 = m.tdsg4; receiveon = m.receiveon; retryon = m.retryon; state = m.state; permission = m.permission; hasucid = m.hasucid; ucid = m.ucid }

unfoldable pub is_start : Event → Bool
is_start (Start p) = true
is_start Locked = false
is_start ScanEmpty = false
is_start (TableAccepted t) = false
is_start Packet = false
is_start Tick = false
is_start Enable = false
is_start (UpstreamUp u) = false
is_start UpstreamLost = false
is_start Disable = false
is_start Hunt = false
is_start DownstreamLost = false
is_start Unnamed = false

-- taken, or ignored as Idle ignores it; refusal 18, the clock went back
pub data Answer : Type 0 where
  Done : Answer
  ClockBack : Answer

pub record Stepped : Type 0 where
  pub answer : Answer
  pub modem : Modem

-- no answer has an offset but 0
abbrev pub answer_number : Answer → ℕ
answer_number Done = 0
answer_number ClockBack = 18

abbrev pub answer_of : ℕ → Answer
answer_of n = cond (n == answer_number ClockBack) ClockBack Done

-- in Idle everything but Start is ignored; a step of half the range is 18; else the clock and the timers move, then the event
-- acts. A Start, which neither test meets, takes of the record only the clock that was just set.
unfoldable pub stepped_modem : Modem → ℕ → Event → Stepped
stepped_modem m now ev =
    cond (not (is_start ev) && counts_idle m) (record { answer = Done; modem = m })
    (cond (not (is_start ev) && is_back now m.last) (record { answer = answer_of 18; modem = m })
    (record { answer = Done; modem = event_on ev (aged m now) }))

abbrev pub next_modem : Modem → ℕ → Event → Modem
next_modem m now ev = (stepped_modem m now ev).modem
