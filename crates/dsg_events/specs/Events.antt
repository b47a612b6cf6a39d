-- Events: what a host has after `dsg_event` (include/dsg.h).
--
--   event_stepped m clock event a b c d   the number of the answer, 0 or 18, and the record after the event of that number
--
-- Which event a number names, and what becomes of any other, is `event_of` of crate modem_rows. Trusts: nothing.
use Rattle.std.specs.Prelude.{ℕ}
use Rattle.modem_record.specs.declared.Modem.{Modem}
use Rattle.modem_step.specs.Numbers.{Numbered, numbered_step}
use Rattle.dsg_events.specs.declared.EventStepped.{EventStepped}

abbrev pub stepped_as : Numbered → EventStepped
stepped_as s = record { number = s.answer; modem = s.modem }

abbrev pub event_stepped : Modem → ℕ → ℕ → ℕ → ℕ → ℕ → ℕ → EventStepped
event_stepped m clock event a b c d = stepped_as (numbered_step m clock event a b c d)
