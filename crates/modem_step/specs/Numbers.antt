-- Numbers: the step for an event by its number, as a C host names it (`event_of` of crate modem_rows).
--
--   as_numbers s           a step, its answer as this paper's number (0: done)
--   told m r               what `step_numbered` gives for the record m: the next record, or a refusal, which leaves m; answered r   the same of `on_event`
--   numbered_step m now kind a b c d   what the step gives for that event, its answer as this paper's number (0: done)
--
-- No two answers have one number: the laws `told_only` and `answered_only` (proofs/Told.antt). Trusts: nothing.
use Rattle.std.specs.Prelude.{ℕ, Result, Ok, Err}
use Rattle.refusals.specs.Refusals.{number_of}
use Rattle.refusals.specs.declared.Refusal.{Refusal}
use Rattle.modem_record.specs.declared.Modem.{Modem}
use Rattle.modem_rows.specs.Numbers.{event_of}
use Rattle.modem_step.specs.Step.{Stepped, answer_number, stepped_modem}

pub record Numbered : Type 0 where
  pub answer : ℕ
  pub modem : Modem

abbrev pub told : Modem → Result Modem Refusal → Numbered
told m (Ok next) = record { answer = 0; modem = next }
told m (Err r) = record { answer = number_of r; modem = m }

abbrev pub answered : Result Unit Refusal → ℕ
answered (Ok _) = 0
answered (Err r) = number_of r

abbrev pub as_numbers : Stepped → Numbered
as_numbers s = record { answer = answer_number s.answer; modem = s.modem }

unfoldable pub numbered_step : Modem → ℕ → ℕ → ℕ → ℕ → ℕ → ℕ → Numbered
numbered_step m now kind a b c d =
    record { answer = answer_number (stepped_modem m now (event_of kind a b c d)).answer; modem = (stepped_modem m now (event_of kind a b c d)).modem }
