-- The paper's numbers tell steps apart (specs/Numbers.antt).
--
--   as_numbers_only   two steps of the same numbers are the same
--   told_only, answered_only   so are two answers of `step_numbered` for one record, and two of `on_event`
--   as_answer, as_result   an answer, and a step, as Rust's own results;  told_step, answered_step   their numbers are the step's
-- Trusts: nothing.
use Rattle.std.proofs.Common.{◌≡◌, ℕ, Bool, true, false, cond, not, ◌&&◌, refl, sym, ap, ◌∙◌}
use Rattle.std.specs.Prelude.{Result, Ok, Err}
use Rattle.refusals.specs.Refusals.{number_of}
use Rattle.refusals.specs.declared.Refusal.{Refusal}
use Rattle.refusals.specs.declared.Refusal.TheVariants as refusal
use Rattle.refusals.proofs.Only.{number_of-only, number_of-some}
use Rattle.modem_record.specs.declared.Modem.{Modem}
use Rattle.modem_record.specs.Record.{counts_idle}
use Rattle.modem_rows.specs.declared.Event.{Event}
use Rattle.modem_rows.specs.Events.{event_on}
use Rattle.modem_step.specs.Step.{Answer, Done, ClockBack, Stepped, is_start, is_back, aged, answer_number, answer_of, stepped_modem}
use Rattle.modem_step.specs.Numbers.{Numbered, as_numbers, told, answered}
use Rattle.modem_step.proofs.Laws.{answer_of_back}

step_of : Numbered → Stepped
step_of n = record { answer = answer_of n.answer; modem = n.modem }

step_of_back : (s : Stepped) → step_of (as_numbers s) ≡ s
unfolding step_of
step_of_back s = rw (answer_of_back s.answer)

pub as_numbers_only : (r s : Stepped) → as_numbers r ≡ as_numbers s → r ≡ s
as_numbers_only r s e = sym (step_of_back r) ∙ ap step_of e ∙ step_of_back s

pub told_only : (m : Modem) (r s : Result Modem Refusal) → told m r ≡ told m s → r ≡ s
told_only m (Ok a) (Ok b) e = ap (λ (n : Numbered). Ok n.modem) e
told_only m (Ok a) (Err s) e = absurd (number_of-some s (sym (ap (λ (n : Numbered). n.answer) e)))
told_only m (Err r) (Ok b) e = absurd (number_of-some r (ap (λ (n : Numbered). n.answer) e))
told_only m (Err r) (Err s) e = ap Err (number_of-only r s (ap (λ (n : Numbered). n.answer) e))

pub answered_only : (r s : Result Unit Refusal) → answered r ≡ answered s → r ≡ s
answered_only (Ok a) (Ok b) e = refl
answered_only (Ok a) (Err s) e = absurd (number_of-some s (sym e))
answered_only (Err r) (Ok b) e = absurd (number_of-some r e)
answered_only (Err r) (Err s) e = ap Err (number_of-only r s e)

abbrev pub as_answer : Answer → Result Unit Refusal
as_answer Done = Ok tt
as_answer ClockBack = Err refusal.ClockBack

pub answered_step : (a : Answer) → answered (as_answer a) ≡ answer_number a
unfolding number_of
answered_step Done = refl
answered_step ClockBack = refl

-- what `on_event` answers and leaves is the step's answer and record
pub answered_is : (x : Result Unit Refusal) (m : Modem) (s : Stepped) → ◌≡◌ {A = Numbered} (record { answer = answered x; modem = m }) (as_numbers s)
    → (x ≡ as_answer s.answer) × (m ≡ s.modem)
answered_is x m s e =
    (answered_only x (as_answer s.answer) (ap (λ (n : Numbered). n.answer) e ∙ sym (answered_step s.answer)), ap (λ (n : Numbered). n.modem) e)

-- the next record, or the refusal alone
abbrev pub result_of : Answer → Modem → Result Modem Refusal
result_of Done m = Ok m
result_of ClockBack m = Err refusal.ClockBack

abbrev pub as_result : Stepped → Result Modem Refusal
as_result s = result_of s.answer s.modem

pub told_step : (m : Modem) (now : ℕ) (ev : Event) → told m (as_result (stepped_modem m now ev)) ≡ as_numbers (stepped_modem m now ev)
unfolding stepped_modem number_of
told_step m now ev = go (not (is_start ev) && counts_idle m) (not (is_start ev) && is_back now m.last)
  where
    go : (i b : Bool) → (let s : Stepped = cond i (record { answer = Done; modem = m }) (cond b (record { answer = answer_of 18; modem = m })
        (record { answer = Done; modem = event_on ev (aged m now) })) in told m (result_of s.answer s.modem) ≡ as_numbers s)
    go true b = refl
    go false true = refl
    go false false = refl
