-- Controls: wrong programs, refuted over any function that meets the promise of `step_modem`.
--
--   no_still_modem     a step that returns the record untouched
--   no_clock_taken     a step that takes every clock
--   no_deaf_disable    a step that leaves the permission when it is disabled
--   step_only          two functions that meet the promise give the same answers and records
-- Trusts: nothing.
use Prim.Native.Nat.{ℕ}
use mathlib.Core.Path.{◌≡◌, sym, ◌∙◌, ap}
use mathlib.Core.Bool.{true}
use native.Mathlib.Omega.{arith}
use Rattle.modem_record.specs.declared.Modem.{Modem}
use Rattle.modem_rows.specs.declared.Event.{Event}
use Rattle.modem_rows.specs.declared.Event.TheVariants.{Start, Tick, Disable}
use Rattle.modem_record.specs.Record.{empty_modem, is_broken, counts_idle}
use Rattle.modem_rows.specs.Events.{start_row, disable_row, disable_event, event_on}
use Rattle.modem_step.specs.Step.{Done, Stepped, is_back, fallen, is_start, answer_number, stepped_modem}

pub step_only : (f g : Modem → ℕ → Event → Stepped) → ((m : Modem) (now : ℕ) (ev : Event) → f m now ev ≡ stepped_modem m now ev)
    → ((m : Modem) (now : ℕ) (ev : Event) → g m now ev ≡ stepped_modem m now ev)
    → (m : Modem) (now : ℕ) (ev : Event) → f m now ev ≡ g m now ev
step_only f g meets also m now ev = meets m now ev ∙ sym (also m now ev)

module _ (step : Modem → ℕ → Event → Stepped) (meets : (m : Modem) (now : ℕ) (ev : Event) → step m now ev ≡ stepped_modem m now ev) where
  pub no_still_modem : ((m : Modem) (now : ℕ) (ev : Event) → (step m now ev).modem ≡ m) → ⊥
  unfolding stepped_modem is_start event_on start_row
  no_still_modem still =
      let z : ◌≡◌ {A = ℕ} 0 1 = ap (λ (m : Modem). m.state) (sym (still empty_modem 0 (Start true))) ∙ ap (λ (s : Stepped). s.modem.state) (meets empty_modem 0 (Start true)) in
      omega arith

  -- a modem in Ranging at clock 1, permitted
  abbrev ranging_modem : Modem
  ranging_modem =
      record { last = 1; receive = 5; retry = 0; tdsg1 = 2; tdsg2 = 600; tdsg3 = 300; tdsg4 = 1800; receiveon = 1; retryon = 0; state = 4; permission = 1; hasucid = 0; ucid = 0 }

  pub no_clock_taken : ((m : Modem) (now : ℕ) (ev : Event) → (step m now ev).answer ≡ Done) → ⊥
  unfolding stepped_modem is_start counts_idle is_broken is_back
  no_clock_taken taken =
      let z : ◌≡◌ {A = ℕ} 0 18 = ap answer_number (sym (taken ranging_modem 0 Tick)) ∙ ap (λ (s : Stepped). answer_number s.answer) (meets ranging_modem 0 Tick) in
      omega arith

  pub no_deaf_disable : ((m : Modem) (now : ℕ) → (step m now Disable).modem.permission ≡ m.permission) → ⊥
  unfolding stepped_modem is_start counts_idle is_broken is_back fallen event_on disable_event disable_row
  no_deaf_disable deaf =
      let z : ◌≡◌ {A = ℕ} 1 0 = sym (deaf ranging_modem 1) ∙ ap (λ (s : Stepped). s.modem.permission) (meets ranging_modem 1 Disable) in
      omega arith
