-- Laws of the step (specs/Step.antt) and of an event's number (specs/Numbers.antt).
--
--   stepped_modem-start, -acts, -ignored, -back, -taken   one for each answer, in the order of the tests
--   is_start-numbers    which numbers name a Start
--   numbered_step_ignored, _back, -taken   one for each way out of the step
--   answer_of_back      the answer of an answer's number
-- Trusts: nothing.
use Rattle.std.proofs.Common.{◌≡◌, ℕ, Bool, true, false, cond, not, ◌&&◌, eqb, ltb, refl}
use Rattle.modem_record.specs.declared.Modem.{Modem}
use Rattle.modem_rows.specs.declared.Event.{Event}
use Rattle.modem_rows.specs.declared.Event.TheVariants.{Start}
use Rattle.modem_record.specs.Record.{counts_idle}
use Rattle.modem_rows.specs.Events.{start_row, event_on}
use Rattle.modem_step.specs.Step.{Answer, Done, ClockBack, is_back, aged, is_start, answer_number, answer_of, stepped_modem}
use Rattle.modem_rows.specs.Numbers.{start_of, event_of}
use Rattle.modem_step.specs.Numbers.{Numbered, numbered_step}

module _ (m : Modem) (now : ℕ) where
  pub stepped_modem-start : (p : Bool) → stepped_modem m now (Start p) ≡ record { answer = Done; modem = start_row p now }
  unfolding stepped_modem event_on is_start
  stepped_modem-start p = refl

  pub stepped_modem_acts : (ev : Event) → is_start ev ≡ true → stepped_modem m now ev ≡ record { answer = Done; modem = event_on ev (aged m now) }
  unfolding stepped_modem
  stepped_modem_acts ev h = simp h

  module _ (ev : Event) (other : is_start ev ≡ false) where
    pub stepped_modem_ignored : counts_idle m ≡ true → stepped_modem m now ev ≡ record { answer = Done; modem = m }
    unfolding stepped_modem
    stepped_modem_ignored h = simp (other, h)

    pub stepped_modem_back : counts_idle m ≡ false → is_back now m.last ≡ true → stepped_modem m now ev ≡ record { answer = ClockBack; modem = m }
    unfolding stepped_modem
    stepped_modem_back h k = simp (other, h, k)

    pub stepped_modem-taken : counts_idle m ≡ false → is_back now m.last ≡ false → stepped_modem m now ev ≡ record { answer = Done; modem = event_on ev (aged m now) }
    unfolding stepped_modem
    stepped_modem-taken h k = simp (other, h, k)

is_start-cond : (t : Bool) (x y : Event) → is_start (cond t x y) ≡ cond t (is_start x) (is_start y)
is_start-cond true x y = refl
is_start-cond false x y = refl

cond_false : (t : Bool) → cond t false false ≡ false
cond_false true = refl
cond_false false = refl

cond_and : (t u : Bool) → cond t (cond u true false) false ≡ t && u
cond_and true true = refl
cond_and true false = refl
cond_and false u = refl

pub is_start-numbers : (kind a b c d : ℕ) → is_start (event_of kind a b c d) ≡ eqb kind 1 && ltb a 2
unfolding event_of is_start
is_start-numbers kind a b c d = simp (is_start-cond, cond_false) (cond_and (eqb kind 1) (ltb a 2))

pub start_of_mark : (p : Bool) → start_of (cond p 1 0) ≡ Start p
start_of_mark true = refl
start_of_mark false = refl

module _ (m : Modem) (now kind a b c d : ℕ) where
  abbrev Step : Numbered → Type 0
  Step s = s ≡ numbered_step m now kind a b c d

  abbrev starts : Bool
  starts = eqb kind 1 && ltb a 2

  pub numbered_step_ignored : starts ≡ false → counts_idle m ≡ true → Step (record { answer = 0; modem = m })
  unfolding numbered_step stepped_modem
  numbered_step_ignored s i = rw (is_start-numbers, s, i)

  pub numbered_step_back : not starts && counts_idle m ≡ false → starts ≡ false → is_back now m.last ≡ true → Step (record { answer = 18; modem = m })
  unfolding numbered_step stepped_modem
  numbered_step_back i s b = rw (is_start-numbers, i, s, b)

  pub numbered_step-taken : not starts && counts_idle m ≡ false → not starts && is_back now m.last ≡ false
      → Step (record { answer = 0; modem = event_on (event_of kind a b c d) (aged m now) })
  unfolding numbered_step stepped_modem
  numbered_step-taken i b = rw (is_start-numbers, i, b)

pub answer_of_back : (answer : Answer) → answer_of (answer_number answer) ≡ answer
answer_of_back Done = refl
answer_of_back ClockBack = refl
