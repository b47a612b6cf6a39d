-- Bench: the starred example of document 01 that is the modem's, computed from the definitions.
--
--   clock_over_the_top   clock FFFFFF00, then 00000100: a step of 512
--   timer_over_the_top   so a receive timer that showed 2000 shows 1488, and the event is taken
--   clock_back           the same two the other way round are refused with 18, and the record stays
-- Trusts: nothing.
use mathlib.Core.Path.{◌≡◌, refl}
use Rattle.modem_record.specs.declared.Modem.{Modem}
use Rattle.modem_rows.specs.declared.Event.TheVariants.{Tick}
use Rattle.modem_record.specs.Record.{is_broken, counts_idle}
use Rattle.modem_rows.specs.Events.{tick_event, rest_row, wake_row, retry_row, event_on}
use Rattle.modem_step.specs.Step.{clock_step, is_back, fallen, is_start, answer_number, stepped_modem}
use Prim.Native.Nat.{ℕ}

pub clock_over_the_top : clock_step 0x00000100 0xFFFFFF00 ≡ 512
clock_over_the_top = refl

-- a modem in Checking at a clock, with this much left of its receive timer
abbrev checking_at : ℕ → ℕ → Modem
checking_at last receive =
    record { last = last; receive = receive; retry = 0; tdsg1 = 2; tdsg2 = 600; tdsg3 = 300; tdsg4 = 1800; receiveon = 1; retryon = 0; state = 2; permission = 1; hasucid = 0; ucid = 0 }

pub timer_over_the_top : (stepped_modem (checking_at 0xFFFFFF00 2000) 0x00000100 Tick).modem ≡ checking_at 0x00000100 1488
unfolding stepped_modem is_start counts_idle is_broken is_back fallen event_on tick_event rest_row wake_row retry_row
timer_over_the_top = refl

pub clock_back : (answer_number (stepped_modem (checking_at 0x00000100 2000) 0xFFFFFF00 Tick).answer ≡ 18) ×
    ((stepped_modem (checking_at 0x00000100 2000) 0xFFFFFF00 Tick).modem ≡ checking_at 0x00000100 2000)
unfolding stepped_modem is_start counts_idle is_broken is_back fallen event_on tick_event rest_row wake_row retry_row
clock_back = (refl, refl)
