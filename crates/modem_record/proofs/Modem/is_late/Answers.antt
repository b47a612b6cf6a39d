-- `Modem::is_late` gives `is_late`: a mark of 0 is never late; any other is so unless it is 1 in OneWay with permission.
-- Trusts: nothing.
use native.Mathlib.Omega.{arith}
use Rattle.modem_record.proofs.LawsIdle.{is_late-off, is_late-on}
use Rattle.modem_record.proofs.Modem.is_late.Goals as goal

-- off
pub returns-then-self-eq0 : goal.returns-then-self-eq0
returns-then-self-eq0 c = is_late-off _ _ _ _ c.if-self-eq0.true

-- on
pub returns : goal.returns
returns c = is_late-on _ _ _ _ (omega (arith, c.if-self-eq0.false))
