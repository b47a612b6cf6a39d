-- `writing_configurations::put_timer` writes `timer`: nothing where the value is the usual one, else an element.
-- Trusts: nothing.
use Rattle.writing_configurations.proofs.Children.{timer_usual, timer-other}
use Rattle.writing_configurations.proofs.put_timer.Goals as goal

-- the usual value
pub returns-then-value-usual : goal.returns-then-value-usual
returns-then-value-usual c = let a = c.args in timer_usual a.kind a.usual a.value c.if-value-usual.true

-- any other
pub returns : goal.returns
returns c = let a = c.args in timer-other a.kind a.usual a.value c.if-value-usual.false c.requires c.put_number.ensures
