-- `writing_configurations::put_row` writes the channels, then the timer values behind them.
-- Trusts: nothing.
use Rattle.texts.proofs.Lengths.{lined_then}
use Rattle.writing_configurations.proofs.put_row.Goals as goal

pub returns : goal.returns
returns c = rw (← c.limited-n.ensures) (lined_then 192 16 c.requires c.put_channels-next.ensures (λ room. c.put_timers.ensures))
