-- `writing_configurations::put_timers` writes the timer values one behind the other.
-- Trusts: nothing.
use Rattle.writing_configurations.proofs.Children.{timers_row-lined}
use Rattle.writing_configurations.proofs.put_timers.Goals as goal

pub returns : goal.returns
returns c = timers_row-lined c.args.timers c.requires c.put_timer-a.ensures c.put_timer-b.ensures c.put_timer-c.ensures c.put_timer.ensures
