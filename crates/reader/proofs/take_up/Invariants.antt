-- `reader::take_up`: its answer is a refusal of the message or a table of which 15 is left. The loop keeps that reading the rest of the
-- message is reading the whole of it, and that the two lists hold the numbers in the table. What is left of the message falls.
-- Trusts: nothing.
use Rattle.std.proofs.Common.{◌-◌, length}
use Rattle.configurations.specs.Configurations.{configuration_at}
use Rattle.reader.specs.Take.{with_configuration}
use Rattle.reader.proofs.LawsTaking.{Taking}
use Rattle.reader.proofs.take_up.Given as goal

abbrev pub invariant-loop-here : goal.invariant-loop-here
invariant-loop-here l = Taking l.message l.ruleids l.carried (with_configuration (configuration_at l.message l.configured) l.table) l.here l.tally

abbrev pub decreases-loop-here : goal.decreases-loop-here
decreases-loop-here l = length l.message - l.here
