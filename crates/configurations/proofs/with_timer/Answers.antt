-- `configurations::with_timer` gives with_timer: a return for each type, in the order of its tests.
-- Trusts: nothing.
use native.Mathlib.Omega.{arith}
use lib.ListN.{get_or}
use borrow.Author.Tests.{ne_eqb}
use Rattle.configurations.specs.Configurations.{with_timer}
use Rattle.configurations.proofs.with_timer.Goals as goal

pub returns-in-2 : goal.returns-in-2
unfolding with_timer
returns-in-2 c = simp (c.in-2.is, c.number2-seconds.ensures)

pub returns-in-3 : goal.returns-in-3
unfolding with_timer
returns-in-3 c = simp (c.in-3.is, c.number2-seconds.ensures)

pub returns-in-4 : goal.returns-in-4
unfolding with_timer
returns-in-4 c = simp (c.in-4.is, c.number2-seconds.ensures)

pub returns-in-5 : goal.returns-in-5
unfolding with_timer
returns-in-5 c = simp (c.in-5.is, c.number2-seconds.ensures)

pub returns-in_default : goal.returns-in_default
unfolding with_timer
returns-in_default c =
    let kind = get_or c.args.message.now c.args.at 0 in
    simp (ne_eqb kind 2 (omega arith), ne_eqb kind 3 (omega arith), ne_eqb kind 4 (omega arith), ne_eqb kind 5 (omega arith))
