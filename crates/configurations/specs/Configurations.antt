-- Configurations: what the row of a configuration leaves (document 01, "Elements", 51).
--
--   empty_configuration    no channel; the timer values that absent elements mean
--   with_timer at t        the timer values t with the child at `at` taken up (for a private function, which no public promise cites)
--   with_configuration_child at len q   the configuration q with the child at `at`, of len bytes, taken up
--   configuration_at msg at   the configuration of the element at `at`: its children, in byte order, taken up into an empty one
--
-- A child of an unlisted type is passed over, as document 01 has it. No test is made here: a channel beyond 32 is passed over too, and a
-- byte beyond the message counts as 0; messages with these are refused by tests 6 to 13.
-- Tested by: proofs/Bench.antt of the crate reader.
-- Trusts: nothing.
use Rattle.std.specs.Prelude.{ℕ, ◌+◌, cond, List, set, replicate, eqb, ltb}
use Rattle.numbers.specs.Numbers.{number_at}
use Rattle.table.specs.Table.{default_timers}
use Rattle.table.specs.declared.TimerValues.{TimerValues}
use Rattle.children.specs.Rows.{row_inside, row_fold, type_at}
use Rattle.configurations.specs.declared.Configuration.{Configuration}

abbrev pub empty_configuration : Configuration
empty_configuration = record { channelcount = 0; channels = replicate 32 0; timers = default_timers }

-- one more channel; a full list stays
unfoldable pub with_channel : ℕ → Configuration → Configuration
with_channel v q =
    cond (ltb q.channelcount 32)
    (record { channelcount = q.channelcount + 1; channels = set q.channels q.channelcount v; timers = q.timers })
    q

abbrev pub with_timers : TimerValues → Configuration → Configuration
with_timers t q = record { channelcount = q.channelcount; channels = q.channels; timers = t }

-- the timer values with the child at `at` taken up: 51.2 to 51.5
unfoldable pub with_timer : List ℕ → ℕ → TimerValues → TimerValues
with_timer msg at t =
    let v = number_at 2 msg (at + 2) in
    cond (eqb (type_at msg at) 2) (record { tdsg1 = v; tdsg2 = t.tdsg2; tdsg3 = t.tdsg3; tdsg4 = t.tdsg4 })
    (cond (eqb (type_at msg at) 3) (record { tdsg1 = t.tdsg1; tdsg2 = v; tdsg3 = t.tdsg3; tdsg4 = t.tdsg4 })
    (cond (eqb (type_at msg at) 4) (record { tdsg1 = t.tdsg1; tdsg2 = t.tdsg2; tdsg3 = v; tdsg4 = t.tdsg4 })
    (cond (eqb (type_at msg at) 5) (record { tdsg1 = t.tdsg1; tdsg2 = t.tdsg2; tdsg3 = t.tdsg3; tdsg4 = v })
    t)))

unfoldable pub with_configuration_child : List ℕ → ℕ → ℕ → Configuration → Configuration
with_configuration_child msg at len q =
    let t = q.timers in
    let v = number_at 2 msg (at + 2) in
    cond (eqb (type_at msg at) 1) (with_channel (number_at 4 msg (at + 2)) q)
    (cond (eqb (type_at msg at) 2) (with_timers (record { tdsg1 = v; tdsg2 = t.tdsg2; tdsg3 = t.tdsg3; tdsg4 = t.tdsg4 }) q)
    (cond (eqb (type_at msg at) 3) (with_timers (record { tdsg1 = t.tdsg1; tdsg2 = v; tdsg3 = t.tdsg3; tdsg4 = t.tdsg4 }) q)
    (cond (eqb (type_at msg at) 4) (with_timers (record { tdsg1 = t.tdsg1; tdsg2 = t.tdsg2; tdsg3 = v; tdsg4 = t.tdsg4 }) q)
    (cond (eqb (type_at msg at) 5) (with_timers (record { tdsg1 = t.tdsg1; tdsg2 = t.tdsg2; tdsg3 = t.tdsg3; tdsg4 = v }) q)
    q))))

unfoldable pub configuration_at : List ℕ → ℕ → Configuration
configuration_at msg at = row_fold (with_configuration_child msg) (row_inside msg at) empty_configuration
