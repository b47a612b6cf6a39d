-- Starred: the starred examples of document 01, "Bench examples": one list, in its order, under one theorem about the definitions.
--
--   examples given slots join   what the definitions give, each example asked as the document asks it; `given` is the table that the host
--                               has, `slots` and `join` are the buffers that it lends
--   expected                    what the document says
--   starred                     they are the same, whatever table is given and whatever buffers of 24,000 bytes or more are lent
--
-- The second example is what the collector answers to the two bodies and what message it lends, from a record with nothing collected:
-- `cut_collected` of crate collector_demands. That the code does what the definitions give is in Demand2 and Demand2Frames.
-- Trusts: nothing.
use Prim.Native.Nat.{ℕ, ◌≤◌}
use mathlib.Core.Path.{◌≡◌, refl, ap}
use mathlib.Core.List.{List, [], ◌∷◌}
use lib.ListN.{length, get_or}
use Rattle.table.specs.declared.Client.{Client}
use Rattle.table.specs.declared.Table.{Table}
use Rattle.table.specs.Table.{rules_of, clients_of, empty_table}
use Rattle.reader.specs.Read.{refusal, read_table}
use Rattle.reader.specs.Read.{Reading}
use Rattle.reader.specs.Read.{Verdict}
use Rattle.reader.specs.Read as verdict
use Rattle.std.specs.Prelude.{None}
use Rattle.choice.specs.Chose as choice
use Rattle.choice.specs.Chose.{Choice}
use Rattle.order.specs.Best.{comes_before, any_of, first_place, is_best, best_place}
use Rattle.choice.specs.Choose.{is_client, lists_client, admits_ucid, fits_client, chosen_place, choice_of, rule_at}
use Rattle.collection.specs.Record.{empty_collection}
use Rattle.collector.specs.Answers.{waiting, complete}
use Rattle.collector_demands.specs.Runs.{Reply, reply}
use Rattle.collector_demands.specs.Demand.{Lent, reply_to}
use Rattle.collector_demands.proofs.Bench.{M, first_body, second_body, cut_collected}
use Rattle.modem_step.specs.Step.{clock_step}
use Rattle.reader.proofs.Bench as reader
use Rattle.reader.proofs.Bench.{table_m, with_tdsg3}

-- what an example comes to
pub data Outcome : Type 0 where
  -- a client gets the rule of this number; or refusal 17
  gets_rule : ℕ → Outcome
  gets_none : Outcome
  -- a body is answered, and a message lent
  told : Reply → Outcome
  -- a message is a table, or is refused with this number at this offset
  accepted : Table → Outcome
  refused_at : ℕ → ℕ → Outcome
  -- the step between two clocks
  step : ℕ → Outcome

abbrev pub chosen : Table → Choice → Outcome
chosen t (choice.Chosen place) = gets_rule (rule_at t place).number
chosen t (choice.Refused n) = gets_none

abbrev pub outcome : Verdict → Table → Outcome
outcome verdict.Accepted t = accepted t
outcome (verdict.Refused n at) t = refused_at n at

abbrev pub read : Table → List ℕ → Outcome
read given msg = outcome (read_table given msg).verdict (read_table given msg).table

-- application 42
abbrev application : Client
application = record { kind = 4; value = 42 }

-- what is lent: nothing collected, and two buffers
abbrev lent : List ℕ → List ℕ → Lent
lent slots join = record { held = empty_collection 0 0 0; slots = slots; join = join }

abbrev pub examples : Table → List ℕ → List ℕ → List Outcome
examples given slots join =
    chosen (read_table given M).table (choice_of (read_table given M).table application None)
    ∷ told (reply_to (lent slots join) [] second_body)
    ∷ told (reply_to (lent slots join) (second_body ∷ []) first_body)
    ∷ read given []
    ∷ read given (0x32 ∷ [])
    ∷ read given (0x32 ∷ 0xFF ∷ [])
    ∷ read given (0x32 ∷ 0 ∷ [])
    ∷ read given (0x33 ∷ 0 ∷ 0x33 ∷ 0 ∷ [])
    ∷ read given (0x33 ∷ 4 ∷ 2 ∷ 2 ∷ 0 ∷ 0 ∷ [])
    ∷ read given (0x33 ∷ 4 ∷ 4 ∷ 2 ∷ 0 ∷ 0 ∷ [])
    ∷ read given (0x63 ∷ 1 ∷ 0 ∷ [])
    ∷ step (clock_step 0x00000100 0xFFFFFF00)
    ∷ []

abbrev pub expected : List Outcome
expected =
    -- M: application 42 gets rule 5
    gets_rule 5
    -- M cut after 10 bytes, second piece first: Waiting 1, Complete
    ∷ told (reply (waiting 1) [])
    ∷ told (reply (complete 52) M)
    -- the empty message: accepted
    ∷ accepted empty_table
    -- 32
    ∷ refused_at 6 0
    -- 32 FF
    ∷ refused_at 7 0
    -- 32 00
    ∷ refused_at 13 0
    -- 33 00 33 00
    ∷ refused_at 9 2
    -- 33 04 02 02 00 00
    ∷ refused_at 11 2
    -- 33 04 04 02 00 00: accepted, Tdsg3 0
    ∷ accepted (with_tdsg3 0)
    -- 63 01 00: accepted, empty
    ∷ accepted empty_table
    -- clock FFFFFF00, then 00000100
    ∷ step 512
    ∷ []

-- ---- the readings, as crate reader computes them

pub read_M : (given : Table) → read_table given M ≡ reader.accepted table_m
read_M given = ap (λ (l : List Reading). get_or l 8 (reader.accepted empty_table)) (reader.starred given)

read_empty : (given : Table) → read_table given [] ≡ reader.accepted empty_table
read_empty given = ap (λ (l : List Reading). get_or l 0 (reader.accepted empty_table)) (reader.starred given)

read_32 : (given : Table) → read_table given (0x32 ∷ []) ≡ refusal 6 0 given
read_32 given = ap (λ (l : List Reading). get_or l 1 (reader.accepted empty_table)) (reader.starred given)

read_32_FF : (given : Table) → read_table given (0x32 ∷ 0xFF ∷ []) ≡ refusal 7 0 given
read_32_FF given = ap (λ (l : List Reading). get_or l 2 (reader.accepted empty_table)) (reader.starred given)

read_32_00 : (given : Table) → read_table given (0x32 ∷ 0 ∷ []) ≡ refusal 13 0 given
read_32_00 given = ap (λ (l : List Reading). get_or l 3 (reader.accepted empty_table)) (reader.starred given)

read_twice : (given : Table) → read_table given (0x33 ∷ 0 ∷ 0x33 ∷ 0 ∷ []) ≡ refusal 9 2 given
read_twice given = ap (λ (l : List Reading). get_or l 4 (reader.accepted empty_table)) (reader.starred given)

read_tdsg1 : (given : Table) → read_table given (0x33 ∷ 4 ∷ 2 ∷ 2 ∷ 0 ∷ 0 ∷ []) ≡ refusal 11 2 given
read_tdsg1 given = ap (λ (l : List Reading). get_or l 5 (reader.accepted empty_table)) (reader.starred given)

read_tdsg3 : (given : Table) → read_table given (0x33 ∷ 4 ∷ 4 ∷ 2 ∷ 0 ∷ 0 ∷ []) ≡ reader.accepted (with_tdsg3 0)
read_tdsg3 given = ap (λ (l : List Reading). get_or l 6 (reader.accepted empty_table)) (reader.starred given)

read_63 : (given : Table) → read_table given (0x63 ∷ 1 ∷ 0 ∷ []) ≡ reader.accepted empty_table
read_63 given = ap (λ (l : List Reading). get_or l 7 (reader.accepted empty_table)) (reader.starred given)

gets_M : choice_of table_m application None ≡ choice.Chosen 0
unfolding rules_of clients_of comes_before any_of first_place is_best best_place is_client lists_client admits_ucid fits_client chosen_place choice_of
gets_M = refl

pub starred : (given : Table) (slots join : List ℕ) → 24000 ≤ length slots → 24000 ≤ length join → examples given slots join ≡ expected
unfolding rules_of
starred given slots join room space =
    let cut = cut_collected slots join room space in
    rw (
      read_M given,
      gets_M,
      cut.0,
      cut.1,
      read_empty given,
      read_32 given,
      read_32_FF given,
      read_32_00 given,
      read_twice given,
      read_tdsg1 given,
      read_tdsg3 given,
      read_63 given,
    ) refl
