-- The bench example of document 01: M cut after 10 bytes, second piece first: Waiting 1, Complete. It is computed over the runs, and by demand 2
-- it is what the collector answers with any buffers that are long enough. Then an example of demand 3, and why it asks for Apart. The strict setting: BenchStrict.
--
--   M, first_body, second_body     the message, and the bodies of its two pieces
--   cut_example                  the starred example, over `reply_of`
--   cut_collected                the same of the collector, from a record with nothing collected
--   cutting_met, arrived_met     the hypotheses of demand 3 can be met; example_once: what it says then
--   apart_needed                 with the same count and number held, demand 3 would be false
-- Trusts: nothing.
use Prim.Native.Nat.{ℕ, zero, suc, ◌+◌, ◌≤◌, ◌<◌}
use mathlib.Core.Path.{◌≡◌, refl, ap, ◌∙◌}
use mathlib.Core.Bool.{true, false}
use mathlib.Core.List.{List, [], ◌∷◌}
use mathlib.Core.Logic.{inl, inr}
use native.Mathlib.Omega.{arith}
use lib.ListN.{length, get_or, take, drop, replicate}
use Rattle.compare.specs.Compare.{same_bytes}
use Rattle.collector.specs.Answers.{again, waiting, complete}
use Rattle.collection.specs.Record.{empty_collection}
use Rattle.held.specs.Held.{sound_to, empty_slots, well_made, is_of}
use Rattle.joining.specs.Pieces.{piece_at}
use Rattle.body_tests.specs.Refusals.{body_refusal}
use Rattle.relation.specs.Relation.{relation_to}
use Rattle.collector.specs.Step.{accepted, collect_step}
use Rattle.collection.specs.declared.Collection.{Collection}
use Rattle.collector_demands.specs.Runs.{accepts, lookup, continues, missing, message, judged, settled_run, run_from, reply, reply_from, reply_of}
use Rattle.wire.proofs.Laws.{clash}
use Rattle.collector_demands.specs.Demand.{concat, Lent, lent_after, reply_to, is_complete, completions, Cutting, body_of, Arrived, none, other, piece, Came, Apart, Demand3}
use Rattle.collector_demands.proofs.Stored.{blank_nothing}
use Rattle.collector_demands.proofs.Refine.{refusal_of_long}
use Rattle.collector_demands.proofs.Demands.{demand_2_nothing, demand_3}

abbrev pub M : List ℕ
M =
    0x32 ∷ 0x14 ∷ 1 ∷ 1 ∷ 5 ∷ 2 ∷ 1 ∷ 0x50 ∷ 4 ∷ 4 ∷ 4 ∷ 2 ∷ 0 ∷ 0x2A ∷ 5 ∷ 6 ∷ 1 ∷ 0 ∷ 0x5E ∷ 5 ∷ 5 ∷ 5 ∷ 0x32 ∷ 0x14 ∷ 1 ∷ 1 ∷ 6 ∷ 2 ∷ 1 ∷ 9 ∷ 4 ∷ 4 ∷ 4 ∷ 2 ∷ 0 ∷ 0x2A ∷ 5 ∷ 6 ∷ 1 ∷ 0 ∷ 0x5E ∷ 6 ∷ 6
    ∷ 6 ∷ 0x33 ∷ 6 ∷ 1 ∷ 4 ∷ 0x23 ∷ 0xF1 ∷ 0x0C ∷ 0xC0 ∷ []

abbrev pub pieces : List (List ℕ)
pieces = take 10 M ∷ drop 10 M ∷ []

abbrev pub first_body : List ℕ
first_body = 7 ∷ 2 ∷ 1 ∷ take 10 M

abbrev pub second_body : List ℕ
second_body = 7 ∷ 2 ∷ 2 ∷ drop 10 M

-- the starred example; a piece that comes again is a Repeat, also after completion
pub cut_example : (reply_of false [] second_body ≡ reply (waiting 1) []) × (reply_of false (second_body ∷ []) first_body ≡ reply (complete 52) M)
    × (reply_of false (first_body ∷ second_body ∷ []) second_body ≡ reply again [])
unfolding reply_from accepts lookup continues run_from settled_run judged missing message body_refusal same_bytes
cut_example = (refl, refl, refl)

module _ (slots join : List ℕ) (room : 24000 ≤ length slots) (space : 24000 ≤ length join) where
  -- what the caller lends: these buffers and this record
  abbrev pub lending : Collection → Lent
  lending r = record { held = r; slots = slots; join = join }

  pub cut_collected : (reply_to (lending (empty_collection 0 0 0)) [] second_body ≡ reply (waiting 1) []) × (reply_to (lending (empty_collection 0 0 0)) (second_body ∷ []) first_body ≡ reply (complete 52) M)
  cut_collected = (
    (demand_2_nothing (lending (empty_collection 0 0 0)) room space (blank_nothing 0) [] second_body).0 ∙ cut_example.0,
    (demand_2_nothing (lending (empty_collection 0 0 0)) room space (blank_nothing 0) (second_body ∷ []) first_body).0 ∙ cut_example.1,
  )

-- ---- demand 3: its hypotheses can be met

pub cutting_met : Cutting M pieces
unfolding concat
cutting_met = record { whole = refl; some = omega arith; few = omega arith; short = short } where
  short : (k : ℕ) → k < 2 → length (get_or pieces k []) ≤ 1497
  short zero l = omega arith
  short (suc zero) l = omega arith
  short (suc (suc k)) l = absurd (omega arith)

-- second piece, an empty body, which is refused, the second piece again, the first
abbrev pub bodies : List (List ℕ)
bodies = first_body ∷ second_body ∷ [] ∷ second_body ∷ []

pub arrived_met : Arrived 7 pieces bodies
unfolding body_of body_refusal
arrived_met = piece 0 (omega arith) (piece 1 (omega arith) (other [] (λ e. omega arith) (piece 1 (omega arith) none)))

-- a record that holds a collection under another count: number 1, one empty piece
abbrev pub other_count : Collection
other_count = record { count = 6; number = 1; filled = 1 ∷ replicate 15 0; lengths = replicate 16 0; strict = 0 }

pub other_holds : well_made other_count ≡ true
unfolding well_made sound_to empty_slots
other_holds = refl

pub other-apart : Apart other_count 7 2
other-apart = inr (inl (λ e. omega arith))

pub example_once : (slots join : List ℕ) (room : 24000 ≤ length slots) (space : 24000 ≤ length join) → completions (lending slots join room space other_count) bodies ≡ 1
unfolding Came arrived_met
example_once slots join room space =
    (demand_3 (lending slots join room space other_count) room space 7 M pieces cutting_met (λ e. absurd (clash e)) other-apart).once arrived_met all where
      all : (k : ℕ) → k < 2 → Came k arrived_met
      all zero l = inl refl
      all (suc zero) l = inr (inl refl)
      all (suc (suc k)) l = absurd (omega arith)

-- ---- without Apart it would be false: with the only piece held already, it is a Repeat, and completion is never reported

abbrev held_already : Collection
held_already = record { count = 7; number = 1; filled = 1 ∷ replicate 15 0; lengths = replicate 16 0; strict = 0 }

again_already : (slots join : List ℕ) → 24000 ≤ length slots → 24000 ≤ length join → (collect_step held_already slots join (7 ∷ 1 ∷ 1 ∷ [])).answer ≡ again
unfolding collect_step accepted relation_to is_of well_made sound_to empty_slots piece_at body_refusal same_bytes
again_already slots join room space = rw (refusal_of_long (length slots) (length join) (7 ∷ 1 ∷ 1 ∷ []) room space) refl

pub apart_needed : (slots join : List ℕ) (room : 24000 ≤ length slots) (space : 24000 ≤ length join) → Demand3 (lending slots join room space held_already) 7 [] ([] ∷ []) → ⊥
unfolding completions lent_after body_of Came
apart_needed slots join room space d =
    let one : is_complete (collect_step held_already slots join (7 ∷ 1 ∷ 1 ∷ [])).answer + 0 ≡ 1 = d.once (piece 0 (omega arith) none) (λ k l. inl (omega arith)) in
    let e = ap is_complete (again_already slots join room space) in
    omega arith
