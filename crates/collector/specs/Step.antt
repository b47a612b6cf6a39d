-- Step: what one body does to a collection (document 01, "Collecting pieces" and refusals 1 to 5; document 02, Req 04).
--
--   relation_of r slots body    how the body's piece stands to what is held
--   settled r message          a message of several pieces that is complete: dropped where the setting is strict and a cut is bad
--   collect_step r slots join body   the answer, the record and both buffers after the call
--
-- Any record and any lengths have a meaning: what a record holds is said in specs/ of held, how a piece stands to that in specs/ of
-- relation, and what is refused in specs/ of body_tests.
-- Tested by: the bench example in proofs/Bench.antt of collector_demands; runs of bodies against the other program in host/.
-- Trusts: nothing.
use Rattle.std.specs.Prelude.{ℕ, ◌*◌, ◌-◌, cond, List, ◌++◌, length, drop, set, eqb}
use Rattle.wire.specs.Bytes.{pasted}
use Rattle.collection.specs.declared.Collection.{Collection}
use Rattle.collection.specs.Record.{empty_collection, is_strict}
use Rattle.cuts.specs.Cuts.{Ruling, all_good, bad_at, cuts_in}
use Rattle.held.specs.Held.{empty_slots}
use Rattle.body_tests.specs.Refusals.{count_of, number_of, slot_of, piece_of, refusal_of}
use Rattle.joining.specs.Pieces.{joined}
use Rattle.relation.specs.Relation.{goes_on, repeats, relation_to}
use Rattle.collector.specs.Answers.{Said, refused, again, waiting, complete, dropped}

abbrev pub relation_of : Collection → List ℕ → List ℕ → ℕ
relation_of r slots body = relation_to r slots (count_of body) (number_of body) (slot_of body) (piece_of body)

-- the record that the piece is noted in, and with it noted
unfoldable pub base_of : ℕ → Collection → List ℕ → Collection
base_of how r body = cond (eqb how goes_on) r (empty_collection r.strict (count_of body) (number_of body))

abbrev pub noted : Collection → ℕ → ℕ → Collection
noted r k len = record { count = r.count; number = r.number; filled = set r.filled k 1; lengths = set r.lengths k len; strict = r.strict }

-- what the caller has after a call
pub record After : Type 0 where
  pub answer : Said
  pub held : Collection
  pub slots : List ℕ
  pub join : List ℕ

abbrev pub after : Said → Collection → List ℕ → List ℕ → After
after a r s j = record { answer = a; held = r; slots = s; join = j }

-- an answer, and the record after it
pub record Settled : Type 0 where
  pub answer : Said
  pub held : Collection

-- by what the cuts come to: a bad one drops the collection, and only the setting stays
abbrev pub settled_by : Ruling → Collection → List ℕ → Settled
settled_by all_good r message = record { answer = complete (length message); held = r }
settled_by (bad_at cut) r message = record { answer = dropped cut; held = empty_collection r.strict 0 0 }

unfoldable pub settled : Collection → List ℕ → Settled
settled r message = settled_by (cond (is_strict r) (cuts_in message r.lengths r.number) all_good) r message

-- the piece is stored and noted in r; it has len bytes
unfoldable pub finished : Collection → List ℕ → List ℕ → ℕ → After
finished r slots join len =
    let empty = empty_slots r.filled r.number in
    let message = joined slots r.lengths r.number in
    cond (eqb empty 0)
    (cond (eqb r.number 1) (after (complete len) r slots join) (after (settled r message).answer (settled r message).held slots (message ++ drop (length message) join)))
    (after (waiting empty) r slots join)

unfoldable pub accepted : Collection → List ℕ → List ℕ → List ℕ → After
accepted r slots join body =
    let how = relation_of r slots body in
    let len = length body - 3 in
    cond (eqb how repeats) (after again r slots join)
    (finished (noted (base_of how r body) (slot_of body) len) (pasted slots (slot_of body * 1500) (piece_of body)) join len)

unfoldable pub collect_step : Collection → List ℕ → List ℕ → List ℕ → After
collect_step r slots join body =
    let n = refusal_of (length slots) (length join) body in
    cond (eqb n 0) (accepted r slots join body) (after (refused n) r slots join)
