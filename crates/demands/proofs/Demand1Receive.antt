-- Demand1Receive: the first demand of one body all the way (`receive`): what a refusal leaves, and its numbers.
--
--   receive_step-refused    a refused body: 1 to 5; the record, the table and both buffers are as they were
--   receive_step-dropped    a strict collection with a bad cut, 21: the table is as it was, the record empty but for its setting, both buffers as at Complete
--   receive_step-message    a refused message: the number and the offset that reading it gives, 3 at 0, or 6 to 15 at a byte of the message; the
--                          table is as it was, and the record and the buffers are those of the body, which the collector accepted
--                          (docs/DECISIONS.md, D-061)
--   receive_step_kept       whatever is reported, the record and both buffers are exactly `collect_step`'s
--
-- Trusts: nothing.
use Prim.Native.Nat.{ℕ, ◌≤◌, ◌<◌}
use mathlib.Core.Path.{◌≡◌, refl}
use mathlib.Core.List.{List}
use mathlib.Core.Logic.{◌⊎◌}
use native.Mathlib.Omega.{arith}
use lib.ListN.{length}
use Rattle.collector.specs.Answers.{Said, refused, again, waiting, complete, dropped, lent_of}
use Rattle.collector.specs.Step.{After, collect_step}
use Rattle.collection.specs.declared.Collection.{Collection}
use Rattle.table.specs.declared.Table.{Table}
use Rattle.reader.specs.Read.{read_table}
use Rattle.reader.specs.Read.{Verdict}
use Rattle.reader.specs.Read as reading
use Rattle.receiver.specs.Receive as told
use Rattle.receiver.specs.Receive.{reported, taken, receive_step}
use Rattle.demands.proofs.Demand1.{collect_step-refused, read_table-refused}
use Rattle.demands.proofs.Demand1Dropped.{loose, Dropping, collect_step-dropped}
use Rattle.collection.specs.Record.{empty_collection}

reported-refused : (v : Verdict) (n : ℕ) → reported v ≡ told.body_refused n → ⊥
reported-refused reading.Accepted n e = let z : ◌≡◌ {A = ℕ} 0 1 = cc in omega arith
reported-refused (reading.Refused m off) n e = let z : ◌≡◌ {A = ℕ} 0 1 = cc in omega arith

reported-message : (v : Verdict) (n off : ℕ) → reported v ≡ told.message_refused n off → v ≡ reading.Refused n off
reported-message reading.Accepted n off e = absurd (let z : ◌≡◌ {A = ℕ} 0 1 = cc in omega arith)
reported-message (reading.Refused m k) n off e = cc

-- only what the collector refuses is reported as a refused body
taken_refused : (s : Said) (t : Table) (message : List ℕ) (n : ℕ) → (taken s t message).report ≡ told.body_refused n → s ≡ refused n
unfolding taken
taken_refused (refused m) t message n e = cc
taken_refused again t message n e = absurd (let z : ◌≡◌ {A = ℕ} 0 1 = cc in omega arith)
taken_refused (waiting k) t message n e = absurd (let z : ◌≡◌ {A = ℕ} 0 1 = cc in omega arith)
taken_refused (complete k) t message n e = absurd (reported-refused (read_table t message).verdict n e)
taken_refused (dropped cut) t message n e = absurd (let z : ◌≡◌ {A = ℕ} 0 1 = cc in omega arith)

-- only what the reader refuses is reported as a refused message
taken-message : (s : Said) (t : Table) (message : List ℕ) (n off : ℕ) → (taken s t message).report ≡ told.message_refused n off
    → ((read_table t message).verdict ≡ reading.Refused n off) × ((taken s t message).table ≡ (read_table t message).table)
unfolding taken
taken-message (refused m) t message n off e = absurd (let z : ◌≡◌ {A = ℕ} 0 1 = cc in omega arith)
taken-message again t message n off e = absurd (let z : ◌≡◌ {A = ℕ} 0 1 = cc in omega arith)
taken-message (waiting k) t message n off e = absurd (let z : ◌≡◌ {A = ℕ} 0 1 = cc in omega arith)
taken-message (complete k) t message n off e = (reported-message (read_table t message).verdict n off e, refl)
taken-message (dropped cut) t message n off e = absurd (let z : ◌≡◌ {A = ℕ} 0 1 = cc in omega arith)

pub receive_step-refused : (r : Collection) (t : Table) (slots join body : List ℕ) (n : ℕ) → (receive_step r t slots join body).report ≡ told.body_refused n
    → (receive_step r t slots join body ≡ record { report = told.body_refused n; held = r; table = t; slots = slots; join = join }) × (1 ≤ n) × (n ≤ 5)
unfolding receive_step taken
receive_step-refused r t slots join body n e =
    let c = collect_step-refused r slots join body n (taken_refused _ t _ n e) in
    (rw c.0 refl, c.1, c.2)

reported-dropped : (v : Verdict) (off : ℕ) → reported v ≡ told.dropped off → ⊥
reported-dropped reading.Accepted off e = let z : ◌≡◌ {A = ℕ} 0 1 = cc in omega arith
reported-dropped (reading.Refused m k) off e = let z : ◌≡◌ {A = ℕ} 0 1 = cc in omega arith

taken-dropped : (s : Said) (t : Table) (message : List ℕ) (off : ℕ) → (taken s t message).report ≡ told.dropped off → s ≡ dropped off
unfolding taken
taken-dropped (refused m) t message off e = absurd (let z : ◌≡◌ {A = ℕ} 0 1 = cc in omega arith)
taken-dropped again t message off e = absurd (let z : ◌≡◌ {A = ℕ} 0 1 = cc in omega arith)
taken-dropped (waiting k) t message off e = absurd (let z : ◌≡◌ {A = ℕ} 0 1 = cc in omega arith)
taken-dropped (complete k) t message off e = absurd (reported-dropped (read_table t message).verdict off e)
taken-dropped (dropped cut) t message off e = cc

pub receive_step-dropped : (r : Collection) (t : Table) (slots join body : List ℕ) (off : ℕ) → (receive_step r t slots join body).report ≡ told.dropped off
    → (let l = collect_step (loose r) slots join body in
    (receive_step r t slots join body ≡ record { report = told.dropped off; held = empty_collection r.strict 0 0; table = t; slots = l.slots; join = l.join })
    × Dropping r off (collect_step r slots join body) l)
unfolding receive_step taken
receive_step-dropped r t slots join body off e =
    let d = collect_step-dropped r slots join body off (taken-dropped _ t _ off e) in
    (rw d.left refl, d)

-- the message that the collector lends
abbrev pub message_after : After → List ℕ → List ℕ
message_after a body = lent_of a.answer a.held.number body a.join

pub receive_step-message : (r : Collection) (t : Table) (slots join body : List ℕ) (n off : ℕ) → (receive_step r t slots join body).report ≡ told.message_refused n off
    → (let a = collect_step r slots join body in receive_step r t slots join body ≡ record { report = told.message_refused n off; held = a.held; table = t; slots = a.slots; join = a.join })
    × ((read_table t (message_after (collect_step r slots join body) body)).verdict ≡ reading.Refused n off)
    × (((n ≡ 3) × (off ≡ 0)) ⊎ ((6 ≤ n) × (n ≤ 15) × (off < length (message_after (collect_step r slots join body) body))))
unfolding receive_step
receive_step-message r t slots join body n off e =
    let a = collect_step r slots join body in
    let m = taken-message a.answer t (message_after a body) n off e in
    let d = read_table-refused t (message_after a body) n off m.0 in
    (rw (e, m.1, d.0) refl, m.0, d.1)

pub receive_step_kept : (r : Collection) (t : Table) (slots join body : List ℕ)
    → (let x = receive_step r t slots join body in let a = collect_step r slots join body in (x.held ≡ a.held) × (x.slots ≡ a.slots) × (x.join ≡ a.join))
unfolding receive_step
receive_step_kept r t slots join body = (refl, refl, refl)
