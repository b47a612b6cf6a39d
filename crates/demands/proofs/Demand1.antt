-- Demand1: after a refusal what was lent holds what it held, and a refusal has one of document 01's numbers for that entry. Here: bodies,
-- messages and listings.
--
--   collect_step-refused    a body: 1 to 5; the record and both buffers are as they were
--   lent_step-refused       the same with the message lent as a part: no part is lent, and the join buffer comes back whole
--   head_at-refused         the head of an element: 6 to 8
--   tested_at-refused       an element with all that stands in it: 6 to 13, at a byte of the message
--   read_table-refused      a message: 3 at 0, or 6 to 15 at a byte of the message; the table is the given one
--   listing-refused        a listing: 100, a number of our own; the buffer is as it was
--
-- Refusal 21, which empties the record, is in Demand1Dropped; a body that goes all the way in Demand1Receive; clients, frames and events in Demand1Frames; the numbers as a C host has them in Demand1C.
-- That every entry takes any input is seen in its signature: no public function has a `requires` (docs/CONTRACTS.md); that it ends is part of
-- `met`. The theorems are about the definitions, which Demand2, Demand2Frames, Parts, PartsPieces and Exported say are what the entries give.
-- Trusts: nothing.
use Prim.Native.Nat.{ℕ, ◌*◌, ◌-◌, ◌≤◌, ◌<◌}
use mathlib.Core.Path.{◌≡◌, refl, ap}
use mathlib.Core.Bool.{Bool, true, false, cond, ◌||◌}
use mathlib.Core.List.{List, [], ◌++◌}
use mathlib.Core.Logic.{◌⊎◌}
use native.Mathlib.Omega.{arith}
use borrow.Author.Tests.{eqb-false}
use lib.ListN.{length, get_or, drop}
use lib.Dec.{eqb, ltb}
use Rattle.wire.specs.Bytes.{pasted}
use Rattle.collector.specs.Answers.{refused, again, waiting, complete, own_of, joined_of}
use Rattle.collection.specs.Record.{is_strict}
use Rattle.cuts.specs.Cuts.{Ruling, all_good, bad_at, cuts_in}
use Rattle.held.specs.Held.{empty_slots}
use Rattle.joining.specs.Pieces.{joined}
use Rattle.body_tests.specs.Refusals.{number_of, slot_of, piece_of, body_refusal, refusal_of}
use Rattle.relation.specs.Relation.{repeats}
use Rattle.collector.specs.Step.{relation_of, base_of, noted, After, after, settled_by, settled, finished, accepted, collect_step}
use Rattle.lending.specs.Lent.{lent_step}
use Rattle.collection.specs.declared.Collection.{Collection}
use Rattle.table.specs.declared.Table.{Table}
use Rattle.elements.specs.Elements.{head_at}
use Rattle.elements.specs.Elements as head
use Rattle.elements.proofs.Laws.{Says, head_at_says}
use Rattle.rows.specs.declared.Tally.{Tally}
use Rattle.rows.specs.Rows.{tested_at}
use Rattle.rows.proofs.Laws.{tested_at-placed}
use Rattle.reader.specs.Read.{read_table}
use Rattle.reader.proofs.Laws as laws
use Rattle.reader.specs.Read as reading
use Rattle.notices.specs.Listing as listed
use Rattle.notices.specs.Listing.{Listing, listing}

-- ---- collecting pieces

finished-taken : (next : Collection) (slots join : List ℕ) (len n : ℕ) → (finished next slots join len).answer ≡ refused n → ⊥
unfolding finished settled
finished-taken next slots join len n = go (eqb (empty_slots next.filled next.number) 0) (eqb next.number 1) where
  whole : List ℕ
  whole = joined slots next.lengths next.number

  by : (v : Ruling) → (settled_by v next whole).answer ≡ refused n → ⊥
  by all_good e = let z : ◌≡◌ {A = ℕ} 0 1 = cc in omega arith
  by (bad_at cut) e = let z : ◌≡◌ {A = ℕ} 0 1 = cc in omega arith

  go : (t u : Bool) → (cond t (cond u (after (complete len) next slots join)
      (after (settled next whole).answer (settled next whole).held slots (whole ++ drop (length whole) join)))
      (after (waiting (empty_slots next.filled next.number)) next slots join)).answer ≡ refused n → ⊥
  go true true e = let z : ◌≡◌ {A = ℕ} 0 1 = cc in omega arith
  go true false e = by (cond (is_strict next) (cuts_in whole next.lengths next.number) all_good) e
  go false u e = let z : ◌≡◌ {A = ℕ} 0 1 = cc in omega arith

accepted-taken : (r : Collection) (slots join body : List ℕ) (n : ℕ) → (accepted r slots join body).answer ≡ refused n → ⊥
unfolding accepted
accepted-taken r slots join body n = go (eqb (relation_of r slots body) repeats) where
  next : Collection
  next = noted (base_of (relation_of r slots body) r body) (slot_of body) (length body - 3)

  put : List ℕ
  put = pasted slots (slot_of body * 1500) (piece_of body)

  go : (t : Bool) → (cond t (after again r slots join) (finished next put join (length body - 3))).answer ≡ refused n → ⊥
  go true e = let z : ◌≡◌ {A = ℕ} 0 1 = cc in omega arith
  go false e = finished-taken next put join (length body - 3) n e

first_of_five : (a b c d e : Bool) → cond a 1 (cond b 2 (cond c 3 (cond d 4 (cond e 5 0)))) ≤ 5
first_of_five true b c d e = omega arith
first_of_five false true c d e = omega arith
first_of_five false false true d e = omega arith
first_of_five false false false true e = omega arith
first_of_five false false false false true = omega arith
first_of_five false false false false false = omega arith

refusal_of-most : (slots join : ℕ) (body : List ℕ) → refusal_of slots join body ≤ 5
unfolding refusal_of body_refusal
refusal_of-most slots join body =
    first_of_five (ltb slots 24000 || ltb join 24000) (ltb (length body) 3) (ltb 1500 (length body))
    (eqb (number_of body) 0 || ltb 16 (number_of body)) (eqb (get_or body 2 0) 0 || ltb (number_of body) (get_or body 2 0))

-- the call whose refusal number is n, 0 for none
abbrev pub answered : Bool → ℕ → Collection → List ℕ → List ℕ → List ℕ → After
answered t n r slots join body = cond t (accepted r slots join body) (after (refused n) r slots join)

pub collect_step-refused : (r : Collection) (slots join body : List ℕ) (n : ℕ) → (collect_step r slots join body).answer ≡ refused n
    → (collect_step r slots join body ≡ after (refused n) r slots join) × (1 ≤ n) × (n ≤ 5)
unfolding collect_step
collect_step-refused r slots join body n = go (eqb number 0) number refl (refusal_of-most (length slots) (length join) body) where
  number : ℕ
  number = refusal_of (length slots) (length join) body

  go : (t : Bool) (m : ℕ) → eqb m 0 ≡ t → m ≤ 5 → (answered t m r slots join body).answer ≡ refused n → (answered t m r slots join body ≡ after (refused n) r slots join) × (1 ≤ n) × (n ≤ 5)
  go true m f most e = absurd (accepted-taken r slots join body n e)
  go false m f most e =
      let same : m ≡ n = cc in
      let some = eqb-false m 0 f in
      (ap (λ k. after (refused k) r slots join) same, omega arith, omega arith)

-- a refused body lends no part, whatever the number of the record
pub lent_step-refused : (r : Collection) (slots join body : List ℕ) (n : ℕ) → (lent_step r slots join body).answer ≡ refused n
    → (lent_step r slots join body ≡ record { answer = refused n; held = r; slots = slots; own = []; joined = []; join = join }) × (1 ≤ n) × (n ≤ 5)
unfolding lent_step own_of joined_of
lent_step-refused r slots join body n e =
    let c = collect_step-refused r slots join body n e in
    (rw c.0 refl, c.1, c.2)

-- ---- the head of an element

pub head_at-refused : (msg : List ℕ) (at end n : ℕ) → head_at msg at end ≡ head.Refused n → (6 ≤ n) × (n ≤ 8)
head_at-refused msg at end n e = let h : Says msg at end (head.Refused n) = rw e at (head_at_says msg at end) in (h.0, h.1)

-- ---- an element with all that stands in it

pub tested_at-refused : (msg : List ℕ) (at : ℕ) (t : Tally) → ((tested_at msg at t).bad ≡ 0 → ⊥) → (6 ≤ (tested_at msg at t).bad) × ((tested_at msg at t).bad ≤ 13) × ((tested_at msg at t).off < length msg)
tested_at-refused = tested_at-placed

-- ---- reading a table

pub read_table-refused : (given : Table) (msg : List ℕ) (n off : ℕ) → (read_table given msg).verdict ≡ reading.Refused n off
    → ((read_table given msg).table ≡ given) × (((n ≡ 3) × (off ≡ 0)) ⊎ ((6 ≤ n) × (n ≤ 15) × (off < length msg)))
read_table-refused given msg n off e = laws.read_table-refused given msg e

-- ---- listing

abbrev listed_if : Bool → List ℕ → List ℕ → Listing
listed_if t text out = cond t (record { answer = listed.refused 100; out = out }) (record { answer = listed.text (length text); out = text ++ drop (length text) out })

pub listing-refused : (text out : List ℕ) (n : ℕ) → (listing text out).answer ≡ listed.refused n → ((listing text out).out ≡ out) × (n ≡ 100)
unfolding listing
listing-refused text out n = go (ltb (length out) 3755) where
  go : (t : Bool) → (listed_if t text out).answer ≡ listed.refused n → ((listed_if t text out).out ≡ out) × (n ≡ 100)
  go true e = (refl, cc)
  go false e = absurd (let z : ◌≡◌ {A = ℕ} 0 1 = cc in omega arith)
