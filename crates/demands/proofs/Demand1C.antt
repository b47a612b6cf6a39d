-- Demand1C: the first demand as a C host sees it (crate dsg): by the kind or the number of an answer alone it knows that it was refused, that
-- what it lent is as it was, and that the number is one of document 01's for that call; kind 5 alone says that the record was emptied.
--
--   collect_after-refused   `dsg_collect`, kind 0: 1 to 5; the record and both buffers are as they were
--   collect_after-dropped   `dsg_collect`, kind 5: 21 at the first bad cut; the record is empty but for its setting, both buffers are as at Complete
--   receive_after-refused   `dsg_receive`, kind 0: the same as of `dsg_collect`, and the table
--   receive_after-dropped   `dsg_receive`, kind 5: the same as of `dsg_collect`, and the table is as it was
--   receive_after-message   `dsg_receive`, kind 4: the number and the offset that reading the message gives, 3 at 0, or 6 to 15; the table is as it was
--   receive_after_kept      `dsg_receive`, any kind: the record and both buffers are exactly those that `dsg_collect` leaves
--   read_stepped-refused    `dsg_read`, a number that is not 0: 3 at 0, or 6 to 15; the table is as it was
--   listing_as-refused      `dsg_list_table` and `dsg_list_body`, a number that is not 0: 100, our own; the buffer is as it was
--   choice_for-refused      `dsg_choose`, a number that is not 0: 17
--   verdict_for-refused     `dsg_judge`, kind 0: 16 or 17;   prepared_for_refused   the same of `dsg_judge_prepared`
--   event_stepped-refused   `dsg_event`, a number that is not 0: 18; the record is as it was
--
-- Trusts: nothing.
use Prim.Native.Nat.{ℕ, ◌≤◌, ◌<◌}
use mathlib.Core.Path.{◌≡◌, refl, ap}
use mathlib.Core.Bool.{Bool, true, false, cond}
use mathlib.Core.List.{List}
use mathlib.Core.Logic.{◌⊎◌}
use native.Mathlib.Omega.{arith}
use lib.ListN.{length}
use lib.Dec.{eqb}
use Rattle.collector.specs.Answers.{Said, refused, again, waiting, complete, dropped, Place, in_body, place_of}
use Rattle.collector.specs.Step.{After, collect_step}
use Rattle.collection.specs.Record.{empty_collection}
use Rattle.collection.specs.declared.Collection.{Collection}
use Rattle.table.specs.declared.Table.{Table}
use Rattle.reader.specs.Read.{number_of, offset_of, read_table}
use Rattle.reader.specs.Read.{Verdict}
use Rattle.reader.specs.Read as reading
use Rattle.receiver.specs.Receive as told
use Rattle.receiver.specs.Receive.{Told, Had, receive_step}
use Rattle.notices.specs.Listing as listed
use Rattle.notices.specs.Listing.{Written, listing}
use Rattle.choice.specs.Choose as choose
use Rattle.choice.specs.Chose as choice
use Rattle.choice.specs.Chose.{Choice}
use Rattle.tunnel_parts.specs.declared.Tunnel.{Tunnel}
use Rattle.payloads.specs.Judged as verdict
use Rattle.tunnel.specs.Judge.{verdict_of}
use Rattle.tunnel_parts.specs.Prepared.{prepared_verdict}
use Rattle.modem_record.specs.declared.Modem.{Modem}
use Rattle.dsg_pieces.specs.Bodies.{complete_at, collected_of, collect_after, received_of, receive_after}
use Rattle.dsg_tables.specs.Tables.{read_stepped, listed_as, listing_as}
use Rattle.dsg_frames.specs.Frames.{client_of, ucid_of, choice_for, verdict_as, verdict_for}
use Rattle.dsg_events.specs.Events.{event_stepped}
use Rattle.demands.proofs.Demand1.{collect_step-refused, read_table-refused, listing-refused}
use Rattle.demands.proofs.Demand1Dropped.{loose, Dropping, collect_step-dropped}
use Rattle.demands.proofs.Demand1Receive.{receive_step-refused, receive_step-dropped, receive_step-message, receive_step_kept, message_after}
use Rattle.demands.proofs.Demand1Frames.{choice_of_refused, verdict_of-refused, prepared_verdict-refused, numbered_step-refused}

-- ---- bodies

-- kinds 3 and 4 are said of a complete message
complete-kind : (p : Place) → (3 ≤ (complete_at p).kind) × ((complete_at p).kind ≤ 4)
complete-kind p = go (eqb p.source in_body) where
  go : (b : Bool) → (3 ≤ cond {A = ℕ} b 3 4) × (cond {A = ℕ} b 3 4 ≤ 4)
  go true = (omega arith, omega arith)
  go false = (omega arith, omega arith)

-- kind 0 is said of a refusal only, with its number
refused-kind : (s : Said) (number : ℕ) → (collected_of s number).kind ≡ 0 → s ≡ refused (collected_of s number).number
refused-kind (refused n) number e = refl
refused-kind again number e = absurd (omega arith)
refused-kind (waiting k) number e = absurd (omega arith)
refused-kind (dropped cut) number e = absurd (omega arith)
refused-kind (complete n) number e = let k = complete-kind (place_of (complete n) number) in absurd (omega arith)

pub collect_after-refused : (r : Collection) (slots join body : List ℕ) → (let x = collect_after r slots join body in x.answer.kind ≡ 0
    → (x.held ≡ r) × (x.slots ≡ slots) × (x.join ≡ join) × (1 ≤ x.answer.number) × (x.answer.number ≤ 5))
collect_after-refused r slots join body e =
    let a = collect_step r slots join body in
    let c = collect_step-refused r slots join body _ (refused-kind a.answer a.held.number e) in
    (ap (λ (s : After). s.held) c.0, ap (λ (s : After). s.slots) c.0, ap (λ (s : After). s.join) c.0, c.1, c.2)

-- kind 5 of 21 only, with the offset of the cut
dropped-kind : (s : Said) (number : ℕ) → (collected_of s number).kind ≡ 5 → (s ≡ dropped (collected_of s number).offset) × ((collected_of s number).number ≡ 21)
dropped-kind (refused n) number e = absurd (omega arith)
dropped-kind again number e = absurd (omega arith)
dropped-kind (waiting k) number e = absurd (omega arith)
dropped-kind (complete n) number e = let k = complete-kind (place_of (complete n) number) in absurd (omega arith)
dropped-kind (dropped cut) number e = (refl, refl)

pub collect_after-dropped : (r : Collection) (slots join body : List ℕ) → (let x = collect_after r slots join body in let l = collect_step (loose r) slots join body in x.answer.kind ≡ 5
    → (x.answer.number ≡ 21) × (x.held ≡ empty_collection r.strict 0 0) × (x.slots ≡ l.slots) × (x.join ≡ l.join) × Dropping r x.answer.offset (collect_step r slots join body) l)
collect_after-dropped r slots join body e =
    let a = collect_step r slots join body in
    let k = dropped-kind a.answer a.held.number e in
    let d = collect_step-dropped r slots join body _ k.0 in
    (k.1, ap (λ (s : After). s.held) d.left, ap (λ (s : After). s.slots) d.left, ap (λ (s : After). s.join) d.left, d)

body_kind : (a : Told) → (received_of a).kind ≡ 0 → a ≡ told.body_refused (received_of a).number
body_kind (told.body_refused n) e = refl
body_kind told.again e = absurd (omega arith)
body_kind (told.waiting k) e = absurd (omega arith)
body_kind told.accepted e = absurd (omega arith)
body_kind (told.message_refused n off) e = absurd (omega arith)
body_kind (told.dropped cut) e = absurd (omega arith)

message-kind : (a : Told) → (received_of a).kind ≡ 4 → a ≡ told.message_refused (received_of a).number (received_of a).offset
message-kind (told.body_refused n) e = absurd (omega arith)
message-kind told.again e = absurd (omega arith)
message-kind (told.waiting k) e = absurd (omega arith)
message-kind told.accepted e = absurd (omega arith)
message-kind (told.message_refused n off) e = refl
message-kind (told.dropped cut) e = absurd (omega arith)

pub receive_after-refused : (r : Collection) (t : Table) (slots join body : List ℕ) → (let x = receive_after r t slots join body in x.answer.kind ≡ 0
    → (x.held ≡ r) × (x.table ≡ t) × (x.slots ≡ slots) × (x.join ≡ join) × (1 ≤ x.answer.number) × (x.answer.number ≤ 5))
receive_after-refused r t slots join body e =
    let c = receive_step-refused r t slots join body _ (body_kind (receive_step r t slots join body).report e) in
    (ap (λ (s : Had). s.held) c.0, ap (λ (s : Had). s.table) c.0, ap (λ (s : Had). s.slots) c.0, ap (λ (s : Had). s.join) c.0, c.1, c.2)

pub receive_after-message : (r : Collection) (t : Table) (slots join body : List ℕ) → (let x = receive_after r t slots join body in
    let message = message_after (collect_step r slots join body) body in
    x.answer.kind ≡ 4 → (x.table ≡ t) × ((read_table t message).verdict ≡ reading.Refused x.answer.number x.answer.offset)
    × (((x.answer.number ≡ 3) × (x.answer.offset ≡ 0)) ⊎ ((6 ≤ x.answer.number) × (x.answer.number ≤ 15) × (x.answer.offset < length message))))
receive_after-message r t slots join body e =
    let c = receive_step-message r t slots join body _ _ (message-kind (receive_step r t slots join body).report e) in
    (ap (λ (s : Had). s.table) c.0, c.1, c.2)

received-dropped : (a : Told) → (received_of a).kind ≡ 5 → (a ≡ told.dropped (received_of a).offset) × ((received_of a).number ≡ 21)
received-dropped (told.body_refused n) e = absurd (omega arith)
received-dropped told.again e = absurd (omega arith)
received-dropped (told.waiting k) e = absurd (omega arith)
received-dropped told.accepted e = absurd (omega arith)
received-dropped (told.message_refused n off) e = absurd (omega arith)
received-dropped (told.dropped cut) e = (refl, refl)

pub receive_after-dropped : (r : Collection) (t : Table) (slots join body : List ℕ) → (let x = receive_after r t slots join body in let l = collect_step (loose r) slots join body in x.answer.kind ≡ 5
    → (x.answer.number ≡ 21) × (x.held ≡ empty_collection r.strict 0 0) × (x.table ≡ t) × (x.slots ≡ l.slots) × (x.join ≡ l.join)
    × Dropping r x.answer.offset (collect_step r slots join body) l)
receive_after-dropped r t slots join body e =
    let k = received-dropped (receive_step r t slots join body).report e in
    let d = receive_step-dropped r t slots join body _ k.0 in
    (k.1, ap (λ (s : Had). s.held) d.0, ap (λ (s : Had). s.table) d.0, ap (λ (s : Had). s.slots) d.0, ap (λ (s : Had). s.join) d.0, d.1)

pub receive_after_kept : (r : Collection) (t : Table) (slots join body : List ℕ)
    → (let x = receive_after r t slots join body in let y = collect_after r slots join body in (x.held ≡ y.held) × (x.slots ≡ y.slots) × (x.join ≡ y.join))
receive_after_kept = receive_step_kept

-- ---- tables

verdict-number : (v : Verdict) → (number_of v ≡ 0 → ⊥) → v ≡ reading.Refused (number_of v) (offset_of v)
verdict-number reading.Accepted some = absurd (some refl)
verdict-number (reading.Refused n off) some = refl

pub read_stepped-refused : (t : Table) (msg : List ℕ) → (let x = read_stepped t msg in (x.answer.number ≡ 0 → ⊥)
    → (x.table ≡ t) × (((x.answer.number ≡ 3) × (x.answer.offset ≡ 0)) ⊎ ((6 ≤ x.answer.number) × (x.answer.number ≤ 15) × (x.answer.offset < length msg))))
read_stepped-refused t msg some = read_table-refused t msg _ _ (verdict-number (read_table t msg).verdict some)

written-number : (w : Written) → ((listed_as w).number ≡ 0 → ⊥) → w ≡ listed.refused (listed_as w).number
written-number (listed.text n) some = absurd (some refl)
written-number (listed.refused n) some = refl

pub listing_as-refused : (text out : List ℕ) → (let x = listing_as (listing text out) in (x.answer.number ≡ 0 → ⊥) → (x.out ≡ out) × (x.answer.number ≡ 100))
listing_as-refused text out some = listing-refused text out _ (written-number (listing text out).answer some)

-- ---- frames and events

choice_number : (c : Choice) → (choose.refusal_of c ≡ 0 → ⊥) → c ≡ choice.Refused (choose.refusal_of c)
choice_number (choice.Chosen place) some = absurd (some refl)
choice_number (choice.Refused n) some = refl

pub choice_for-refused : (t : Table) (kind value known ucid : ℕ) → ((choice_for t kind value known ucid).number ≡ 0 → ⊥) → (choice_for t kind value known ucid).number ≡ 17
choice_for-refused t kind value known ucid some = choice_of_refused t (client_of kind value) (ucid_of known ucid) _ (choice_number _ some)

verdict-kind : (v : verdict.Verdict) (n : ℕ) → (verdict_as v n).kind ≡ 0 → v ≡ verdict.Refused (verdict_as v n).number
verdict-kind (verdict.Refused k) n e = refl
verdict-kind verdict.Other n e = absurd (omega arith)
verdict-kind (verdict.Forward k) n e = absurd (omega arith)
verdict-kind verdict.Filtered n e = absurd (omega arith)

pub verdict_for-refused : (t : Table) (kind value known ucid : ℕ) (frame : List ℕ) → (let x = verdict_for t kind value known ucid frame in x.kind ≡ 0 → (x.number ≡ 16) ⊎ (x.number ≡ 17))
verdict_for-refused t kind value known ucid frame e =
    verdict_of-refused t (client_of kind value) (ucid_of known ucid) frame _ (verdict-kind (verdict_of t (client_of kind value) (ucid_of known ucid) frame) (length frame) e)

pub prepared_for_refused : (tu : Tunnel) (frame : List ℕ) → (let x = verdict_as (prepared_verdict tu frame) (length frame) in x.kind ≡ 0 → (x.number ≡ 16) ⊎ (x.number ≡ 17))
prepared_for_refused tu frame e = prepared_verdict-refused tu frame _ (verdict-kind (prepared_verdict tu frame) (length frame) e)

pub event_stepped-refused : (m : Modem) (clock event a b c d : ℕ) → (let x = event_stepped m clock event a b c d in (x.number ≡ 0 → ⊥) → (x.number ≡ 18) × (x.modem ≡ m))
event_stepped-refused = numbered_step-refused
