-- EndToEnd: what demand 3 says of the table: a message in pieces through the receiver.
--
--   Kept                      what the caller lends each time: the record, the table and the two buffers
--   kept_after s h             what they are after the bodies of h, each call given back what the last one left
--   readings s h              how often a complete message was reported for the bodies of h, accepted or refused
--   ReadOnce s count message pieces
--                             until the last piece missing comes nothing is read and the table stays; then the report and the table are
--                             those of the uncut message; whatever arrives after, the table stays and nothing is read again
--
-- Cuttings, bodies and arrivals are those of collector_demands/specs/Demand.antt; a history has its newest body first.
-- Tested by: the examples of cuttings and arrivals in collector_demands/proofs/Bench.antt.
-- Trusts: nothing.
use Rattle.std.specs.Prelude.{ℕ, ◌+◌, ◌<◌, ◌≡◌, List, [], ◌∷◌, length}
use Rattle.table.specs.declared.Table.{Table}
use Rattle.collection.specs.declared.Collection.{Collection}
use Rattle.collector_demands.specs.Demand.{body_of, Arrived, Came}
use Rattle.reader.specs.Read.{read_table}
use Rattle.receiver.specs.Receive.{Told, body_refused, again, waiting, accepted, message_refused, dropped, reported, Had, receive_step}

pub record Kept : Type 0 where
  pub held : Collection
  pub table : Table
  pub slots : List ℕ
  pub join : List ℕ

abbrev pub stepped : Kept → List ℕ → Had
stepped s b = receive_step s.held s.table s.slots s.join b

unfoldable pub kept_after : Kept → List (List ℕ) → Kept
kept_after s [] = s
kept_after s (b ∷ h) =
    let a = stepped (kept_after s h) b in
    record { held = a.held; table = a.table; slots = a.slots; join = a.join }

-- whether a message was complete and was read
abbrev pub is_read : Told → ℕ
is_read (body_refused n) = 0
is_read again = 0
is_read (waiting k) = 0
is_read accepted = 1
is_read (message_refused n offset) = 1
is_read (dropped cut) = 0

unfoldable pub readings : Kept → List (List ℕ) → ℕ
readings s [] = 0
readings s (b ∷ h) = is_read (stepped (kept_after s h) b).report + readings s h

pub record ReadOnce (s : Kept) (count : ℕ) (message : List ℕ) (pieces : List (List ℕ)) : Type 0 where
  -- while a piece is missing nothing was read, and the table is as it was lent first
  pub silent : {h : List (List ℕ)} (t : Arrived count pieces h) (k : ℕ) → k < length pieces → (Came k t → ⊥)
      → (readings s h ≡ 0) × ((kept_after s h).table ≡ s.table)
  -- the last piece missing is answered with the verdict on the uncut message, and the table is the one of its reading
  pub last : {h : List (List ℕ)} (t : Arrived count pieces h) (k : ℕ) → k < length pieces → (Came k t → ⊥)
      → ((j : ℕ) → j < length pieces → (j ≡ k → ⊥) → Came j t)
      → ((stepped (kept_after s h) (body_of count pieces k)).report ≡ reported (read_table s.table message).verdict)
      × ((stepped (kept_after s h) (body_of count pieces k)).table ≡ (read_table s.table message).table)
  -- once all came, one message was read, and the table is still that one
  pub once : {h : List (List ℕ)} (t : Arrived count pieces h) → ((k : ℕ) → k < length pieces → Came k t)
      → (readings s h ≡ 1) × ((kept_after s h).table ≡ (read_table s.table message).table)
