-- Host: what demand 3 says to a C host: a message in pieces through `collect_after`, which is all that `dsg_collect` answers and leaves.
--
--   host_after s h      the record and the buffers after the bodies of h
--   host_to s h b       what the call for b after h answers and leaves
--   holder_of x body    what an answer names a part of: the body for kind 3, the join buffer after the call for kind 4, nothing for another kind
--   named_by x body     the bytes of it that `start` and `length` name
--   named s h          how often kind 3 or 4 was answered for the bodies of h
--   HostOnce s count message pieces
--                      kind 3 or 4 is answered exactly once, at the arrival of the last piece missing: 3 where it is the only piece, else 4;
--                      `length` is then the uncut message's, no byte named is past the end, and what is named is the uncut message
--
-- Cuttings, bodies, arrivals and the last of them are those of collector_demands/specs; a history has its newest body first.
-- Tested by: the examples of cuttings and arrivals in collector_demands/proofs/Bench.antt; the C host of examples/ on its script.
-- Trusts: nothing.
use Rattle.std.specs.Prelude.{ℕ, ◌+◌, ◌≤◌, ◌<◌, ◌≡◌, cond, List, [], ◌∷◌, length, take, drop, eqb}
use Rattle.collector_demands.specs.Demand.{Lent, Arrived, Came}
use Rattle.collector_demands.specs.Last.{IsLast}
use Rattle.dsg_pieces.specs.Bodies.{CollectAfter, collect_after}
use Rattle.collector_lent.specs.Calls.{left_by}

abbrev pub hosts : Lent → List ℕ → CollectAfter
hosts s b = collect_after s.held s.slots s.join b

abbrev pub keeps : CollectAfter → Lent
keeps a = record { held = a.held; slots = a.slots; join = a.join }

abbrev pub host_after : Lent → List (List ℕ) → Lent
host_after = left_by (λ s b. keeps (hosts s b))

abbrev pub host_to : Lent → List (List ℕ) → List ℕ → CollectAfter
host_to s h b = hosts (host_after s h) b

abbrev pub holder_of : CollectAfter → List ℕ → List ℕ
holder_of x body = cond (eqb x.answer.kind 3) body (cond (eqb x.answer.kind 4) x.join [])

abbrev pub named_by : CollectAfter → List ℕ → List ℕ
named_by x body = take x.answer.length (drop x.answer.start (holder_of x body))

abbrev pub is_named : ℕ → ℕ
is_named kind = cond (eqb kind 3) 1 (cond (eqb kind 4) 1 0)

unfoldable pub named : Lent → List (List ℕ) → ℕ
named s [] = 0
named s (b ∷ h) = is_named (host_to s h b).answer.kind + named s h

pub record HostOnce (s : Lent) (count : ℕ) (message : List ℕ) (pieces : List (List ℕ)) : Type 0 where
  -- while a piece is missing, never; once all came, exactly once
  pub silent : {h : List (List ℕ)} (t : Arrived count pieces h) (k : ℕ) → k < length pieces → (Came k t → ⊥) → named s h ≡ 0
  pub once : {h : List (List ℕ)} (t : Arrived count pieces h) → ((k : ℕ) → k < length pieces → Came k t) → named s h ≡ 1
  -- at the arrival of the last piece missing, and there only
  pub last : {b : List ℕ} {h : List (List ℕ)} (t : Arrived count pieces (b ∷ h)) → IsLast t
      → ((host_to s h b).answer.kind ≡ cond (eqb (length pieces) 1) 3 4) × ((host_to s h b).answer.length ≡ length message)
      × ((host_to s h b).answer.start + (host_to s h b).answer.length ≤ length (holder_of (host_to s h b) b)) × (named_by (host_to s h b) b ≡ message)
  pub other : {b : List ℕ} {h : List (List ℕ)} (t : Arrived count pieces (b ∷ h)) → (IsLast t → ⊥) → is_named (host_to s h b).answer.kind ≡ 0
