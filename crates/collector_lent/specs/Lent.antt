-- Lent: what demand 3 says of the message that is lent back: a message in pieces through `lent_step`.
--
--   kept_after s h      the record and the buffers after the bodies of h
--   lent_to s h b       what the call for b after h answers, leaves and lends
--   LentOnce s count message pieces
--                      at the arrival of the last piece missing the part that is lent is the uncut message: of the body where it is the only
--                      piece, else of the join buffer, the other part empty; at every other arrival Complete is not answered, and both
--                      are empty
--
-- Cuttings, bodies, arrivals and the last of them are those of collector_demands/specs; a history has its newest body first.
-- Tested by: the examples of cuttings and arrivals in collector_demands/proofs/Bench.antt.
-- Trusts: nothing.
use Rattle.std.specs.Prelude.{ℕ, ◌≡◌, cond, List, [], ◌∷◌, length, eqb}
use Rattle.collector.specs.Answers.{complete}
use Rattle.collector_demands.specs.Demand.{Lent, is_complete, Arrived}
use Rattle.collector_demands.specs.Last.{IsLast}
use Rattle.lending.specs.Lent.{LentAfter, lent_step}
use Rattle.collector_lent.specs.Calls.{left_by}

abbrev pub lends : Lent → List ℕ → LentAfter
lends s b = lent_step s.held s.slots s.join b

abbrev pub keeps : LentAfter → Lent
keeps a = record { held = a.held; slots = a.slots; join = a.join }

abbrev pub kept_after : Lent → List (List ℕ) → Lent
kept_after = left_by (λ s b. keeps (lends s b))

abbrev pub lent_to : Lent → List (List ℕ) → List ℕ → LentAfter
lent_to s h b = lends (kept_after s h) b

pub record LentOnce (s : Lent) (count : ℕ) (message : List ℕ) (pieces : List (List ℕ)) : Type 0 where
  pub last : {b : List ℕ} {h : List (List ℕ)} (t : Arrived count pieces (b ∷ h)) → IsLast t → ((lent_to s h b).answer ≡ complete (length message))
      × ((lent_to s h b).own ≡ cond (eqb (length pieces) 1) message []) × ((lent_to s h b).joined ≡ cond (eqb (length pieces) 1) [] message)
  pub other : {b : List ℕ} {h : List (List ℕ)} (t : Arrived count pieces (b ∷ h)) → (IsLast t → ⊥) → (is_complete (lent_to s h b).answer ≡ 0)
      × ((lent_to s h b).own ≡ []) × ((lent_to s h b).joined ≡ [])
