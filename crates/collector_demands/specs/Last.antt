-- Last: the arrival that demand 3 speaks of.
--
--   IsLast t      the newest body of t is the last piece missing: it had not come before, and every other had
--   OnlyThere s count pieces      Complete is reported for a body if and only if that is the arrival of the last piece missing
--
-- Tested by: as specs/Demand.antt.
-- Trusts: nothing.
use Rattle.std.specs.Prelude.{ℕ, ◌<◌, ◌≡◌, List, ◌∷◌, length}
use Rattle.collector_demands.specs.Demand.{Lent, reply_to, is_complete, Arrived, none, other, piece, Came}

unfoldable pub IsLast : {count : ℕ} {pieces h : List (List ℕ)} → Arrived count pieces h → Type 0
IsLast none = ⊥
IsLast (other b e t) = ⊥
IsLast {pieces = pieces} (piece k l t) = (Came k t → ⊥) × ((j : ℕ) → j < length pieces → (j ≡ k → ⊥) → Came j t)

pub record OnlyThere (s : Lent) (count : ℕ) (pieces : List (List ℕ)) : Type 0 where
  pub last : {b : List ℕ} {h : List (List ℕ)} (t : Arrived count pieces (b ∷ h)) → is_complete (reply_to s h b).answer ≡ 1 → IsLast t
  pub complete : {b : List ℕ} {h : List (List ℕ)} (t : Arrived count pieces (b ∷ h)) → IsLast t → is_complete (reply_to s h b).answer ≡ 1
