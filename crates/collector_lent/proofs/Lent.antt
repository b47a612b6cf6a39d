-- Demand 3 over `lent_step`, the contents in the promise of `collect_lent`: the record and the buffers are the collector's, and the two parts
-- go by what it answers.
--
--   message-at        what the collector answers and leaves at the arrival of the last piece missing, and that elsewhere it is not Complete
--   demand_3_parts    from any lent record that holds nothing, or another count or number; under the strict setting where the cuts pass
-- Trusts: nothing.
use Prim.Native.Nat.{ℕ, ◌≤◌}
use mathlib.Core.Path.{◌≡◌, refl, ap}
use mathlib.Core.Bool.{Bool, true, false, cond}
use mathlib.Core.List.{List, [], ◌∷◌}
use native.Mathlib.Omega.{arith}
use lib.ListN.{length}
use lib.Dec.{eqb}
use Rattle.collection.specs.Record.{is_strict}
use Rattle.collector.specs.Answers.{Said, refused, again, waiting, complete, dropped, own_of, joined_of, lent_of}
use Rattle.collector.specs.Step.{After}
use Rattle.collector_demands.specs.Runs.{Reply}
use Rattle.collector_demands.specs.Demand.{Lent, called, lent_after, is_complete, Cutting, body_of, Arrived, other, piece, Passes, Apart, Demand3}
use Rattle.collector_demands.specs.Last.{IsLast}
use Rattle.collector_demands.proofs.Demands.{demand_3}
use Rattle.collector_demands.proofs.Last.{only_there, complete-number}
use Rattle.lending.specs.Lent.{lent_step}
use Rattle.collector_lent.specs.Lent.{lends, keeps, kept_after, LentOnce}
use Rattle.collector_lent.proofs.Calls.{left_by_same}

-- ---- what the collector does there

pub record MessageAt (a : After) (body message : List ℕ) (pieces : List (List ℕ)) : Type 0 where
  pub answer : a.answer ≡ complete (length message)
  pub number : a.held.number ≡ length pieces
  pub lent : lent_of a.answer a.held.number body a.join ≡ message
  pub headed : 3 ≤ length body

module _ (s : Lent) (count : ℕ) (message : List ℕ) (pieces : List (List ℕ)) (d : Demand3 s count message pieces) where
  pub message-at : {b : List ℕ} {h : List (List ℕ)} (t : Arrived count pieces (b ∷ h)) → IsLast t → MessageAt (called (lent_after s h) b) b message pieces
  unfolding IsLast body_of
  message-at (other b e t) x = absurd x
  message-at (piece {h} k l t) x =
      let r = d.last t k l x.0 x.1 in
      let a = ap (λ (y : Reply). y.answer) r in
      let z = lent_after s h in
      record { answer = a; number = complete-number z.held z.slots z.join (body_of count pieces k) _ a; lent = ap (λ (y : Reply). y.lent) r; headed = omega arith }

  -- elsewhere it does not complete
  pub elsewhere : {b : List ℕ} {h : List (List ℕ)} (t : Arrived count pieces (b ∷ h)) → (IsLast t → ⊥) → is_complete (called (lent_after s h) b).answer ≡ 0
  elsewhere {b} {h} t no' = go (called (lent_after s h) b).answer (λ x. no' ((only_there s count message pieces d).last t x)) where
    go : (a : Said) → (is_complete a ≡ 1 → ⊥) → is_complete a ≡ 0
    go (refused n) x = refl
    go again x = refl
    go (waiting k) x = refl
    go (complete n) x = absurd (x refl)
    go (dropped cut) x = refl

-- ---- the two parts

own-message : (a : Said) (n number of' : ℕ) (body join message : List ℕ) → a ≡ complete n → number ≡ of' → lent_of a number body join ≡ message
    → (own_of a number body ≡ cond (eqb of' 1) message []) × (joined_of a number join ≡ cond (eqb of' 1) [] message)
unfolding own_of joined_of lent_of
own-message a n number of' body join message d q m = rw (← q) (go (eqb number 1) refl) where
  go : (t : Bool) → eqb number 1 ≡ t → (own_of a number body ≡ cond (eqb number 1) message []) × (joined_of a number join ≡ cond (eqb number 1) [] message)
  go true e = (rw (d, e) (rw (d, e) at m), rw (d, e) refl)
  go false e = (rw (d, e) refl, rw (d, e) (rw (d, e) at m))

no_part : (a : Said) (number : ℕ) (body join : List ℕ) → is_complete a ≡ 0 → (own_of a number body ≡ []) × (joined_of a number join ≡ [])
unfolding own_of joined_of
no_part (refused n) number body join e = (refl, refl)
no_part again number body join e = (refl, refl)
no_part (waiting k) number body join e = (refl, refl)
no_part (complete n) number body join e = absurd (omega arith)
no_part (dropped cut) number body join e = (refl, refl)

kept_is : (s : Lent) (h : List (List ℕ)) → kept_after s h ≡ lent_after s h
unfolding lent_step
kept_is = left_by_same (λ s b. keeps (lends s b)) (λ s b. refl)

parts : (s : Lent) (count : ℕ) (message : List ℕ) (pieces : List (List ℕ)) → Demand3 s count message pieces → LentOnce s count message pieces
unfolding lent_step
parts s count message pieces d = record {
  last = λ {b} {h} t x.
      let m = message-at s count message pieces d t x in
      let a = called (lent_after s h) b in
      let p = own-message a.answer _ a.held.number (length pieces) b a.join message m.answer m.number m.lent in
      rw (kept_is s h) (m.answer, p.0, p.1);
  other = λ {b} {h} t no'.
      let a = called (lent_after s h) b in
      let e = elsewhere s count message pieces d t no' in
      let p = no_part a.answer a.held.number b a.join e in
      rw (kept_is s h) (e, p.0, p.1);
}

pub demand_3_parts : (s : Lent) → 24000 ≤ length s.slots → 24000 ≤ length s.join → (count : ℕ) (message : List ℕ) (pieces : List (List ℕ)) → Cutting message pieces
    → (is_strict s.held ≡ true → Passes message pieces) → Apart s.held count (length pieces) → LentOnce s count message pieces
demand_3_parts s room space count message pieces cut passes apart = parts s count message pieces (demand_3 s room space count message pieces cut passes apart)
