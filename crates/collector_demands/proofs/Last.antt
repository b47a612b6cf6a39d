-- Complete is reported at the arrival of the last piece missing, and there only.
--
--   came_or_not       whether a piece came           all_or_missing     all of them came, or one that did not
--   only_there        demand 3 says it of a body at its position
--   complete-number   the number of the record that a completing body leaves is the body's
-- Trusts: nothing.
use Prim.Native.Nat.{ℕ, zero, suc, ◌*◌, ◌-◌, ◌<◌}
use mathlib.Core.Path.{◌≡◌, refl, sym, ap, subst, ◌∙◌}
use mathlib.Core.Bool.{Bool, true, false, cond}
use mathlib.Core.List.{List, ◌∷◌}
use mathlib.Core.Logic.{◌⊎◌, inl, inr, ⊎_elim}
use native.Mathlib.Omega.{arith}
use borrow.Author.Tests.{eqb-true, eqb-false}
use lib.ListN.{length}
use lib.Dec.{eqb}
use Rattle.wire.specs.Bytes.{pasted}
use Rattle.body_tests.specs.Refusals.{number_of, slot_of, piece_of, refusal_of}
use Rattle.collection.specs.declared.Collection.{Collection}
use Rattle.collector.specs.Answers.{refused, again, complete}
use Rattle.collector.specs.Step.{relation_of, base_of, noted, After, after, finished, accepted, collect_step}
use Rattle.collector.proofs.LawsStep.{base_of_number}
use Rattle.collector_demands.specs.Runs.{Reply}
use Rattle.collector_demands.specs.Demand.{Lent, reply_to, is_complete, completions, Arrived, none, other, piece, Came, Demand3}
use Rattle.collector_demands.specs.Last.{IsLast, OnlyThere}
use Rattle.collector_demands.proofs.Stored.{finished-held}

pub came_or_not : {count : ℕ} {pieces h : List (List ℕ)} (k : ℕ) (t : Arrived count pieces h) → Came k t ⊎ (Came k t → ⊥)
unfolding Came
came_or_not k none = inr (λ x. x)
came_or_not k (other b e t) = came_or_not k t
came_or_not k (piece j l t) = go (eqb j k) refl (came_or_not k t) where
  go : (b : Bool) → eqb j k ≡ b → Came k t ⊎ (Came k t → ⊥) → ((j ≡ k) ⊎ Came k t) ⊎ ((j ≡ k) ⊎ Came k t → ⊥)
  go true e d = inl (inl (eqb-true j k e))
  go false e (inl yes') = inl (inr yes')
  go false e (inr not') = inr (λ x. ⊎_elim (eqb-false j k e) not' x)

abbrev pub AllTo : {count : ℕ} {pieces h : List (List ℕ)} → Arrived count pieces h → ℕ → Type 0
AllTo t n = (k : ℕ) → k < n → Came k t

abbrev pub MissesTo : {count : ℕ} {pieces h : List (List ℕ)} → Arrived count pieces h → ℕ → Type 0
MissesTo t n = (k : ℕ) × ((k < n) × (Came k t → ⊥))

pub all_or_missing : {count : ℕ} {pieces h : List (List ℕ)} (t : Arrived count pieces h) (n : ℕ) → AllTo t n ⊎ MissesTo t n
all_or_missing t zero = inl (λ k l. absurd (omega arith))
all_or_missing t (suc n) = go (came_or_not n t) (all_or_missing t n) where
  go : Came n t ⊎ (Came n t → ⊥) → AllTo t n ⊎ MissesTo t n → AllTo t (suc n) ⊎ MissesTo t (suc n)
  go (inr gone) rest = inr (n, (omega arith, gone))
  go (inl here) (inr m) = inr (m.0, (omega (arith, m.1.0), m.1.1))
  go (inl here) (inl all) = inl (λ k l. at k l (eqb k n) refl) where
    at : (k : ℕ) → k < suc n → (b : Bool) → eqb k n ≡ b → Came k t
    at k l true e = subst (λ (i : ℕ). Came i t) (sym (eqb-true k n e)) here
    at k l false e = let ne = eqb-false k n e in all k (omega arith)

module _ (s : Lent) (count : ℕ) (message : List ℕ) (pieces : List (List ℕ)) (d : Demand3 s count message pieces) where
  -- one was missing and now all came: it was the last
  was_last : {b : List ℕ} {h : List (List ℕ)} (t : Arrived count pieces (b ∷ h)) → is_complete (reply_to s h b).answer ≡ 1 → IsLast t
  unfolding Came IsLast completions
  was_last (other {h} b e t) x = ⊎_elim
      (λ (all : AllTo t (length pieces)). absurd (omega (arith, d.once t all, d.once (other b e t) all)))
      (λ (m : MissesTo t (length pieces)). absurd (omega (arith, d.silent t m.0 m.1.0 m.1.1, d.silent (other b e t) m.0 m.1.0 m.1.1)))
      (all_or_missing t (length pieces))
  was_last (piece {h} k l t) x = ⊎_elim
      (λ (all : AllTo t (length pieces)). absurd (omega (arith, d.once t all, d.once (piece k l t) (λ j q. inr (all j q)))))
      (λ (m : MissesTo t (length pieces)). ⊎_elim
      (λ (all : AllTo (piece k l t) (length pieces)).
      let here : k ≡ m.0 = ⊎_elim (λ (e : k ≡ m.0). e) (λ (y : Came m.0 t). absurd (m.1.1 y)) (all m.0 m.1.0) in
      (λ (y : Came k t). m.1.1 (subst (λ (i : ℕ). Came i t) here y), λ j q ne. ⊎_elim (λ (e : k ≡ j). absurd (ne (sym e))) (λ (y : Came j t). y) (all j q)))
      (λ (n : MissesTo (piece k l t) (length pieces)).
      absurd (omega (arith, d.silent t m.0 m.1.0 m.1.1, d.silent (piece k l t) n.0 n.1.0 n.1.1)))
      (all_or_missing (piece k l t) (length pieces)))
      (all_or_missing t (length pieces))

  completes : {b : List ℕ} {h : List (List ℕ)} (t : Arrived count pieces (b ∷ h)) → IsLast t → is_complete (reply_to s h b).answer ≡ 1
  unfolding IsLast
  completes (other b e t) x = absurd x
  completes (piece k l t) x = ap (λ (r : Reply). is_complete r.answer) (d.last t k l x.0 x.1)

  pub only_there : OnlyThere s count pieces
  only_there = record { last = λ {b} {h} t. was_last t; complete = λ {b} {h} t. completes t }

-- ---- the number of the record

pub complete-number : (r : Collection) (slots join b : List ℕ) (n : ℕ) → (collect_step r slots join b).answer ≡ complete n
    → (collect_step r slots join b).held.number ≡ number_of b
unfolding collect_step accepted
complete-number r slots join b n = go (eqb (refusal_of (length slots) (length join) b) 0) (eqb (relation_of r slots b) 1) where
  next : Collection
  next = noted (base_of (relation_of r slots b) r b) (slot_of b) (length b - 3)

  stored : List ℕ
  stored = pasted slots (slot_of b * 1500) (piece_of b)

  way : Bool → Bool → After
  way t u = cond t (cond u (after again r slots join) (finished next stored join (length b - 3))) (after (refused (refusal_of (length slots) (length join) b)) r slots join)

  go : (t u : Bool) → (way t u).answer ≡ complete n → (way t u).held.number ≡ number_of b
  go false u e = absurd (let z : ◌≡◌ {A = ℕ} 0 1 = cc in omega arith)
  go true true e = absurd (let z : ◌≡◌ {A = ℕ} 0 1 = cc in omega arith)
  go true false e = ap (λ (c : Collection). c.number) (finished-held next stored join (length b - 3) e) ∙ base_of_number r slots b
