-- Laws of one step (specs/Step.antt): what the piece is added to, and one law for each answer of `collect`.
--
--   empty_slots_counted    `empty_slots` is the count of the flags of 0 among the first n
--   relation_by            how a piece stands to what is held, by the parts of its body
--   base_goes_on, base-anew, base_of_number, base_of_short    the record that the piece is noted in
--   set_bound              a length more that keeps the bound
--   settled_loose, settled_good, settled-bad    what a message of several pieces comes to
--   step_refused, step_again, step_stored, step_waiting, step_alone, step_joined    each answer of the code, as the step has it
-- Trusts: nothing.
use Prim.Native.Nat.{ℕ, zero, suc, ◌+◌, ◌-◌, ◌≤◌, ◌<◌}
use mathlib.Core.Path.{◌≡◌, refl, ap, ◌∙◌}
use mathlib.Core.Bool.{Bool, true, false, cond}
use mathlib.Core.List.{List, [], ◌∷◌, ◌++◌}
use native.Mathlib.Omega.{arith}
use Rattle.std.specs.Prelude.{count_by}
use Rattle.std.proofs.lemmas.List.Sums.{sum_by_more}
use native.Mathlib.Numerals.{add-one}
use borrow.Author.Tests.{eqb-true, eq-eqb, ne_eqb}
use lib.ListN.{length, get_or, set, get_or-replicate, take, drop, length-drop, length-append}
use lib.Seq.{length-take-le, take-append_seam}
use lib.Dec.{eqb}
use Rattle.collector.specs.Answers.{Said, refused, again, waiting, complete, dropped}
use Rattle.collection.specs.Record.{empty_collection}
use Rattle.cuts.specs.Cuts.{ruling, cuts_in}
use Rattle.std.proofs.Common.{Option, Some, None}
use Rattle.held.specs.Held.{empty_slots}
use Rattle.joining.specs.Pieces.{joined}
use Rattle.relation.specs.Relation.{goes_on, repeats, anew, relation_to}
use Rattle.relation.proofs.Laws.{relation_to-goes_on}
use Rattle.body_tests.specs.Refusals.{count_of, number_of, slot_of, piece_of, refusal_of}
use Rattle.collector.specs.Step.{relation_of, base_of, noted, After, after, Settled, settled, finished, accepted, collect_step}
use Rattle.collector.specs.Duties.{Parts, stored_step}
use Rattle.collection.specs.declared.Collection.{Collection}
use Rattle.held.proofs.Laws.{well_made-short}

-- ---- the empty slots

pub empty_slots_counted : (filled : List ℕ) (n : ℕ) → n ≤ length filled → count_by (λ x. eqb x 0) (take n filled) ≡ empty_slots filled n
unfolding empty_slots
empty_slots_counted filled zero h = refl
empty_slots_counted filled (suc n) h =
    let e : count_by (λ x. eqb x 0) (take (n + 1) filled) ≡ count_by (λ x. eqb x 0) (take n filled) + cond (eqb (get_or filled n 0) 0) 1 0 =
    sum_by_more (λ x. cond (eqb x 0) 1 0) filled n 0 (omega arith) in
    rw add-one at e ∙ ap (λ (t : ℕ). t + cond (eqb (get_or filled n 0) 0) 1 0) (empty_slots_counted filled n (omega arith))

-- ---- the record

-- an element of a list after a store is bounded as its elements and the new one are
pub set_bound : (l : List ℕ) (i a j b : ℕ) → get_or l j 0 ≤ b → a ≤ b → get_or (set l i a) j 0 ≤ b
set_bound [] i a j b h k = h
set_bound (x ∷ xs) zero a zero b h k = k
set_bound (x ∷ xs) zero a (suc j) b h k = h
set_bound (x ∷ xs) (suc i) a zero b h k = h
set_bound (x ∷ xs) (suc i) a (suc j) b h k = set_bound xs i a j b h k

module _ (r : Collection) (slots body : List ℕ) where
  abbrev pub base : Collection
  base = base_of (relation_of r slots body) r body

  module _ {n m k : ℕ} {p : List ℕ} (of' : Parts body n m k p) where
    pub relation_by : {a : ℕ} → a ≡ relation_to r slots n m k p → relation_of r slots body ≡ a
    relation_by e = cc

    pub base_goes_on : goes_on ≡ relation_to r slots n m k p → r ≡ base
    unfolding base_of
    base_goes_on e = simp (relation_by e)

    pub base-anew : anew ≡ relation_to r slots n m k p → empty_collection r.strict n m ≡ base
    unfolding base_of
    base-anew e = simp (relation_by e, of'.counted, of'.numbered)

  pub base_of_number : base.number ≡ number_of body
  unfolding base_of
  base_of_number = go (eqb (relation_of r slots body) 0) refl where
    go : (t : Bool) → eqb (relation_of r slots body) 0 ≡ t → (cond t r (empty_collection r.strict (count_of body) (number_of body))).number ≡ number_of body
    go true e = (relation_to-goes_on r slots _ _ _ _ (eqb-true _ _ e)).1
    go false e = refl

  pub base_of_short : (k : ℕ) → k < 16 → get_or base.lengths k 0 ≤ 1497
  unfolding base_of
  base_of_short k p = go (eqb (relation_of r slots body) 0) refl where
    go : (t : Bool) → eqb (relation_of r slots body) 0 ≡ t → get_or (cond t r (empty_collection r.strict (count_of body) (number_of body))).lengths k 0 ≤ 1497
    go true e = well_made-short r (relation_to-goes_on r slots _ _ _ _ (eqb-true _ _ e)).0 k p
    go false e = omega (arith, get_or-replicate {A = ℕ} 16 k 0 0 p)

  pub noted-short : (k : ℕ) → length body ≤ 1500 → k < 16 → get_or (noted base (slot_of body) (length body - 3)).lengths k 0 ≤ 1497
  noted-short k m p = set_bound base.lengths (slot_of body) (length body - 3) k 1497 (base_of_short k p) (omega arith)

-- ---- a message of several pieces

abbrev settled_as : Said → Collection → Settled
settled_as a r = record { answer = a; held = r }

module _ (r : Collection) (join : List ℕ) (size : ℕ) (fits : size ≤ length join) where
  abbrev message : List ℕ
  message = take size join

  pub settled_loose : r.strict ≡ 0 → settled_as (complete size) r ≡ settled r message
  unfolding settled
  settled_loose e = simp (eq-eqb r.strict 0 e, length-take-le size join fits)

  module _ (ne : r.strict ≡ 0 → ⊥) {u : Option ℕ} (e : ruling u ≡ cuts_in message r.lengths r.number) where
    pub settled_good : u ≡ None → settled_as (complete size) r ≡ settled r message
    unfolding settled
    settled_good g = simp (ne_eqb r.strict 0 ne, ← e, g, length-take-le size join fits)

    pub settled-bad : {cut : ℕ} → u ≡ Some cut → settled_as (dropped cut) (empty_collection r.strict 0 0) ≡ settled r message
    unfolding settled
    settled-bad g = simp (ne_eqb r.strict 0 ne, ← e, g)

-- ---- each answer of the code, as the step has it

pub step_refused : (r : Collection) (slots join body : List ℕ) (num : ℕ) → num ≡ refusal_of (length slots) (length join) body → (num ≡ 0 → ⊥)
    → after (refused num) r slots join ≡ collect_step r slots join body
unfolding collect_step
step_refused r slots join body num e ne = simp (← e, ne_eqb num 0 ne)

module _ (r : Collection) (slots join body : List ℕ) (ok : refusal_of (length slots) (length join) body ≡ 0) where
  pub step_again : relation_of r slots body ≡ repeats → after again r slots join ≡ collect_step r slots join body
  unfolding collect_step accepted
  step_again h = simp (ok, h)

  pub step_stored : (relation_of r slots body ≡ repeats → ⊥) → stored_step (base r slots body) slots join (slot_of body) (piece_of body) ≡ collect_step r slots join body
  unfolding collect_step accepted
  step_stored ne = simp (ok, ne_eqb (relation_of r slots body) 1 ne, length-drop)

-- what is joined stands at the start of the join buffer
pub joined-front : (m join last : List ℕ) (size : ℕ) → size ≡ length m → last ≡ m ++ drop size join → take size last ≡ m
joined-front m join last size e l = rw (l, e) (take-append_seam m (drop (length m) join))

pub joined-fits : (m join last : List ℕ) (size : ℕ) → size ≡ length m → last ≡ m ++ drop size join → size ≤ length last
joined-fits m join last size e l = rw l (simp length-append (omega arith))

-- the piece is stored and noted, and m slots are empty
module _ (next : Collection) (stored join : List ℕ) (len : ℕ) (R : After) (e : finished next stored join len ≡ R) (m : ℕ) (a : m ≡ empty_slots next.filled next.number) where
  pub step_waiting : (m ≡ 0 → ⊥) → after (waiting m) next stored join ≡ R
  unfolding finished
  step_waiting b = simp (← a, ne_eqb m 0 b) at e

  pub step_alone : m ≡ 0 → next.number ≡ 1 → after (complete len) next stored join ≡ R
  unfolding finished
  step_alone b d = simp (← a, eq-eqb m 0 b, eq-eqb next.number 1 d) at e

  pub step_joined : m ≡ 0 → (next.number ≡ 1 → ⊥) → (size : ℕ) → size ≡ length (joined stored next.lengths next.number)
      → (last : List ℕ) → last ≡ joined stored next.lengths next.number ++ drop size join → (s : Settled) → s ≡ settled next (joined stored next.lengths next.number)
      → after s.answer s.held stored last ≡ R
  unfolding finished
  step_joined b d size i last l s g = simp (l, i, g) (simp (← a, eq-eqb m 0 b, ne_eqb next.number 1 d) at e)
