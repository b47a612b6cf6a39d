-- Demand1Dropped: the first demand's one exception (document 02, Req 04): refusal 21 drops a strict collection that was cut inside an element.
--
--   Dropping r off R L     R, which answers 21 at off, leaves the record empty but for its setting, and both buffers as L, which is what the same call does in the
--                          record with the loose setting; that completes, and off is the first bad cut of the message that it leaves in the join buffer
--   collect_step-dropped    so of a body; and 21 is never answered in a loose record (`strict`) nor to a message of one piece (dropped_several)
--   lent_step-dropped       the same with the message lent as a part: no part is lent
--
-- Trusts: nothing.
use Prim.Native.Nat.{ℕ, ◌*◌, ◌-◌, ◌≤◌}
use mathlib.Core.Path.{◌≡◌, refl, sym, ap, subst, ◌∙◌}
use mathlib.Core.Bool.{Bool, true, false, cond, not}
use mathlib.Core.List.{List, [], ◌++◌}
use native.Mathlib.Omega.{arith}
use lib.ListN.{length, take, drop}
use lib.Seq.{take-append_seam}
use lib.Dec.{eqb}
use Rattle.wire.specs.Bytes.{pasted}
use Rattle.collection.specs.Record.{empty_collection, is_strict}
use Rattle.collection.specs.declared.Collection.{Collection}
use Rattle.cuts.specs.Cuts.{Ruling, all_good, bad_at, cuts_in}
use Rattle.cuts.specs.Walks.{FirstBad}
use Rattle.cuts.proofs.Says.{cuts_in-first}
use Rattle.held.specs.Held.{empty_slots, well_made, is_of}
use Rattle.joining.specs.Pieces.{joined}
use Rattle.body_tests.specs.Refusals.{count_of, number_of, slot_of, piece_of, refusal_of}
use Rattle.relation.specs.Relation.{goes_on, repeats, relation_to}
use Rattle.collector.specs.Answers.{again, waiting, complete, dropped, own_of, joined_of}
use Rattle.collector.specs.Step.{relation_of, base_of, noted, After, after, settled_by, settled, finished, accepted, collect_step}
use Rattle.collector_demands.proofs.Last.{complete-number}
use Rattle.collector_demands.proofs.Setting.{base_setting}
use Rattle.lending.specs.Lent.{lent_step}
use Rattle.demands.proofs.Demand1.{answered}

-- the record with the loose setting
abbrev pub loose : Collection → Collection
loose r = record { count = r.count; number = r.number; filled = r.filled; lengths = r.lengths; strict = 0 }

pub record Dropping (r : Collection) (off : ℕ) (R L : After) : Type 0 where
  pub strict : is_strict r ≡ true
  pub left : R ≡ after (dropped off) (empty_collection r.strict 0 0) L.slots L.join
  pub size : ℕ
  pub completes : L.answer ≡ complete size
  pub first : FirstBad (take size L.join) L.held.lengths L.held.number off

finished-dropped : (next : Collection) (slots join : List ℕ) (len off : ℕ) → (finished next slots join len).answer ≡ dropped off
    → Dropping next off (finished next slots join len) (finished (loose next) slots join len)
unfolding finished settled
finished-dropped next slots join len off = go (eqb (empty_slots next.filled next.number) 0) (eqb next.number 1) (is_strict next) refl (cuts_in whole next.lengths next.number) refl where
  whole : List ℕ
  whole = joined slots next.lengths next.number

  R : Bool → Bool → Bool → Ruling → After
  R t u s v = cond t (cond u (after (complete len) next slots join)
      (after (settled_by (cond s v all_good) next whole).answer (settled_by (cond s v all_good) next whole).held slots (whole ++ drop (length whole) join)))
      (after (waiting (empty_slots next.filled next.number)) next slots join)

  L : Bool → Bool → After
  L t u = cond t (cond u (after (complete len) (loose next) slots join) (after (complete (length whole)) (loose next) slots (whole ++ drop (length whole) join)))
      (after (waiting (empty_slots next.filled next.number)) (loose next) slots join)

  go : (t u s : Bool) → is_strict next ≡ s → (v : Ruling) → cuts_in whole next.lengths next.number ≡ v → (R t u s v).answer ≡ dropped off → Dropping next off (R t u s v) (L t u)
  go true false true e (bad_at cut) f d =
      let z : cut ≡ off = cc in
      record {
        strict = e;
        left = rw z refl;
        size = length whole;
        completes = refl;
        first =
            subst (λ (m : List ℕ). FirstBad m next.lengths next.number off) (sym (take-append_seam whole (drop (length whole) join)))
            (cuts_in-first whole next.lengths next.number (f ∙ ap bad_at z));
      }
  go true false true e all_good f d = absurd (let z : ◌≡◌ {A = ℕ} 0 1 = cc in omega arith)
  go true false false e v f d = absurd (let z : ◌≡◌ {A = ℕ} 0 1 = cc in omega arith)
  go true true s e v f d = absurd (let z : ◌≡◌ {A = ℕ} 0 1 = cc in omega arith)
  go false u s e v f d = absurd (let z : ◌≡◌ {A = ℕ} 0 1 = cc in omega arith)

relation_loose : (r : Collection) (slots body : List ℕ) → relation_of (loose r) slots body ≡ relation_of r slots body
unfolding relation_to is_of well_made
relation_loose r slots body = refl

-- the record that the piece is noted in goes along
base_loose : (how : ℕ) (r : Collection) (body : List ℕ) (k len : ℕ) → noted (base_of how (loose r) body) k len ≡ loose (noted (base_of how r body) k len)
unfolding base_of
base_loose how r body k len = go (eqb how goes_on) where
  go : (t : Bool) → noted (cond t (loose r) (empty_collection 0 (count_of body) (number_of body))) k len ≡ loose (noted (cond t r (empty_collection r.strict (count_of body) (number_of body))) k len)
  go true = refl
  go false = refl

accepted-dropped : (r : Collection) (slots join body : List ℕ) (off : ℕ) → (accepted r slots join body).answer ≡ dropped off
    → Dropping r off (accepted r slots join body) (accepted (loose r) slots join body)
unfolding accepted
accepted-dropped r slots join body off =
    rw (relation_loose r slots body, base_loose (relation_of r slots body) r body (slot_of body) (length body - 3)) (go (eqb (relation_of r slots body) repeats)) where
      next : Collection
      next = noted (base_of (relation_of r slots body) r body) (slot_of body) (length body - 3)

      put : List ℕ
      put = pasted slots (slot_of body * 1500) (piece_of body)

      go : (t : Bool) → (cond t (after again r slots join) (finished next put join (length body - 3))).answer ≡ dropped off
          → Dropping r off (cond t (after again r slots join) (finished next put join (length body - 3))) (cond t (after again (loose r) slots join) (finished (loose next) put join (length body - 3)))
      go true e = absurd (let z : ◌≡◌ {A = ℕ} 0 1 = cc in omega arith)
      go false e =
          let d = finished-dropped next put join (length body - 3) off e in
          let s = base_setting (relation_of r slots body) r body in
          let L = finished (loose next) put join (length body - 3) in
          record {
            strict = ap (λ x. not (eqb x 0)) (sym s) ∙ d.strict;
            left = d.left ∙ ap (λ x. after (dropped off) (empty_collection x 0 0) L.slots L.join) s;
            size = d.size;
            completes = d.completes;
            first = d.first;
          }

pub collect_step-dropped : (r : Collection) (slots join body : List ℕ) (off : ℕ) → (collect_step r slots join body).answer ≡ dropped off
    → Dropping r off (collect_step r slots join body) (collect_step (loose r) slots join body)
unfolding collect_step
collect_step-dropped r slots join body off = go (eqb (refusal_of (length slots) (length join) body) 0) where
  go : (t : Bool) → (answered t (refusal_of (length slots) (length join) body) r slots join body).answer ≡ dropped off
      → Dropping r off (answered t (refusal_of (length slots) (length join) body) r slots join body) (answered t (refusal_of (length slots) (length join) body) (loose r) slots join body)
  go true e = accepted-dropped r slots join body off e
  go false e = absurd (let z : ◌≡◌ {A = ℕ} 0 1 = cc in omega arith)

-- one piece has no cut
pub dropped_several : (r : Collection) (slots join body : List ℕ) (off : ℕ) → (collect_step r slots join body).answer ≡ dropped off → 2 ≤ number_of body
dropped_several r slots join body off e =
    let d = collect_step-dropped r slots join body off e in
    let n = complete-number (loose r) slots join body d.size d.completes in
    let i = d.first.inner in
    omega arith

pub lent_step-dropped : (r : Collection) (slots join body : List ℕ) (off : ℕ) → (lent_step r slots join body).answer ≡ dropped off
    → (let l = collect_step (loose r) slots join body in
    (lent_step r slots join body ≡ record { answer = dropped off; held = empty_collection r.strict 0 0; slots = l.slots; own = []; joined = []; join = l.join })
    × Dropping r off (collect_step r slots join body) l)
unfolding lent_step own_of joined_of
lent_step-dropped r slots join body off e =
    let d = collect_step-dropped r slots join body off e in
    (rw d.left refl, d)
