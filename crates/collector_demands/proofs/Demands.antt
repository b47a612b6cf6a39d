-- Demands 2 and 3 of the collector itself: `collect_step`, which is the whole promise of `collect`, over a history of bodies.
--
--   demand_2      from any lent record the replies to any history are those of the runs under its setting, from the run that the record stands
--                 for on, and the record and the slot buffer hold the run; demand-2-nothing: with nothing collected that run has no body
--   demand_3      from any lent record that holds nothing, or another count or number, a cut message completes exactly once; where the setting
--                 is strict its cuts must pass (document 02, Req 04)
-- Trusts: nothing.
use Prim.Native.Nat.{ℕ, zero, suc, ◌+◌, ◌≤◌, ◌<◌}
use mathlib.Core.Path.{◌≡◌, refl, sym, ap, ◌∙◌}
use mathlib.Core.Bool.{Bool, true, false, and-false}
use mathlib.Core.List.{List, [], ◌∷◌}
use mathlib.Core.Logic.{◌⊎◌, inl, inr, ⊎_elim}
use native.Mathlib.Omega.{arith}
use borrow.Author.Tests.{eqb-true, ne_eqb}
use lib.ListN.{length, get_or}
use lib.Dec.{eqb}
use Rattle.cuts.specs.Cuts.{all_good}
use Rattle.collector.specs.Answers.{Said, refused}
use Rattle.collection.specs.Record.{empty_collection, is_strict}
use Rattle.cuts.proofs.Says.{cuts_in_same, cuts_in_good}
use Rattle.held.specs.Held.{well_made, is_of}
use Rattle.body_tests.specs.Refusals.{count_of, number_of, body_refusal, refusal_of}
use Rattle.relation.specs.Relation.{anew, relation_to}
use Rattle.collector.specs.Step.{relation_of, base_of, After, after, accepted, collect_step}
use Rattle.collection.specs.declared.Collection.{Collection}
use Rattle.body_tests.proofs.Laws.{refusal_of-room}
use Rattle.collector_demands.specs.Runs.{full, accepts, lengths_to, judged, run_from, run_of, Reply, reply_from, reply_of, HeldBy, stands_for, Sized}
use Rattle.collector_demands.specs.Demand.{Lent, called, lent_after, told, reply_to, is_complete, completions, Cutting, body_of, Arrived, none, other, piece, lengths_of, Passes, Apart, Demand3}
use Rattle.collector_demands.proofs.Stored.{Rep, rep_held, blank_nothing}
use Rattle.collector_demands.proofs.Refine.{refusal_of_long, step}
use Rattle.collector_demands.proofs.Missing.{lengths_to-at, message-whole}
use Rattle.collector_demands.proofs.Made.{rep_idle, rep_any}
use Rattle.collector_demands.proofs.Kept.{join_kept, whole-all}
use Rattle.collector_demands.proofs.Came.{accepts_body}
use Rattle.collector_demands.proofs.Once.{completed, silent, once, last-reply}

-- ---- demand 2

-- from a record that has the run o
module _ (s : Lent) (room : 24000 ≤ length s.slots) (space : 24000 ≤ length s.join) (o : List (List ℕ)) (rep : Rep s.held.strict o s.held s.slots) where
  abbrev run : List (List ℕ) → List (List ℕ)
  run h = run_from (is_strict s.held) o h

  tracked : (h : List (List ℕ)) → Rep s.held.strict (run h) (lent_after s h).held (lent_after s h).slots × (length (lent_after s h).join ≡ length s.join)
  unfolding lent_after run_from
  tracked [] = (rep, refl)
  tracked (b ∷ h) =
      let i = tracked h in (
        (step s.held.strict (run h) b (lent_after s h).held (lent_after s h).slots (lent_after s h).join (omega arith) i.0).rep,
        join_kept (lent_after s h).held (lent_after s h).slots (lent_after s h).join b ∙ i.1,
      )

  follows : (h : List (List ℕ)) (b : List ℕ) → (reply_to s h b ≡ reply_from (is_strict s.held) o h b) × HeldBy (run h) (lent_after s h).held (lent_after s h).slots
  unfolding reply_from
  follows h b =
      let i = tracked h in
      ((step s.held.strict (run h) b (lent_after s h).held (lent_after s h).slots (lent_after s h).join (omega arith) i.0).reply_is, rep_held _ _ _ _ i.0)

-- any lent record stands for a run, and the calls go on from there
pub demand_2 : (s : Lent) → Sized s.held → 24000 ≤ length s.slots → 24000 ≤ length s.join → (h : List (List ℕ)) (b : List ℕ)
    → (reply_to s h b ≡ reply_from (is_strict s.held) (stands_for s.held s.slots) h b)
    × HeldBy (run_from (is_strict s.held) (stands_for s.held s.slots) h) (lent_after s h).held (lent_after s h).slots
demand_2 s z room space = follows s room space (stands_for s.held s.slots) (rep_any s.held s.slots z room)

-- with nothing collected that run has no body
module _ (s : Lent) (room : 24000 ≤ length s.slots) (space : 24000 ≤ length s.join) (nothing : well_made s.held ≡ false) where
  pub demand_2_nothing : (h : List (List ℕ)) (b : List ℕ) → (reply_to s h b ≡ reply_of (is_strict s.held) h b) × HeldBy (run_of (is_strict s.held) h) (lent_after s h).held (lent_after s h).slots
  demand_2_nothing h b = follows s room space [] (rep_idle s.held s.slots room nothing) h b

  completions_are : (h : List (List ℕ)) → completions s h ≡ completed (is_strict s.held) h
  unfolding completions completed
  completions_are [] = refl
  completions_are (b ∷ h) =
      ap (λ (r : Reply). is_complete r.answer + completions s h) (demand_2_nothing h b).0 ∙ ap (λ (m : ℕ). is_complete (reply_of (is_strict s.held) h b).answer + m) (completions_are h)

-- ---- from any lent record: until a piece comes nothing changes, and the first piece begins anew, as it does from an empty record

abbrev blank : Lent → Lent
blank s = record { held = empty_collection s.held.strict 0 0; slots = s.slots; join = s.join }

apart_is_of : (r : Collection) (c n : ℕ) → Apart r c n → is_of r c n ≡ false
unfolding is_of
apart_is_of r c n (inl w) = rw w refl
apart_is_of r c n (inr (inl ne)) = rw (ne_eqb r.count c ne) (and-false (well_made r))
apart_is_of r c n (inr (inr ne)) = rw (ne_eqb r.number n ne, and-false (eqb r.count c)) (and-false (well_made r))

blank_is_of : (st c n : ℕ) → is_of (empty_collection st 0 0) c n ≡ false
unfolding is_of
blank_is_of st c n = rw (blank_nothing st) refl

relation_anew : (r : Collection) (slots b : List ℕ) → is_of r (count_of b) (number_of b) ≡ false → relation_of r slots b ≡ anew
unfolding relation_to
relation_anew r slots b e = rw e refl

-- an accepted body that two records do not hold gives the same from both
step_same : (r r' : Collection) (slots join b : List ℕ) → r.strict ≡ r'.strict → refusal_of (length slots) (length join) b ≡ 0 → is_of r (count_of b) (number_of b) ≡ false → is_of r' (count_of b) (number_of b) ≡ false
    → collect_step r slots join b ≡ collect_step r' slots join b
unfolding collect_step accepted base_of
step_same r r' slots join b z ok e f = rw (ok, relation_anew r slots b e, relation_anew r' slots b f, z) refl

-- a refused body changes nothing
step_refused : (r : Collection) (slots join b : List ℕ) → (body_refusal b ≡ 0 → ⊥) → collect_step r slots join b ≡ after (refused (refusal_of (length slots) (length join) b)) r slots join
unfolding collect_step
step_refused r slots join b e = rw (ne_eqb (refusal_of (length slots) (length join) b) 0 (λ z. e (refusal_of-room (length slots) (length join) b z).2)) refl

module _ (s : Lent) (room : 24000 ≤ length s.slots) (space : 24000 ≤ length s.join) (c : ℕ) (ps : List (List ℕ)) (some : 1 ≤ length ps) (few : length ps ≤ 16)
    (short : (k : ℕ) → k < length ps → length (get_or ps k []) ≤ 1497) (apart : is_of s.held c (length ps) ≡ false) where
  abbrev body : ℕ → List ℕ
  body k = body_of c ps k

  -- nothing has changed yet, or both are the same
  abbrev Alike : List (List ℕ) → Type 0
  Alike h = ((lent_after s h ≡ s) × (lent_after (blank s) h ≡ blank s)) ⊎ (lent_after s h ≡ lent_after (blank s) h)

  accepted_body : (k : ℕ) → k < length ps → refusal_of (length s.slots) (length s.join) (body k) ≡ 0
  unfolding accepts
  accepted_body k l = refusal_of_long (length s.slots) (length s.join) (body k) room space ∙ eqb-true (body_refusal (body k)) 0 (accepts_body c ps some few short k l)

  first : (k : ℕ) → k < length ps → called s (body k) ≡ called (blank s) (body k)
  unfolding body_of
  first k l = step_same s.held (empty_collection s.held.strict 0 0) s.slots s.join (body k) refl (accepted_body k l) apart (blank_is_of s.held.strict c (length ps))

  abbrev lent : After → Lent
  lent a = record { held = a.held; slots = a.slots; join = a.join }

  alike : {h : List (List ℕ)} → Arrived c ps h → Alike h
  unfolding lent_after
  alike none = inl (refl, refl)
  alike (other {h} b e t) = ⊎_elim
      (λ i. inl (
        ap (λ (x : Lent). lent (called x b)) i.0 ∙ ap lent (step_refused s.held s.slots s.join b e),
        ap (λ (x : Lent). lent (called x b)) i.1 ∙ ap lent (step_refused (empty_collection s.held.strict 0 0) s.slots s.join b e),
      ))
      (λ i. inr (ap (λ (x : Lent). lent (called x b)) i)) (alike t)
  alike (piece {h} k l t) = ⊎_elim
      (λ i. inr (ap (λ (x : Lent). lent (called x (body k))) i.0 ∙ ap lent (first k l) ∙ sym (ap (λ (x : Lent). lent (called x (body k))) i.1)))
      (λ i. inr (ap (λ (x : Lent). lent (called x (body k))) i)) (alike t)

  -- so each body is answered alike
  reply-piece : {h : List (List ℕ)} (t : Arrived c ps h) (k : ℕ) → k < length ps → reply_to s h (body k) ≡ reply_to (blank s) h (body k)
  reply-piece t k l = ⊎_elim
      (λ i. ap (λ (x : Lent). told (called x (body k)) (body k)) i.0 ∙ ap (λ (a : After). told a (body k)) (first k l) ∙ sym (ap (λ (x : Lent). told (called x (body k)) (body k)) i.1))
      (λ i. ap (λ (x : Lent). told (called x (body k)) (body k)) i) (alike t)

  reply-other : {h : List (List ℕ)} (t : Arrived c ps h) (b : List ℕ) → (body_refusal b ≡ 0 → ⊥) → (reply_to s h b).answer ≡ (reply_to (blank s) h b).answer
  reply-other t b e = ⊎_elim
      (λ i. ap (λ (x : Lent). (called x b).answer) i.0 ∙ ap (λ (a : After). a.answer) (step_refused s.held s.slots s.join b e)
      ∙ sym (ap (λ (a : After). a.answer) (step_refused (empty_collection s.held.strict 0 0) s.slots s.join b e)) ∙ sym (ap (λ (x : Lent). (called x b).answer) i.1))
      (λ i. ap (λ (x : Lent). (called x b).answer) i) (alike t)

  completions_same : {h : List (List ℕ)} → Arrived c ps h → completions s h ≡ completions (blank s) h
  unfolding completions
  completions_same none = refl
  completions_same (other {h} b e t) =
      ap (λ (a : Said). is_complete a + completions s h) (reply-other t b e) ∙ ap (λ (m : ℕ). is_complete (reply_to (blank s) h b).answer + m) (completions_same t)
  completions_same (piece {h} k l t) =
      ap (λ (a : Reply). is_complete a.answer + completions s h) (reply-piece t k l) ∙ ap (λ (m : ℕ). is_complete (reply_to (blank s) h (body k)).answer + m) (completions_same t)

-- ---- demand 3

lengths_of-at : (ps : List (List ℕ)) (k : ℕ) → get_or (lengths_of ps) k 0 ≡ length (get_or ps k [])
unfolding lengths_of
lengths_of-at [] k = refl
lengths_of-at (q ∷ ps) zero = refl
lengths_of-at (q ∷ ps) (suc k) = lengths_of-at ps k

-- a cutting that passes is good when all its pieces are there
pub whole_good : (strict : Bool) (message : List ℕ) (pieces : List (List ℕ)) → Cutting message pieces → (strict ≡ true → Passes message pieces)
    → judged strict (λ k. full (get_or pieces k [])) (length pieces) ≡ all_good
unfolding judged
whole_good false msg ps cut passes = refl
whole_good true msg ps cut passes =
    let n = length ps in
    let p : ℕ → List ℕ = λ k. get_or ps k [] in
    let m = message-whole p (λ k. full (p k)) n (λ k q. refl) ∙ whole-all ps ∙ cut.whole in
    rw m (cuts_in_same msg (lengths_to (λ k. full (p k)) n) (lengths_of ps) n (λ j q. lengths_to-at (λ k. full (p k)) n j q ∙ sym (lengths_of-at ps j)) ∙ cuts_in_good msg (lengths_of ps) n (passes refl))

pub demand_3 : (s : Lent) → 24000 ≤ length s.slots → 24000 ≤ length s.join → (count : ℕ) (message : List ℕ) (pieces : List (List ℕ)) → Cutting message pieces
    → (is_strict s.held ≡ true → Passes message pieces) → Apart s.held count (length pieces) → Demand3 s count message pieces
demand_3 s room space c msg ps cut passes apart =
    let g = whole_good (is_strict s.held) msg ps cut passes in
    let a = apart_is_of s.held c (length ps) apart in
    record {
      silent = λ {h} t k l f. completions_same s room space c ps cut.some cut.few cut.short a t
          ∙ completions_are (blank s) room space (blank_nothing s.held.strict) h ∙ silent c ps cut.some cut.few cut.short (is_strict s.held) g t k l f;
      once = λ {h} t f. completions_same s room space c ps cut.some cut.few cut.short a t
          ∙ completions_are (blank s) room space (blank_nothing s.held.strict) h ∙ once c ps cut.some cut.few cut.short (is_strict s.held) g t f;
      last = λ {h} t k l f e. reply-piece s room space c ps cut.some cut.few cut.short a t k l
          ∙ (demand_2_nothing (blank s) room space (blank_nothing s.held.strict) h (body_of c ps k)).0
          ∙ last-reply c ps cut.some cut.few cut.short (is_strict s.held) g t k l f e
          ∙ rw (whole-all ps, cut.whole) refl;
    }
