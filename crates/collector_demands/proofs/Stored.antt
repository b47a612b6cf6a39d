-- A piece that is stored and noted: what `finished` leaves and tells, as the runs have it (specs/Runs.antt).
--
--   Rep st run r slots   the record and the slot buffer have the run and the setting, in the form that the proofs use
--   rep_held             such a record holds the run in the words of specs/Runs.antt
--   Tracks               a step's answer is the run's, and what it leaves has the next run
--   stored_tracks        so of a piece that goes on with a run or starts one: it waits, completes, or is dropped
--   finished-held        what is finished and complete holds the record that it was given
-- Trusts: nothing.
use Prim.Native.Nat.{ℕ, ◌*◌, ◌-◌, ◌≤◌}
use mathlib.Core.Path.{◌≡◌, refl, sym, ap, ◌∙◌}
use mathlib.Core.Bool.{Bool, true, false, cond, not}
use mathlib.Core.List.{List, [], ◌∷◌, ◌++◌}
use native.Mathlib.Omega.{arith}
use borrow.Author.Tests.{eqb-true}
use lib.ListN.{length, drop, length-drop}
use lib.Seq.{take-append_seam}
use lib.Dec.{eqb}
use Rattle.wire.specs.Bytes.{pasted}
use Rattle.collector.specs.Answers.{waiting, complete, lent_of}
use Rattle.collection.specs.Record.{empty_collection, is_strict}
use Rattle.held.specs.Held.{empty_slots, sound_to, well_made}
use Rattle.joining.specs.Pieces.{joined}
use Rattle.body_tests.specs.Refusals.{count_of, number_of, slot_of, piece_of, Fits}
use Rattle.collector.specs.Step.{noted, After, after, Settled, settled_by, settled, finished}
use Rattle.collection.specs.declared.Collection.{Collection}
use Rattle.collector_demands.specs.Runs.{bytes_of, lookup, missing, message, lengths_to, judged, run_by, settled_run}
use Rattle.collector_demands.specs.Runs.{Reply, reply, reply_by, stored_reply, HeldBy, nothing, these}
use Rattle.cuts.specs.Cuts.{Ruling, all_good, bad_at, cuts_in}
use Rattle.cuts.proofs.Says.{cuts_in_same, cuts_in_one}
use Rattle.collector_demands.specs.Demand.{told}
use Rattle.collector_demands.proofs.Holds.{Slots, put, lookup-own, well, missing_is, message_is, lengths_is}

-- with this setting
pub data Rep (st : ℕ) : List (List ℕ) → Collection → List ℕ → Type 0 where
  idle : (r : Collection) (slots : List ℕ) → 24000 ≤ length slots → well_made r ≡ false → r.strict ≡ st → Rep st [] r slots
  busy : (x : List ℕ) (xs : List (List ℕ)) (r : Collection) (slots : List ℕ) → Slots (x ∷ xs) r slots → r.count ≡ count_of x → r.number ≡ number_of x → well_made r ≡ true
      → r.strict ≡ st → Rep st (x ∷ xs) r slots

pub rep_room : (st : ℕ) (run : List (List ℕ)) (r : Collection) (slots : List ℕ) → Rep st run r slots → 24000 ≤ length slots
rep_room st run rr ss (idle r slots room w z) = room
rep_room st run rr ss (busy x xs r slots s c n w z) = s.room

pub rep_held : (st : ℕ) (run : List (List ℕ)) (r : Collection) (slots : List ℕ) → Rep st run r slots → HeldBy run r slots
rep_held st run rr ss (idle r slots room w z) = nothing r slots w
rep_held st run rr ss (busy x xs r slots s c n w z) = these x xs r slots w c n (λ k q. (s.each k q).has)

pub record Tracks (st : ℕ) (run : List (List ℕ)) (a : Reply) (R : After) (b : List ℕ) : Type 0 where
  pub rep : Rep st run R.held R.slots
  pub reply_is : told R b ≡ a

-- whether a setting is strict
abbrev pub strictly : ℕ → Bool
strictly st = not (eqb st 0)

-- a record with nothing collected
pub blank_nothing : (st : ℕ) → well_made (empty_collection st 0 0) ≡ false
unfolding well_made sound_to empty_slots
blank_nothing st = refl

-- ---- what `finished` leaves and tells

-- the slots that are empty, and the message of those that are filled
abbrev lacking : Collection → ℕ
lacking next = empty_slots next.filled next.number

abbrev whole : Collection → List ℕ → List ℕ
whole next slots = joined slots next.lengths next.number

-- by its two tests: none empty, and the number 1; and by what a message of several pieces comes to
abbrev ways : Collection → List ℕ → List ℕ → ℕ → Settled → Bool → Bool → After
ways next slots join len s t u =
    cond t
    (cond u (after (complete len) next slots join) (after s.answer s.held slots (whole next slots ++ drop (length (whole next slots)) join)))
    (after (waiting (lacking next)) next slots join)

module _ (st : ℕ) (b : List ℕ) (fit : Fits b) (join : List ℕ) where
  -- the piece is stored and noted in a record that then has the run
  module _ (run : List (List ℕ)) (next : Collection) (slots : List ℕ) (busy' : Rep st (b ∷ run) next slots) (setting : next.strict ≡ st)
      (n-is : next.number ≡ number_of b) (lack-is : lacking next ≡ missing (lookup (b ∷ run)) (number_of b)) (whole_is : whole next slots ≡ message (lookup (b ∷ run)) (number_of b))
      (cuts-is : cuts_in (whole next slots) next.lengths next.number ≡ cuts_in (message (lookup (b ∷ run)) (number_of b)) (lengths_to (lookup (b ∷ run)) (number_of b)) (number_of b))
      (one : next.number ≡ 1 → piece_of b ≡ whole next slots) (room : 24000 ≤ length slots) where
    abbrev verdict : Ruling
    verdict = judged (strictly st) (lookup (b ∷ run)) (number_of b)

    abbrev Goal' : After → Bool → Ruling → Type 0
    Goal' R t v = Tracks st (cond t (run_by v (b ∷ run)) (b ∷ run))
        (cond t (reply_by v (message (lookup (b ∷ run)) (number_of b))) (reply (waiting (missing (lookup (b ∷ run)) (number_of b))) [])) R b

    settled_is : settled next (whole next slots) ≡ settled_by verdict next (whole next slots)
    unfolding settled judged
    settled_is = rw (setting, cuts-is) refl

    -- a message of one piece is the body's, and has no cut
    alone : eqb next.number 1 ≡ true → Goal' (after (complete (length b - 3)) next slots join) true verdict
    unfolding judged lent_of
    alone e =
        let f : piece_of b ≡ whole next slots = one (eqb-true next.number 1 e) in
        let g : verdict ≡ all_good = none (strictly st) in
        rw g (record { rep = busy'; reply_is = rw (e, ← length-drop 3 b, f, whole_is) refl }) where
          none : (t : Bool) → cond t (cuts_in (message (lookup (b ∷ run)) (number_of b)) (lengths_to (lookup (b ∷ run)) (number_of b)) (number_of b)) all_good ≡ all_good
          none true = cuts_in_one _ _ _ (omega (arith, eqb-true next.number 1 e))
          none false = refl

    -- a message of several pieces is joined, and lent or dropped
    several : eqb next.number 1 ≡ false → (v : Ruling) → Goal' (after (settled_by v next (whole next slots)).answer (settled_by v next (whole next slots)).held slots (whole next slots ++ drop (length (whole next slots)) join)) true v
    unfolding lent_of
    several e all_good = record { rep = busy'; reply_is = rw (e, take-append_seam (whole next slots) (drop (length (whole next slots)) join), whole_is) refl }
    several e (bad_at cut) = record { rep = idle (empty_collection next.strict 0 0) slots room (blank_nothing next.strict) setting; reply_is = refl }

    stored-after : Tracks st (settled_run (strictly st) (b ∷ run) (number_of b)) (stored_reply (strictly st) (b ∷ run) (number_of b)) (finished next slots join (length b - 3)) b
    unfolding finished settled_run lent_of
    stored-after = rw (settled_is, lack-is) (go (eqb (missing (lookup (b ∷ run)) (number_of b)) 0) (eqb next.number 1) refl) where
      go : (t u : Bool) → eqb next.number 1 ≡ u → Goal' (cond t
          (cond u (after (complete (length b - 3)) next slots join)
          (after (settled_by verdict next (whole next slots)).answer (settled_by verdict next (whole next slots)).held slots (whole next slots ++ drop (length (whole next slots)) join)))
          (after (waiting (missing (lookup (b ∷ run)) (number_of b))) next slots join)) t verdict
      go true true e = alone e
      go true false e = several e verdict
      go false u e = record { rep = busy'; reply_is = refl }

  pub stored_tracks : (run : List (List ℕ)) (base : Collection) (slots : List ℕ) → Slots run base slots → base.count ≡ count_of b → base.number ≡ number_of b → base.strict ≡ st
      → Tracks st (settled_run (strictly st) (b ∷ run) (number_of b)) (stored_reply (strictly st) (b ∷ run) (number_of b))
      (finished (noted base (slot_of b) (length b - 3)) (pasted slots (slot_of b * 1500) (piece_of b)) join (length b - 3)) b
  unfolding joined
  stored_tracks run base slots s c n z =
      let S = put b fit run base slots n s in
      let nx = noted base (slot_of b) (length b - 3) in
      let ps = pasted slots (slot_of b * 1500) (piece_of b) in
      let own = lookup-own b run in
      let wm : well_made nx ≡ true = well (b ∷ run) nx ps S (omega arith) (slot_of b) (omega arith) (rw own refl) in
      let one : (nx.number ≡ 1 → piece_of b ≡ joined ps nx.lengths nx.number) = λ e.
      let z : slot_of b ≡ 0 = omega arith in
      rw e (sym ((S.each 0 (omega arith)).has.bytes ∙ ap bytes_of (ap (lookup (b ∷ run)) (sym z) ∙ own))) in
      let m = message_is (b ∷ run) nx ps S nx.number (omega arith) in
      stored-after run nx ps (busy b run nx ps S c n wm z) z n
      (missing_is (b ∷ run) nx ps S nx.number (omega arith) ∙ ap (missing (lookup (b ∷ run))) n)
      (m ∙ ap (message (lookup (b ∷ run))) n)
      (cuts_in_same (joined ps nx.lengths nx.number) nx.lengths (lengths_to (lookup (b ∷ run)) nx.number) nx.number (lengths_is (b ∷ run) nx ps S nx.number (omega arith))
      ∙ rw (m, n) refl)
      one S.room

pub finished-held : (next : Collection) (slots join : List ℕ) (len : ℕ) {n : ℕ} → (finished next slots join len).answer ≡ complete n → (finished next slots join len).held ≡ next
unfolding finished settled
finished-held next slots join len {n} = go (eqb (lacking next) 0) (eqb next.number 1) (cond (is_strict next) (cuts_in (whole next slots) next.lengths next.number) all_good) where
  R : Bool → Bool → Ruling → After
  R t u v = ways next slots join len (settled_by v next (whole next slots)) t u

  go : (t u : Bool) (v : Ruling) → (R t u v).answer ≡ complete n → (R t u v).held ≡ next
  go true true v e = refl
  go true false all_good e = refl
  go true false (bad_at cut) e = absurd (let z : ◌≡◌ {A = ℕ} 0 1 = cc in omega arith)
  go false u v e = refl
