-- Demand 2: one step of the collector answers and holds what the runs say (specs/Runs.antt).
--
--   step                 from a record that has a run, a body gives the run's answer and a record that has the next run
-- Trusts: nothing.
use Prim.Native.Nat.{ℕ, ◌≤◌}
use mathlib.Core.Path.{◌≡◌, refl, ap, ◌∙◌}
use mathlib.Core.Bool.{Bool, true, false, cond, ◌&&◌}
use mathlib.Core.List.{List, [], ◌∷◌}
use native.Mathlib.Omega.{arith}
use borrow.Author.Tests.{eqb-true, le-ltb}
use lib.ListN.{length, get_or}
use lib.Dec.{eqb}
use Rattle.compare.specs.Compare.{same_bytes}
use Rattle.compare.proofs.Laws.{same_bytes_true}
use Rattle.collector.specs.Answers.{refused, lent_of}
use Rattle.collection.specs.Record.{empty_collection}
use Rattle.held.specs.Held.{is_filled, well_made, is_of}
use Rattle.body_tests.specs.Refusals.{count_of, number_of, slot_of, piece_of, body_refusal, refusal_of, Fits}
use Rattle.relation.specs.Relation.{goes_on, repeats, anew, relation_to}
use Rattle.collector.specs.Step.{relation_of, base_of, after, accepted, collect_step}
use Rattle.collection.specs.declared.Collection.{Collection}
use Rattle.body_tests.proofs.Laws.{fits_of}
use Rattle.collector_demands.specs.Runs.{Slot, empty, full, is_full, bytes_of, accepts, lookup, takes, continues, next_run}
use Rattle.collector_demands.specs.Runs.{reply, answer_to}
use Rattle.collector_demands.proofs.Holds.{Has, Slots, put_same, none-held}
use Rattle.collector_demands.proofs.Stored.{Rep, idle, busy, rep_room, Tracks, strictly, stored_tracks}

module _ (st : ℕ) (b : List ℕ) (fit : Fits b) (join : List ℕ) where
  -- the three ways a body that is not refused goes
  abbrev Goal : List (List ℕ) → Collection → List ℕ → Type 0
  Goal run r slots = Tracks st (next_run (strictly st) run b) (answer_to (strictly st) run b) (accepted r slots join b) b

  starts : (run : List (List ℕ)) (r : Collection) (slots : List ℕ) → 24000 ≤ length slots → r.strict ≡ st → continues run b ≡ false → relation_of r slots b ≡ anew → Goal run r slots
  unfolding accepted base_of
  starts run r slots room z e f =
      rw (e, f) (stored_tracks st b fit join [] (empty_collection r.strict (count_of b) (number_of b)) slots (none-held r.strict (count_of b) (number_of b) slots room) refl refl z)

  more : (run : List (List ℕ)) (r : Collection) (slots : List ℕ) → Slots run r slots → r.count ≡ count_of b → r.number ≡ number_of b → r.strict ≡ st
      → continues run b ≡ true → lookup run (slot_of b) ≡ empty → relation_of r slots b ≡ goes_on → Goal run r slots
  unfolding accepted base_of
  more run r slots s c n z e g f = rw (e, g, f) (stored_tracks st b fit join run r slots s c n z)

  comes_again : (run : List (List ℕ)) (r : Collection) (slots : List ℕ) → Slots run r slots → r.count ≡ count_of b → r.number ≡ number_of b → r.strict ≡ st
      → well_made r ≡ true → continues run b ≡ true → lookup run (slot_of b) ≡ full (piece_of b) → relation_of r slots b ≡ repeats → Goal run r slots
  unfolding accepted lent_of
  comes_again run r slots s c n z w e g f = rw (e, g, f) (record { rep = busy b run r slots (put_same b run r slots s g) c n w z; reply_is = refl })

  module _ (x : List ℕ) (xs : List (List ℕ)) (r : Collection) (slots : List ℕ)
      (s : Slots (x ∷ xs) r slots) (c : r.count ≡ count_of x) (n : r.number ≡ number_of x) (w : well_made r ≡ true) (z : r.strict ≡ st) where
    -- what the run has in the body's slot; is the body of the record's count and number
    abbrev there : Slot
    there = lookup (x ∷ xs) (slot_of b)

    abbrev same_count : Bool
    same_count = eqb r.count (count_of b)

    abbrev same_number : Bool
    same_number = eqb r.number (number_of b)

    -- the relation and the run's own test go by the same four tests
    cont : continues (x ∷ xs) b ≡ (same_count && (same_number && takes there (piece_of b)))
    unfolding continues
    cont = rw (c, n) refl

    at_slot : Has there r.number r slots (slot_of b)
    at_slot = s.each (slot_of b) (omega arith)

    filled_is : (l : Slot) (flag : ℕ) → flag ≡ cond (is_full l) 1 0 → is_filled flag ≡ is_full l
    filled_is empty flag e = rw e refl
    filled_is (full p) flag e = rw e refl

    rel : relation_of r slots b ≡ cond (same_count && same_number) (cond (is_full there) (cond (same_bytes (bytes_of there) (piece_of b)) repeats anew) goes_on) anew
    unfolding relation_to is_of
    rel = rw (w, filled_is there (get_or r.filled (slot_of b) 0) at_slot.has.flag, at_slot.has.bytes) refl

    busy_goal : Goal (x ∷ xs) r slots
    busy_goal = go same_count refl same_number refl there refl where
      last : (q : List ℕ) (t : Bool) → same_bytes q (piece_of b) ≡ t → same_count ≡ true → same_number ≡ true → there ≡ full q → Goal (x ∷ xs) r slots
      last q true e d f g =
          let held = g ∙ ap full (same_bytes_true q (piece_of b) e) in
          comes_again (x ∷ xs) r slots s (eqb-true _ _ d) (eqb-true _ _ f) z w (cont ∙ rw (d, f, g) e) held (rel ∙ rw (d, f, g, e) refl)
      last q false e d f g = starts (x ∷ xs) r slots s.room z (cont ∙ rw (d, f, g) e) (rel ∙ rw (d, f, g, e) refl)

      go : (t : Bool) → same_count ≡ t → (u : Bool) → same_number ≡ u → (l : Slot) → there ≡ l → Goal (x ∷ xs) r slots
      go false d u f l g = starts (x ∷ xs) r slots s.room z (cont ∙ rw d refl) (rel ∙ rw d refl)
      go true d false f l g = starts (x ∷ xs) r slots s.room z (cont ∙ rw (d, f) refl) (rel ∙ rw (d, f) refl)
      go true d true f empty g = more (x ∷ xs) r slots s (eqb-true _ _ d) (eqb-true _ _ f) z (cont ∙ rw (d, f, g) refl) g (rel ∙ rw (d, f, g) refl)
      go true d true f (full q) g = last q (same_bytes q (piece_of b)) refl d f g

  any_goal : (run : List (List ℕ)) (r : Collection) (slots : List ℕ) → Rep st run r slots → Goal run r slots
  unfolding continues relation_to is_of
  any_goal run rr ss (idle r slots room w z) = starts [] r slots room z refl (rw w refl)
  any_goal run rr ss (busy x xs r slots s c n w z) = busy_goal x xs r slots s c n w z

-- ---- one step

-- with buffers that are long enough the body's own tests decide
pub refusal_of_long : (slots join : ℕ) (b : List ℕ) → 24000 ≤ slots → 24000 ≤ join → refusal_of slots join b ≡ body_refusal b
unfolding refusal_of
refusal_of_long slots join b h k = simp (le-ltb slots 24000 h, le-ltb join 24000 k)

-- from a record that has a run
pub step : (st : ℕ) (run : List (List ℕ)) (b : List ℕ) (r : Collection) (slots join : List ℕ) → 24000 ≤ length join → Rep st run r slots
    → Tracks st (cond (accepts b) (next_run (strictly st) run b) run) (cond (accepts b) (answer_to (strictly st) run b) (reply (refused (body_refusal b)) [])) (collect_step r slots join b) b
unfolding collect_step accepts lent_of
step st run b r slots join k rep = rw (refusal_of_long (length slots) (length join) b (rep_room st run r slots rep) k) (go (eqb (body_refusal b) 0) refl) where
  go : (t : Bool) → eqb (body_refusal b) 0 ≡ t → Tracks st (cond t (next_run (strictly st) run b) run) (cond t (answer_to (strictly st) run b) (reply (refused (body_refusal b)) []))
      (cond t (accepted r slots join b) (after (refused (body_refusal b)) r slots join)) b
  go true e = any_goal st b (fits_of b (eqb-true _ _ e)) join run r slots rep
  go false e = record { rep = rep; reply_is = refl }
