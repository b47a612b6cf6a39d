-- The loose setting is document 01's collector as it was before document 02, Req 04 (specs/Runs.antt): no cut is judged.
--
--   loose_run      a body goes on with the run, or starts one; a refused one changes nothing
--   loose_reply    Repeat; else Waiting while a slot is empty, and then Complete with the message
-- Trusts: nothing.
use Prim.Native.Nat.{ℕ}
use mathlib.Core.Path.{◌≡◌, refl}
use mathlib.Core.Bool.{Bool, true, false, cond, ◌&&◌}
use mathlib.Core.List.{List, [], ◌∷◌}
use lib.ListN.{length}
use lib.Dec.{eqb}
use Rattle.collector.specs.Answers.{refused, again, waiting, complete}
use Rattle.body_tests.specs.Refusals.{number_of, slot_of, body_refusal}
use Rattle.collector_demands.specs.Runs.{is_full, accepts, lookup, continues, missing, message, judged, settled_run, stored, repeated, run_from, reply, reply_from}

settled_same : (run : List (List ℕ)) (n : ℕ) → settled_run false run n ≡ run
unfolding settled_run judged
settled_same run n = go (eqb (missing (lookup run) n) 0) where
  go : (t : Bool) → cond t run run ≡ run
  go true = refl
  go false = refl

module _ (start h : List (List ℕ)) (b : List ℕ) where
  abbrev before : List (List ℕ)
  before = run_from false start h

  -- a repeat goes on with the run too
  pub loose_run : run_from false start (b ∷ h) ≡ cond (accepts b) (cond (continues before b) (b ∷ before) (b ∷ [])) before
  unfolding run_from
  loose_run = rw (settled_same (stored before b) (number_of b)) (go (continues before b) (is_full (lookup before (slot_of b)))) where
    go : (t u : Bool) → cond (accepts b) (cond (t && u) (b ∷ before) (cond t (b ∷ before) (b ∷ []))) before ≡ cond (accepts b) (cond t (b ∷ before) (b ∷ [])) before
    go true true = refl
    go true false = refl
    go false u = refl

  pub loose_reply : reply_from false start h b ≡ (let now = lookup (stored before b) in let n = number_of b in
      cond (accepts b)
      (cond (repeated before b) (reply again [])
      (cond (eqb (missing now n) 0) (reply (complete (length (message now n))) (message now n)) (reply (waiting (missing now n)) [])))
      (reply (refused (body_refusal b)) []))
  unfolding reply_from judged
  loose_reply = refl
