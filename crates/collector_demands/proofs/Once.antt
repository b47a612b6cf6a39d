-- Demand 3 over the runs: a cut message completes exactly once, at the arrival of the last piece missing, and what is lent then is the message.
--
--   completed          how often a history completed, by the runs; counted: once where no piece is missing
--   once, silent, last-reply     the three claims of Demand3, of `reply_of`
-- Trusts: nothing.
use Prim.Native.Nat.{ℕ, suc, ◌+◌, ◌<◌, ◌≤◌}
use mathlib.Core.Path.{◌≡◌, refl, sym, ap, ◌∙◌}
use mathlib.Core.Bool.{Bool, true, false, cond}
use mathlib.Core.List.{List, [], ◌∷◌}
use mathlib.Core.Logic.{⊎_elim}
use native.Mathlib.Omega.{arith}
use borrow.Author.Tests.{eqb-true, eqb-false, ne_eqb}
use lib.ListN.{length, get_or}
use lib.Dec.{eqb}
use Rattle.cuts.specs.Cuts.{Ruling, all_good}
use Rattle.collector.specs.Answers.{again, waiting, complete}
use Rattle.collector_demands.specs.Runs.{Slot, empty, full, is_full, accepts, lookup, missing, message, judged, reply, reply_by, stored_reply, reply_from, reply_of}
use Rattle.collector_demands.specs.Demand.{is_complete, body_of, Arrived, none, other, piece, Came}
use Rattle.collector_demands.proofs.Missing.{missing_same, missing_less, missing-some, missing-none, missing-all, whole_to, message-whole}
use Rattle.collector_demands.proofs.Came.{came_all, headed, good, came, not_came, at_same, at_other, full-on, empty-on, accepts_body, refuses, judged_good, goes_on_lem, run_is}

abbrev is_zero : ℕ → ℕ
is_zero m = cond (eqb m 0) 1 0

complete_or : (t : Bool) (v : Ruling) (m : List ℕ) (w : ℕ) → (t ≡ true → v ≡ all_good) → is_complete (cond t (reply_by v m) (reply (waiting w) [])).answer ≡ cond t 1 0
complete_or true v m w g = rw (g refl) refl
complete_or false v m w g = refl

-- how often a history completed, by the runs
unfoldable pub completed : Bool → List (List ℕ) → ℕ
completed strict [] = 0
completed strict (b ∷ h) = is_complete (reply_of strict h b).answer + completed strict h

module _ (c : ℕ) (ps : List (List ℕ)) where
  abbrev n : ℕ
  n = length ps

  abbrev p : ℕ → List ℕ
  p k = get_or ps k []

  abbrev body : ℕ → List ℕ
  body k = body_of c ps k

  -- the slots of what came, and those with one piece more
  abbrev Has : {h : List (List ℕ)} → Arrived c ps h → ℕ → Slot
  Has t = lookup (came_all c ps t)

  abbrev With : {h : List (List ℕ)} → Arrived c ps h → ℕ → ℕ → Slot
  With t k = lookup (body k ∷ came_all c ps t)

  with_same : {h : List (List ℕ)} (t : Arrived c ps h) (k : ℕ) → With t k k ≡ full (p k)
  with_same t k = at_same c ps (came_all c ps t) k

  with_other : {h : List (List ℕ)} (t : Arrived c ps h) (k j : ℕ) → (j ≡ k → ⊥) → With t k j ≡ Has t j
  with_other t k j ne = at_other c ps (came_all c ps t) k j ne

  module _ (some : 1 ≤ n) (few : n ≤ 16) (short : (k : ℕ) → k < n → length (p k) ≤ 1497) (strict : Bool) (passes : judged strict (λ k. full (p k)) n ≡ all_good) where
    -- with one piece more and none missing, the cuts are those of the whole
    with_good : {h : List (List ℕ)} (t : Arrived c ps h) (k : ℕ) → k < n → missing (With t k) n ≡ 0 → judged strict (With t k) n ≡ all_good
    unfolding came_all
    with_good t k l z = judged_good c ps some few short strict passes (With t k) (good c ps (piece k l t)) z

    new_reply : {h : List (List ℕ)} (t : Arrived c ps h) (k : ℕ) → k < n → Has t k ≡ empty → reply_of strict h (body k) ≡ stored_reply strict (body k ∷ came_all c ps t) n
    unfolding reply_from body_of
    new_reply t k l g = simp (accepts_body c ps some few short k l, run_is c ps some few short strict passes t, empty-on c ps (came_all c ps t) k g, goes_on_lem c ps t k)

    again-reply : {h : List (List ℕ)} (t : Arrived c ps h) (k : ℕ) → k < n → Has t k ≡ full (p k) → reply_of strict h (body k) ≡ reply again []
    unfolding reply_from
    again-reply t k l g = simp (accepts_body c ps some few short k l, run_is c ps some few short strict passes t, full-on c ps (came_all c ps t) k (headed c ps t) g)

    -- a piece that came already adds no completion, and one that did not adds one where it is the last
    counted_again : {h : List (List ℕ)} (t : Arrived c ps h) (k : ℕ) → k < n → Has t k ≡ full (p k) → completed strict h ≡ is_zero (missing (Has t) n)
        → completed strict (body k ∷ h) ≡ is_zero (missing (With t k) n)
    unfolding completed
    counted_again t k l g o =
        let m : missing (Has t) n ≡ missing (With t k) n = missing_same (Has t) (With t k) n (λ j q. same j (eqb j k) refl) in
        rw (again-reply t k l g, o, m) (omega arith) where
          same : (j : ℕ) (u : Bool) → eqb j k ≡ u → Has t j ≡ With t k j
          same j true e = rw (eqb-true j k e, with_same t k) g
          same j false e = sym (with_other t k j (eqb-false j k e))

    counted_new : {h : List (List ℕ)} (t : Arrived c ps h) (k : ℕ) → k < n → Has t k ≡ empty → completed strict h ≡ is_zero (missing (Has t) n)
        → completed strict (body k ∷ h) ≡ is_zero (missing (With t k) n)
    unfolding completed
    counted_new t k l g o =
        let x = missing (With t k) n in
        let m : suc x ≡ missing (Has t) n =
        missing_less (Has t) (With t k) k g (ap is_full (with_same t k)) (λ j ne. sym (with_other t k j ne)) n l in
        let z : is_zero (missing (Has t) n) ≡ 0 = rw (← m, ne_eqb (suc x) 0 (λ e. omega arith)) refl in
        rw (new_reply t k l g) (omega (arith, complete_or (eqb x 0) (judged strict (With t k) n) (message (With t k) n) x (λ e. with_good t k l (eqb-true x 0 e))))

    silent-other : (b : List ℕ) (h : List (List ℕ)) → accepts b ≡ false → completed strict (b ∷ h) ≡ completed strict h
    unfolding completed reply_from
    silent-other b h e = rw e (omega arith)

    -- completed where no piece is missing
    counted : {h : List (List ℕ)} (t : Arrived c ps h) → completed strict h ≡ is_zero (missing (Has t) n)
    unfolding came_all completed
    counted none = rw (missing-all n, ne_eqb n 0 (λ e. omega arith)) refl
    counted (other {h} b e t) = silent-other b h (refuses b e) ∙ counted t
    counted (piece k l t) = ⊎_elim (λ g. counted_new t k l g (counted t)) (λ g. counted_again t k l g (counted t)) (good c ps t k)

    -- ---- the three claims

    pub silent : {h : List (List ℕ)} (t : Arrived c ps h) (k : ℕ) → k < n → (Came k t → ⊥) → completed strict h ≡ 0
    silent t k l a =
        let m = missing-some (Has t) k (not_came c ps k t a) n l in
        counted t ∙ rw (ne_eqb (missing (Has t) n) 0 (λ e. omega arith)) refl

    pub once : {h : List (List ℕ)} (t : Arrived c ps h) → ((k : ℕ) → k < n → Came k t) → completed strict h ≡ 1
    once t a = counted t ∙ rw (missing-none (Has t) n (λ k l. rw (came c ps k t (a k l)) refl)) refl

    pub last-reply : {h : List (List ℕ)} (t : Arrived c ps h) (k : ℕ) → k < n → (Came k t → ⊥) → ((j : ℕ) → j < n → (j ≡ k → ⊥) → Came j t)
        → reply_of strict h (body k) ≡ reply (complete (length (whole_to p n))) (whole_to p n)
    last-reply t k l g a =
        let z : missing (With t k) n ≡ 0 = missing-none (With t k) n (λ j q. rw (held j q (eqb j k) refl) refl) in
        new_reply t k l (not_came c ps k t g) ∙ rw (z, with_good t k l z, message-whole p (With t k) n (λ j q. held j q (eqb j k) refl)) refl where
          held : (j : ℕ) → j < n → (u : Bool) → eqb j k ≡ u → With t k j ≡ full (p j)
          held j q true e = rw (eqb-true j k e) (with_same t k)
          held j q false e = with_other t k j (eqb-false j k e) ∙ came c ps j t (a j q (eqb-false j k e))
