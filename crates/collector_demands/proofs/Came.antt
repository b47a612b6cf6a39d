-- Demand 3's arrivals over the runs: whatever the order, the repeats and the refused bodies between, the run of a history is the pieces of the
-- cut message that came.
--
--   came_all t          the pieces that came, newest first; run_is: they are the run
--   good               each slot is empty or has its piece; came, not_came: which of the two
--   at_same, at_other  what the slots have with one piece more
--   full-on, empty-on  whether a piece came already
-- Trusts: nothing.
use Prim.Native.Nat.{ℕ, suc, ◌<◌, ◌≤◌}
use mathlib.Core.Path.{◌≡◌, refl, sym, ◌∙◌}
use mathlib.Core.Bool.{Bool, true, false, cond, ◌&&◌, and-false}
use mathlib.Core.List.{List, [], ◌∷◌}
use mathlib.Core.Logic.{◌⊎◌, inl, inr, ⊎_elim}
use native.Mathlib.Omega.{arith}
use borrow.Author.Tests.{eqb-true, eqb-false, eq-eqb, ne_eqb, le-ltb}
use lib.ListN.{length, get_or}
use lib.Dec.{eqb}
use Rattle.cuts.specs.Cuts.{all_good}
use Rattle.compare.proofs.Laws.{same_bytes_refl}
use Rattle.body_tests.specs.Refusals.{count_of, number_of, slot_of, body_refusal}
use Rattle.collector_demands.specs.Runs.{Slot, empty, full, is_full, accepts, lookup, takes, continues, missing, judged, run_by, settled_run, stored, repeated, run_from, run_of}
use Rattle.collector_demands.proofs.Missing.{missing-zero, judged_same}
use Rattle.collector_demands.specs.Demand.{body_of, Arrived, none, other, piece, Came}

pub refuses : (b : List ℕ) → (body_refusal b ≡ 0 → ⊥) → accepts b ≡ false
unfolding accepts
refuses b e = ne_eqb (body_refusal b) 0 e

module _ (c : ℕ) (ps : List (List ℕ)) where
  abbrev n : ℕ
  n = length ps

  abbrev p : ℕ → List ℕ
  p k = get_or ps k []

  abbrev body : ℕ → List ℕ
  body k = body_of c ps k

  pub data Headed : List (List ℕ) → Type 0 where
    nil : Headed []
    hd : (x : List ℕ) (xs : List (List ℕ)) → count_of x ≡ c → number_of x ≡ n → Headed (x ∷ xs)

  slot_body : (k : ℕ) → slot_of (body k) ≡ k
  unfolding body_of
  slot_body k = omega arith

  takes_good : (s : Slot) (q : List ℕ) → (s ≡ empty) ⊎ (s ≡ full q) → takes s q ≡ true
  takes_good s q = ⊎_elim (λ e. rw e refl) (λ e. rw e (same_bytes_refl q))

  -- a piece goes on with a run of pieces
  on : (x : List ℕ) (xs : List (List ℕ)) (k : ℕ) → count_of x ≡ c → number_of x ≡ n → (lookup (x ∷ xs) k ≡ empty) ⊎ (lookup (x ∷ xs) k ≡ full (p k)) → continues (x ∷ xs) (body k) ≡ true
  unfolding continues body_of
  on x xs k e f g = simp (eq-eqb (count_of x) c e, eq-eqb (number_of x) n f, slot_body k) (takes_good (lookup (x ∷ xs) k) (p k) g)

  -- so it is added to the run, which may be none
  goes : (run : List (List ℕ)) (k : ℕ) → Headed run → (lookup run k ≡ empty) ⊎ (lookup run k ≡ full (p k)) → cond (continues run (body k)) (body k ∷ run) (body k ∷ []) ≡ body k ∷ run
  unfolding continues
  goes run k nil g = refl
  goes run k (hd x xs e f) g = rw (on x xs k e f g) refl

  -- where its slot is full already, it came again
  full_hd : (x : List ℕ) (xs : List (List ℕ)) (k : ℕ) → count_of x ≡ c → number_of x ≡ n → lookup (x ∷ xs) k ≡ full (p k)
      → (continues (x ∷ xs) (body k) && is_full (lookup (x ∷ xs) (slot_of (body k)))) ≡ true
  full_hd x xs k e f g = simp (on x xs k e f (inr g), slot_body k, g)

  pub full-on : (run : List (List ℕ)) (k : ℕ) → Headed run → lookup run k ≡ full (p k) → (continues run (body k) && is_full (lookup run (slot_of (body k)))) ≡ true
  unfolding lookup
  full-on run k nil g = let z : ◌≡◌ {A = ℕ} 0 1 = cc in absurd (omega arith)
  full-on run k (hd x xs e f) g = full_hd x xs k e f g

  pub empty-on : (run : List (List ℕ)) (k : ℕ) → lookup run k ≡ empty → (continues run (body k) && is_full (lookup run (slot_of (body k)))) ≡ false
  empty-on run k g = rw (slot_body k, g) (and-false (continues run (body k)))

  -- what the run has with the piece
  pub at_same : (run : List (List ℕ)) (k : ℕ) → lookup (body k ∷ run) k ≡ full (p k)
  unfolding lookup body_of
  at_same run k = rw (slot_body k, eq-eqb k k refl) refl

  pub at_other : (run : List (List ℕ)) (k j : ℕ) → (j ≡ k → ⊥) → lookup (body k ∷ run) j ≡ lookup run j
  unfolding lookup
  at_other run k j ne = rw (slot_body k, ne_eqb k j (λ e. ne (sym e))) refl

  -- the pieces that came
  unfoldable pub came_all : {h : List (List ℕ)} → Arrived c ps h → List (List ℕ)
  came_all none = []
  came_all (other b e t) = came_all t
  came_all (piece k l t) = body k ∷ came_all t

  pub headed : {h : List (List ℕ)} (t : Arrived c ps h) → Headed (came_all t)
  unfolding came_all body_of
  headed none = nil
  headed (other b e t) = headed t
  headed (piece k l t) = hd (body k) (came_all t) refl refl

  -- each slot is empty or has its piece
  pub good : {h : List (List ℕ)} (t : Arrived c ps h) (j : ℕ) → (lookup (came_all t) j ≡ empty) ⊎ (lookup (came_all t) j ≡ full (p j))
  unfolding came_all lookup
  good none j = inl refl
  good (other b e t) j = good t j
  good (piece k l t) j = go (eqb j k) refl (good t j) where
    go : (u : Bool) → eqb j k ≡ u → (lookup (came_all t) j ≡ empty) ⊎ (lookup (came_all t) j ≡ full (p j)) → (lookup (body k ∷ came_all t) j ≡ empty) ⊎ (lookup (body k ∷ came_all t) j ≡ full (p j))
    go true e g = inr (rw (eqb-true j k e) (at_same (came_all t) k))
    go false e g = rw (at_other (came_all t) k j (eqb-false j k e)) g

  pub goes_on_lem : {h : List (List ℕ)} (t : Arrived c ps h) (k : ℕ) → stored (came_all t) (body k) ≡ body k ∷ came_all t
  goes_on_lem t k = goes (came_all t) k (headed t) (good t k)

  pub came : {h : List (List ℕ)} (k : ℕ) (t : Arrived c ps h) → Came k t → lookup (came_all t) k ≡ full (p k)
  unfolding came_all Came
  came k none a = absurd a
  came k (other b e t) a = came k t a
  came k (piece j l t) a = go (eqb k j) refl (λ x. came k t x) where
    go : (u : Bool) → eqb k j ≡ u → (Came k t → lookup (came_all t) k ≡ full (p k)) → lookup (body j ∷ came_all t) k ≡ full (p k)
    go true e f = rw (eqb-true k j e) (at_same (came_all t) j)
    go false e f = at_other (came_all t) j k (eqb-false k j e) ∙ ⊎_elim (λ (q : j ≡ k). absurd (eqb-false k j e (sym q))) f a

  pub not_came : {h : List (List ℕ)} (k : ℕ) (t : Arrived c ps h) → (Came k t → ⊥) → lookup (came_all t) k ≡ empty
  unfolding came_all Came lookup
  not_came k none a = refl
  not_came k (other b e t) a = not_came k t a
  not_came k (piece j l t) a = at_other (came_all t) j k (λ e. a (inl (sym e))) ∙ not_came k t (λ x. a (inr x))

  module _ (some : 1 ≤ n) (few : n ≤ 16) (short : (k : ℕ) → k < n → length (p k) ≤ 1497) where
    pub accepts_body : (k : ℕ) → k < n → accepts (body k) ≡ true
    unfolding accepts body_refusal body_of
    accepts_body k l =
        let s = short k l in
        simp (
          le-ltb (suc (suc (suc (length (p k))))) 3 (omega arith),
          le-ltb 1500 (suc (suc (suc (length (p k))))) (omega arith),
          ne_eqb n 0 (λ e. omega arith),
          le-ltb 16 n few,
          ne_eqb (suc k) 0 (λ e. omega arith),
          le-ltb n (suc k) l,
        )

    -- whichever setting: all pieces together pass
    module _ (strict : Bool) (passes : judged strict (λ k. full (p k)) n ≡ all_good) where
      -- slots that are empty or have their piece, and none empty, are judged as the pieces are
      pub judged_good : (s : ℕ → Slot) → ((j : ℕ) → (s j ≡ empty) ⊎ (s j ≡ full (p j))) → missing s n ≡ 0 → judged strict s n ≡ all_good
      judged_good s g z = judged_same strict s (λ k. full (p k)) n (λ j q. ⊎_elim (λ (e : s j ≡ empty). absurd (is_full_lem j q e)) (λ (e : s j ≡ full (p j)). e) (g j)) ∙ passes where
        is_full_lem : (j : ℕ) → j < n → s j ≡ empty → ⊥
        is_full_lem j q e = let f : is_full empty ≡ true = rw e at (missing-zero s n z j q) in let y : ◌≡◌ {A = ℕ} 0 1 = cc in omega arith

      -- so no run of pieces is dropped
      kept : (run : List (List ℕ)) → ((j : ℕ) → (lookup run j ≡ empty) ⊎ (lookup run j ≡ full (p j))) → settled_run strict run n ≡ run
      unfolding settled_run
      kept run g = go (eqb (missing (lookup run) n) 0) refl where
        go : (t : Bool) → eqb (missing (lookup run) n) 0 ≡ t → cond t (run_by (judged strict (lookup run) n) run) run ≡ run
        go true e = rw (judged_good (lookup run) g (eqb-true _ _ e)) refl
        go false e = refl

      -- the run is what came
      pub run_is : {h : List (List ℕ)} (t : Arrived c ps h) → run_of strict h ≡ came_all t
      unfolding run_from came_all body_of
      run_is none = refl
      run_is (other b e t) = rw (refuses b e) (run_is t)
      run_is (piece k l t) = rw (accepts_body k l, run_is t) (go (repeated (came_all t) (body k))) where
        go : (u : Bool) → cond u (body k ∷ came_all t) (settled_run strict (stored (came_all t) (body k)) (number_of (body k))) ≡ body k ∷ came_all t
        go true = refl
        go false = rw (goes_on_lem t k) (kept (body k ∷ came_all t) (good (piece k l t)))
