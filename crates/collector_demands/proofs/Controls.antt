-- The promise of `collect` admits one answer only, and wrong collectors do not meet it (document 01, "What the contracts must settle").
--
--   said_only, collect_only      two outcomes that meet the promise for the same call are equal, with both buffers
--   Promise f                    a function that meets it
--   reply_by_is                   run over a history from nothing collected, such a function gives the replies of the runs
--   no_first-piece_completes     it does not complete at the first piece of several
--   no_invented_slots            the number that it answers with Waiting is that of the empty slots of the run
-- Trusts: nothing.
use Prim.Native.Nat.{ℕ, suc, ◌-◌, ◌≤◌}
use mathlib.Core.Path.{◌≡◌, refl, sym, ap, ◌∙◌}
use mathlib.Core.Bool.{Bool, true, false, cond}
use mathlib.Core.List.{List, [], ◌∷◌}
use native.Mathlib.Omega.{arith}
use borrow.Author.Tests.{eqb-true, ne_eqb}
use lib.ListN.{length}
use lib.Dec.{eqb}
use Rattle.cuts.specs.Cuts.{Ruling, all_good, bad_at}
use Rattle.collector.specs.Answers.{Said, refused, again, waiting, complete, dropped, said}
use Rattle.held.specs.Held.{well_made}
use Rattle.body_tests.specs.Refusals.{number_of, slot_of, body_refusal}
use Rattle.collector.specs.Step.{After, collect_step}
use Rattle.collection.specs.declared.Collection.{Collection}
use Rattle.collector.specs.declared.Outcome.{Outcome}
use Rattle.collector.specs.declared.Answer.{Answer}
use Rattle.collector.specs.declared.Answer.TheVariants.{Refused, Repeat, Waiting, Complete, Dropped}
use Rattle.body_tests.proofs.Laws.{fits_of}
use Rattle.collector_demands.specs.Runs.{is_full, accepts, lookup, continues, stored, repeated, run_from, run_of, missing, message, judged, Reply, reply, stored_reply, reply_from, reply_of}
use Rattle.collector_demands.specs.Runs as runs
use Rattle.collection.specs.Record.{is_strict}
use Rattle.collector_demands.specs.Demand.{Lent, lent_after, told}
use Rattle.collector_demands.proofs.Holds.{lookup-own}
use Rattle.collector_demands.proofs.Missing.{missing_less, missing-all}
use Rattle.collector_demands.proofs.Demands.{demand_2_nothing}

-- ---- one answer only

-- the answer that is said so
answered : Said → Answer
answered (refused n) = Refused n
answered again = Repeat
answered (waiting k) = Waiting k
answered (complete n) = Complete n
answered (dropped off) = Dropped off

answered-said : (a : Answer) → answered (said a) ≡ a
unfolding answered
answered-said (Refused n) = refl
answered-said Repeat = refl
answered-said (Waiting k) = refl
answered-said (Complete n) = refl
answered-said (Dropped off) = refl

pub said_only : (a b : Answer) → said a ≡ said b → a ≡ b
said_only a b e = sym (answered-said a) ∙ ap answered e ∙ answered-said b

-- what `collect` ensures of an outcome and the two buffers
abbrev pub Ensured : Collection → List ℕ → List ℕ → List ℕ → Outcome → List ℕ → List ℕ → Type 0
Ensured r slots join body o slots' join' = ◌≡◌ {A = After} (record { answer = said o.answer; held = o.held; slots = slots'; join = join' }) (collect_step r slots join body)

outcome_same : (a a' : Answer) (h h' : Collection) → a ≡ a' → h ≡ h' → ◌≡◌ {A = Outcome} (record { answer = a; held = h }) (record { answer = a'; held = h' })
outcome_same a a' h h' e f = rw (e, f) refl

pub collect_only : (r : Collection) (slots join body : List ℕ) (o o' : Outcome) (s s' j j' : List ℕ) → Ensured r slots join body o s j → Ensured r slots join body o' s' j'
    → (o ≡ o') × (s ≡ s') × (j ≡ j')
collect_only r slots join body o o' s s' j j' e f =
    let g = e ∙ sym f in
    let a = said_only o.answer o'.answer (ap (λ (x : After). x.answer) g) in
    let h = ap (λ (x : After). x.held) g in
    (outcome_same o.answer o'.answer o.held o'.held a h, ap (λ (x : After). x.slots) g, ap (λ (x : After). x.join) g)

-- ---- any function that meets the promise, run over a history

abbrev pub Promise : (Collection → List ℕ → List ℕ → List ℕ → After) → Type 0
Promise f = (r : Collection) (slots join body : List ℕ) → f r slots join body ≡ collect_step r slots join body

-- what a call leaves to be lent again
abbrev left : After → Lent
left a = record { held = a.held; slots = a.slots; join = a.join }

module _ (f : Collection → List ℕ → List ℕ → List ℕ → After) (meets : Promise f) where
  unfoldable pub lent_by : Lent → List (List ℕ) → Lent
  lent_by s [] = s
  lent_by s (b ∷ h) = left (f (lent_by s h).held (lent_by s h).slots (lent_by s h).join b)

  abbrev pub reply_by : Lent → List (List ℕ) → List ℕ → Reply
  reply_by s h b = told (f (lent_by s h).held (lent_by s h).slots (lent_by s h).join b) b

  lent_by_is : (s : Lent) (h : List (List ℕ)) → lent_by s h ≡ lent_after s h
  unfolding lent_by lent_after
  lent_by_is s [] = refl
  lent_by_is s (b ∷ h) =
      ap (λ (l : Lent). left (f l.held l.slots l.join b)) (lent_by_is s h) ∙ ap left (meets (lent_after s h).held (lent_after s h).slots (lent_after s h).join b)

  module _ (s : Lent) (room : 24000 ≤ length s.slots) (space : 24000 ≤ length s.join) (nothing : well_made s.held ≡ false) where
    reply_by_is : (h : List (List ℕ)) (b : List ℕ) → reply_by s h b ≡ reply_of (is_strict s.held) h b
    reply_by_is h b =
        ap (λ (l : Lent). told (f l.held l.slots l.join b) b) (lent_by_is s h)
        ∙ ap (λ (a : After). told a b) (meets (lent_after s h).held (lent_after s h).slots (lent_after s h).join b)
        ∙ (demand_2_nothing s room space nothing h b).0

    -- the first piece of several: all other slots are empty
    first-missing : (b : List ℕ) → accepts b ≡ true → suc (missing (lookup (b ∷ [])) (number_of b)) ≡ number_of b
    unfolding accepts lookup
    first-missing b a =
        let fit = fits_of b (eqb-true (body_refusal b) 0 a) in
        missing_less (lookup []) (lookup (b ∷ [])) (slot_of b) refl (ap is_full (lookup-own b [])) (λ j ne. rw (ne_eqb (slot_of b) j (λ e. ne (sym e))) refl) (number_of b) (omega arith)
        ∙ missing-all (number_of b)

    first-reply : (b : List ℕ) → accepts b ≡ true → 2 ≤ number_of b → reply_of (is_strict s.held) [] b ≡ reply (waiting (number_of b - 1)) []
    unfolding reply_from run_from continues
    first-reply b a two =
        let m = first-missing b a in
        let e : missing (lookup (b ∷ [])) (number_of b) ≡ number_of b - 1 = omega arith in
        rw (a, e, ne_eqb (number_of b - 1) 0 (λ z. omega arith)) refl

    pub no_first-piece_completes : (b : List ℕ) → accepts b ≡ true → 2 ≤ number_of b → reply_by s [] b ≡ reply (waiting (number_of b - 1)) []
    no_first-piece_completes b a two = reply_by_is [] b ∙ first-reply b a two

    waiting_is : (h : List (List ℕ)) (b : List ℕ) (k : ℕ) → (reply_of (is_strict s.held) h b).answer ≡ waiting k → k ≡ missing (lookup (stored (run_of (is_strict s.held) h) b)) (number_of b)
    unfolding reply_from
    waiting_is h b k e = go (accepts b) (repeated (run_of (is_strict s.held) h) b) (eqb (missing (lookup now) (number_of b)) 0) (judged (is_strict s.held) (lookup now) (number_of b)) e where
      now : List (List ℕ)
      now = stored (run_of (is_strict s.held) h) b

      go : (t u v : Bool) (w : Ruling) → (cond t (cond u (reply again []) (cond v (runs.reply_by w (message (lookup now) (number_of b)))
          (reply (waiting (missing (lookup now) (number_of b))) []))) (reply (refused (body_refusal b)) [])).answer ≡ waiting k → k ≡ missing (lookup now) (number_of b)
      go true true v w x = absurd (let z : ◌≡◌ {A = ℕ} 0 1 = cc in omega arith)
      go true false true all_good x = absurd (let z : ◌≡◌ {A = ℕ} 0 1 = cc in omega arith)
      go true false true (bad_at cut) x = absurd (let z : ◌≡◌ {A = ℕ} 0 1 = cc in omega arith)
      go true false false w x = cc
      go false u v w x = absurd (let z : ◌≡◌ {A = ℕ} 0 1 = cc in omega arith)

    pub no_invented_slots : (h : List (List ℕ)) (b : List ℕ) (k : ℕ) → (reply_by s h b).answer ≡ waiting k → k ≡ missing (lookup (stored (run_of (is_strict s.held) h) b)) (number_of b)
    no_invented_slots h b k e = waiting_is h b k (sym (ap (λ (r : Reply). r.answer) (reply_by_is h b)) ∙ e)
