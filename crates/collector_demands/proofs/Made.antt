-- A well-made record and its slot buffer hold the run of `stands_for` (specs/Runs.antt). Under the loose setting these bodies are a history that leaves it: so
-- the list of records that count as nothing collected is exactly that of the records that no history leaves. Under the strict one a record
-- that is complete with a bad cut stands for a run too, which no history leaves (docs/DECISIONS.md, D-072).
--
--   stands_for_run    the bodies of the filled slots are a history of their own, under the loose setting
--   rep_any          a record has the run that it stands for
-- Trusts: nothing.
use Prim.Native.Nat.{ℕ, zero, suc, ◌+◌, ◌-◌, ◌≤◌, ◌<◌}
use mathlib.Core.Path.{◌≡◌, refl, sym, ◌∙◌}
use mathlib.Core.Bool.{Bool, true, false, cond}
use mathlib.Core.List.{List, [], ◌∷◌}
use mathlib.Core.Logic.{◌⊎◌, inl, inr}
use native.Mathlib.Omega.{arith}
use native.Mathlib.Nat.{eq-or-lt_of_le, le_of_suc-le-suc}
use borrow.Author.Tests.{eq-eqb, ne_eqb, le-ltb, ltb-true}
use lib.ListN.{length, get_or}
use lib.Dec.{eqb, leb}
use Rattle.wire.proofs.Laws.{both}
use Rattle.held.specs.Held.{is_filled, empty_slots, sound_to, well_made}
use Rattle.joining.specs.Pieces.{piece_at}
use Rattle.body_tests.specs.Refusals.{count_of, number_of, body_refusal}
use Rattle.collection.specs.declared.Collection.{Collection}
use Rattle.joining.proofs.Laws.{length_piece_at_le}
use Rattle.collector_demands.specs.Runs.{empty, full, accepts, lookup, continues, run_from, run_of, body_in, bodies_to, stands_for, Sized}
use Rattle.collector_demands.proofs.Sound.{slot_at, well_made-few, well_made_within, well_made-short, well_made-flag, well_made_has}
use Rattle.collector_demands.proofs.Loose.{loose_run}
use Rattle.collector_demands.proofs.Stored.{Rep, idle, busy}

module _ (r : Collection) (slots : List ℕ) (made : well_made r ≡ true) (room : 24000 ≤ length slots) where
  abbrev flag : ℕ → ℕ
  flag k = get_or r.filled k 0

  -- ---- the bodies of the filled slots

  at_same : (m : ℕ) (run : List (List ℕ)) → lookup (body_in r slots m ∷ run) m ≡ full (piece_at slots r.lengths m)
  unfolding lookup
  at_same m run =
      let e : suc m - 1 ≡ m = omega arith in
      rw (eq-eqb (suc m - 1) m e) refl

  at_other : (m k : ℕ) (run : List (List ℕ)) → (k ≡ m → ⊥) → lookup (body_in r slots m ∷ run) k ≡ lookup run k
  unfolding lookup
  at_other m k run ne = rw (ne_eqb (suc m - 1) k (λ z. ne (omega arith))) refl

  lookup-out : (m k : ℕ) → m ≤ k → lookup (bodies_to r slots m) k ≡ empty
  unfolding bodies_to lookup
  lookup-out zero k h = refl
  lookup-out (suc m) k h = go (is_filled (flag m)) (lookup-out m k (omega arith)) where
    go : (t : Bool) → lookup (bodies_to r slots m) k ≡ empty → lookup (cond t (body_in r slots m ∷ bodies_to r slots m) (bodies_to r slots m)) k ≡ empty
    go true e = at_other m k (bodies_to r slots m) (λ z. omega arith) ∙ e
    go false e = e

  lookup_in : (m k : ℕ) → k < m → lookup (bodies_to r slots m) k ≡ slot_at r slots k
  unfolding bodies_to
  lookup_in zero k q = absurd (omega arith)
  lookup_in (suc m) k q = go (is_filled (flag m)) refl (λ l. lookup_in m k l) (eq-or-lt_of_le (le_of_suc-le-suc q)) where
    go : (t : Bool) → is_filled (flag m) ≡ t → (k < m → lookup (bodies_to r slots m) k ≡ slot_at r slots k) → (k ≡ m) ⊎ (k < m)
        → lookup (cond t (body_in r slots m ∷ bodies_to r slots m) (bodies_to r slots m)) k ≡ slot_at r slots k
    go true f i (inl e) = rw (e, f) (at_same m (bodies_to r slots m))
    go true f i (inr l) = at_other m k (bodies_to r slots m) (λ z. omega arith) ∙ i l
    go false f i (inl e) = rw (e, f) (lookup-out m m (omega arith))
    go false f i (inr l) = i l

  -- ---- they are accepted, and one run

  accepts_in : (k : ℕ) → k < 16 → is_filled (flag k) ≡ true → accepts (body_in r slots k) ≡ true
  unfolding accepts body_refusal
  accepts_in k q f =
      let w = well_made_within r made k q f in
      let n = well_made-few r made in
      let l = well_made-short r made k q in
      let p = length_piece_at_le slots r.lengths k in
      simp (
        le-ltb (suc (suc (suc (length (piece_at slots r.lengths k))))) 3 (omega arith),
        le-ltb 1500 (suc (suc (suc (length (piece_at slots r.lengths k))))) (omega arith),
        ne_eqb r.number 0 (λ e. omega arith),
        le-ltb 16 r.number n,
        ne_eqb (suc k) 0 (λ e. omega arith),
        le-ltb r.number (suc k) w,
      )

  -- a run of these bodies has the record's count and number
  Headed : List (List ℕ) → Type 0
  Headed [] = Unit {0}
  Headed (x ∷ xs) = (count_of x ≡ r.count) × (number_of x ≡ r.number)

  headed : (m : ℕ) → Headed (bodies_to r slots m)
  unfolding bodies_to Headed
  headed zero = tt
  headed (suc m) = go (is_filled (flag m)) (headed m) where
    go : (t : Bool) → Headed (bodies_to r slots m) → Headed (cond t (body_in r slots m ∷ bodies_to r slots m) (bodies_to r slots m))
    go true h = (refl, refl)
    go false h = h

  goes : (k : ℕ) (run : List (List ℕ)) → Headed run → lookup run k ≡ empty → cond (continues run (body_in r slots k)) (body_in r slots k ∷ run) (body_in r slots k ∷ []) ≡ body_in r slots k ∷ run
  unfolding continues Headed
  goes k [] h e = refl
  goes k (x ∷ xs) h e =
      let s : suc k - 1 ≡ k = omega arith in
      rw (eq-eqb (count_of x) r.count h.0, eq-eqb (number_of x) r.number h.1, s, e) refl

  start-empty : run_of false [] ≡ []
  unfolding run_from
  start-empty = refl

  bodies_to_run : (m : ℕ) → m ≤ 16 → run_of false (bodies_to r slots m) ≡ bodies_to r slots m
  unfolding bodies_to
  bodies_to_run zero h = start-empty
  bodies_to_run (suc m) h = go (is_filled (flag m)) refl (bodies_to_run m (omega arith)) where
    go : (t : Bool) → is_filled (flag m) ≡ t → run_of false (bodies_to r slots m) ≡ bodies_to r slots m
        → run_of false (cond t (body_in r slots m ∷ bodies_to r slots m) (bodies_to r slots m)) ≡ cond t (body_in r slots m ∷ bodies_to r slots m) (bodies_to r slots m)
    go true f i = loose_run [] (bodies_to r slots m) (body_in r slots m) ∙ rw (accepts_in m h f, i) (goes m (bodies_to r slots m) (headed m) (lookup-out m m (omega arith)))
    go false f i = i

  -- where there is none, every slot is empty
  none_filled : (m : ℕ) → m ≤ 16 → bodies_to r slots m ≡ [] → empty_slots r.filled m ≡ m
  unfolding bodies_to empty_slots
  none_filled zero h e = refl
  none_filled (suc m) h e = go (is_filled (flag m)) refl e (λ x. none_filled m (omega arith) x) where
    go : (t : Bool) → is_filled (flag m) ≡ t → cond t (body_in r slots m ∷ bodies_to r slots m) (bodies_to r slots m) ≡ [] → (bodies_to r slots m ≡ [] → empty_slots r.filled m ≡ m)
        → empty_slots r.filled m + cond (eqb (flag m) 0) 1 0 ≡ suc m
    go true f x i = absurd (let z : ◌≡◌ {A = ℕ} 0 1 = cc in omega arith)
    go false f x i = rw (eq-eqb (flag m) 0 (well_made-flag r made m h f), i x) (omega arith)

  some-filled : bodies_to r slots 16 ≡ [] → ⊥
  unfolding well_made
  some-filled e =
      let s = (both (sound_to r.filled r.lengths r.number 16) _ (both (leb r.number 16) _ made).1).1 in
      omega (arith, none_filled 16 (omega arith) e, ltb-true (empty_slots r.filled 16) 16 s)

  rep_made : Sized r → Rep r.strict (bodies_to r slots 16) r slots
  unfolding Headed
  rep_made z = go (bodies_to r slots 16) refl where
    go : (l : List (List ℕ)) → bodies_to r slots 16 ≡ l → Rep r.strict l r slots
    go [] e = absurd (some-filled e)
    go (x ∷ xs) e =
        let h : Headed (x ∷ xs) = rw e at (headed 16) in
        busy x xs r slots
        (record { room = room; flags = z.flags; lens = z.lens; each = λ k q. rw (← e, lookup_in 16 k q) (well_made_has r made slots room k q) })
        (sym h.0) (sym h.1) made refl

pub rep_idle : (r : Collection) (slots : List ℕ) → 24000 ≤ length slots → well_made r ≡ false → Rep r.strict [] r slots
rep_idle r slots room w = idle r slots room w refl

pub rep_any : (r : Collection) (slots : List ℕ) → Sized r → 24000 ≤ length slots → Rep r.strict (stands_for r slots) r slots
unfolding stands_for
rep_any r slots z room = go (well_made r) refl where
  go : (t : Bool) → well_made r ≡ t → Rep r.strict (cond t (bodies_to r slots 16) []) r slots
  go true w = rep_made r slots w room z
  go false w = rep_idle r slots room w

pub stands_for_run : (r : Collection) (slots : List ℕ) → 24000 ≤ length slots → run_of false (stands_for r slots) ≡ stands_for r slots
unfolding stands_for run_from
stands_for_run r slots room = go (well_made r) refl where
  go : (t : Bool) → well_made r ≡ t → run_of false (cond t (bodies_to r slots 16) []) ≡ cond t (bodies_to r slots 16) []
  go true w = bodies_to_run r slots w room 16 (omega arith)
  go false w = refl
