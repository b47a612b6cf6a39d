-- The walk of `judge_cuts` on plain values: what it knows where a piece begins, and each answer.
--
--   Walk msg lens n cut k    piece k begins at `cut`, which a walk over whole elements reaches; the cuts behind it are left to judge
--   walk_start               before the first turn
--   walk_over                no cut is left (walk_end), or no piece has bytes behind the sixteenth (walk_past)
--   walk_beyond, walk_free, walk_bad, walk_next     the next cut is past the message's end; behind a place where no element stands; inside an element; good
-- Trusts: nothing.
use Prim.Native.Nat.{ℕ, suc, ◌+◌, ◌-◌, ◌≤◌, ◌<◌, min}
use mathlib.Core.Path.{◌≡◌, refl, sym, ◌∙◌}
use mathlib.Core.Bool.{Bool, true, false}
use borrow.Author.Tests.{leb-true, leb-false}
use lib.Dec.{leb}
use mathlib.Core.List.{List}
use native.Mathlib.Omega.{arith}
use native.Mathlib.Numerals.{add-one}
use lib.ListN.{length, get_or, get_or-eq_default}
use Rattle.elements.specs.Elements.{Head, Value, head_at}
use Rattle.cuts.specs.Cuts.{all_good, bad_at, may_cut, sum_to, cuts_from, cuts_in}
use Rattle.cuts.specs.Walks.{Reached, first}
use Rattle.cuts.specs.Duties.{Passed}
use Rattle.cuts.proofs.Laws.{may_cut_past}
use Rattle.cuts.proofs.Each.{sum_to_mono, cuts_from-all, cuts_from_past}
use Rattle.cuts.proofs.Reached.{reached_may, free_may, inside-never}

pub record Walk (msg lens : List ℕ) (n cut k : ℕ) : Type 0 where
  pub begins : cut ≡ sum_to lens k
  pub reached : Reached msg cut
  pub rest : cuts_in msg lens n ≡ cuts_from msg lens k (n - 1 - k)

pub walk_start : (msg lens : List ℕ) (n : ℕ) → Walk msg lens n 0 0
unfolding sum_to cuts_in
walk_start msg lens n = record { begins = refl; reached = first; rest = let z : n - 1 - 0 ≡ n - 1 = omega arith in rw z refl }

module _ (msg lens : List ℕ) (n cut k : ℕ) (w : Walk msg lens n cut k) where
  walk_end : n ≤ k + 1 → all_good ≡ cuts_in msg lens n
  unfolding cuts_from
  walk_end l = let z : n - 1 - k ≡ 0 = omega arith in sym (w.rest ∙ rw z refl)

  walk_past : length lens ≤ k → all_good ≡ cuts_in msg lens n
  walk_past l =
      sym (w.rest ∙ cuts_from_past msg lens (n - 1 - k) k (λ j q. get_or-eq_default lens 0 (omega arith)) (rw (← w.begins) (reached_may msg cut w.reached)))

  -- no cut is left that is judged
  pub walk_over : min (n - 1) (length lens) ≤ k → all_good ≡ cuts_in msg lens n
  walk_over h = go (leb n (k + 1)) refl
    where
      go : (b : Bool) → leb n (k + 1) ≡ b → all_good ≡ cuts_in msg lens n
      go true e = walk_end (leb-true n (k + 1) e)
      go false e = walk_past (let l = leb-false n (k + 1) e in omega arith)

  -- the next cut, at `to`
  module _ (more : k + 1 < n) (len to : ℕ) (e : len ≡ get_or lens k 0) (f : to ≡ cut + len) where
    is_next : to ≡ sum_to lens (suc k)
    unfolding sum_to
    is_next = let b = w.begins in omega arith

    -- it and every later one may be
    free : ((c : ℕ) → to ≤ c → may_cut msg c ≡ true) → all_good ≡ cuts_in msg lens n
    free all = sym (w.rest ∙ cuts_from-all msg lens (n - 1 - k) k (λ j q. all (sum_to lens (suc j)) (omega (arith, is_next, sum_to_mono lens (suc k) (suc j) (omega arith)))))

    pub walk_beyond : length msg < to → all_good ≡ cuts_in msg lens n
    walk_beyond l = free (λ c q. may_cut_past msg c (omega arith))

    turn : cuts_in msg lens n ≡ cuts_from msg lens k (suc (n - 1 - (k + 1)))
    turn = let z : n - 1 - k ≡ suc (n - 1 - (k + 1)) = omega arith in w.rest ∙ rw z refl

    module _ (at : ℕ) (p : Passed msg cut to at) where
      pub walk_free : {h : Head} → h ≡ head_at msg at (length msg) → ((len : ℕ) → h ≡ Value len → ⊥) → at < to → all_good ≡ cuts_in msg lens n
      walk_free s never l = free (λ c q. free_may msg at c (p.reached w.reached) s never (omega arith))

      pub walk_bad : {h : Head} {size : ℕ} → h ≡ head_at msg at (length msg) → h ≡ Value size → at < to → bad_at to ≡ cuts_in msg lens n
      unfolding cuts_from
      walk_bad {h} {size} s v l =
          let head : head_at msg at (length msg) ≡ Value size = sym s ∙ v in
          sym (turn ∙ rw (← is_next, inside-never msg at to (p.reached w.reached) head l (p.stops size head l)) refl)

      pub walk_next : to ≤ at → Walk msg lens n to (k + 1)
      unfolding cuts_from
      walk_next l =
          let i = p.inside in
          let same : at ≡ to = omega arith in
          let here : Reached msg to = rw same at (p.reached w.reached) in
          record {
            begins = rw add-one is_next;
            reached = here;
            rest = turn ∙ rw (← is_next, reached_may msg to here, add-one) refl;
          }
