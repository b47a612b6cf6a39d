-- `cuts::judge_cuts` gives `cuts_in`. The loop keeps `Walk`; every turn passes a piece.
-- Trusts: nothing.
use borrow.Author.Rules.{rules}
use mathlib.Core.Path.{◌≡◌, refl, sym, ◌∙◌}
use native.Mathlib.Omega.{arith}
use mir.Syntax.{w16}
use mir.Val.{Fits}
use Rattle.std.proofs.Common.{ℕ, ◌+◌, ◌-◌, ◌<◌, min, List, length, get_or, take, length-take, get_or-take, Option, Some, None}
use Rattle.elements.proofs.Stood.{value_some, value_none}
use Rattle.cuts.proofs.Walk.{walk_start, walk_over, walk_beyond, walk_free, walk_bad, walk_next}
use Rattle.cuts.proofs.judge_cuts.Goals as goal

-- the pieces that are walked over: every one but the last, of the first sixteen
module _ (lens : List ℕ) (n m k : ℕ) {s : ℕ} (e : s ≡ n - 1) (f : m ≡ min s 16) (h : k < length (take m lens)) where
  more : k + 1 < n
  more = let l = length-take {A = ℕ} m lens in omega arith

  piece : (len : ℕ) → len ≡ get_or (take m lens) k 0 → len ≡ get_or lens k 0
  piece len q = let l = length-take {A = ℕ} m lens in q ∙ get_or-take m lens k 0 (omega arith)

pub loop-length-init : goal.loop-length-init
loop-length-init c = (omega arith, walk_start _ _ _)

-- no cut is left, or no piece has bytes behind the sixteenth
pub returns : goal.returns
returns c =
    let long : length c.args.lengths ≡ 16 = search rules in
    let l = length-take {A = ℕ} c.min-judged.result c.args.lengths in
    walk_over _ _ _ _ _ c.loop-length.invariant.1 (omega (arith, c.loop-length-test.false))

-- the next cut is past the message's end
pub returns-then-message-cut : goal.returns-then-message-cut
returns-then-message-cut c =
    walk_beyond _ _ _ _ _ c.loop-length.invariant.1 (more _ _ _ _ c.saturating_sub.ensures c.min-judged.ensures c.loop-length-test.true) _ _
    (piece _ _ _ _ c.saturating_sub.ensures c.min-judged.ensures c.loop-length-test.true _ c.from-cut.ensures) refl c.if-message-cut.true

-- no element stands before it
pub returns-in_err-value_at : goal.returns-in_err-value_at
returns-in_err-value_at c =
    rw c.from_residual.ensures
    (walk_free _ _ _ _ _ c.loop-length.invariant.1 (more _ _ _ _ c.saturating_sub.ensures c.min-judged.ensures c.loop-length-test.true) _ _
    (piece _ _ _ _ c.saturating_sub.ensures c.min-judged.ensures c.loop-length-test.true _ c.from-cut.ensures) refl _ c.pass_elements-at.ensures
    refl (value_none c.value_at.ensures (λ len v. let z : ◌≡◌ {A = Option ℕ} None (Some len) = sym c.in_err-value_at.was ∙ v in cc)) c.if-at-cut.true)

-- it is inside an element
pub returns-then-at-cut : goal.returns-then-at-cut
returns-then-at-cut c =
    walk_bad _ _ _ _ _ c.loop-length.invariant.1 (more _ _ _ _ c.saturating_sub.ensures c.min-judged.ensures c.loop-length-test.true) _ _
    (piece _ _ _ _ c.saturating_sub.ensures c.min-judged.ensures c.loop-length-test.true _ c.from-cut.ensures) refl _ c.pass_elements-at.ensures
    refl (value_some c.value_at.ensures c.in_ok-value_at.was) c.if-at-cut.true

-- it is good
pub loop-length-preserved : goal.loop-length-preserved
loop-length-preserved c =
    let here = piece _ _ _ _ c.saturating_sub.ensures c.min-judged.ensures c.loop-length-test.true _ c.from-cut.ensures in
    let short : Fits w16 (get_or c.args.lengths c.loop-length.length-index 0) = search rules in (
      omega (arith, short, c.loop-length.invariant.0),
      walk_next _ _ _ _ _ c.loop-length.invariant.1 (more _ _ _ _ c.saturating_sub.ensures c.min-judged.ensures c.loop-length-test.true) _ _ here refl _ c.pass_elements-at.ensures c.if-at-cut.false,
    )
