-- `order::best_place` finds `best_place`. The invariant: whatever the calls give, the walk from `place` on with the best so far ends as the whole
-- walk does.
-- Trusts: nothing.
use mathlib.Core.Path.{◌≡◌, refl, sym, ap, subst, ◌∙◌}
use mathlib.Core.Bool.{and-false}
use mathlib.Core.List.{Memᴰ}
use Rattle.std.proofs.Common.{rules, option_map}
use Rattle.std.proofs.lemmas.Fn.{says_at}
use Rattle.order.proofs.Chosen.{mem_at}
use Rattle.order.proofs.Scan.{scan_taken, scan_left, scan_end, scan_within}
use Rattle.order.proofs.best_place.Goals as goal
use Rattle.order.proofs.best_place.Goals.{then-is_better+then-passes, else-is_better, else-is_better-via-then-is_better+else-passes, else-is_better-via-else-is_better}

pub loop-place-preserved : goal.loop-place-preserved
loop-place-preserved g c = λ pr nu ok ranks tells.
    let x = c.index-items-place.result in
    let h = c.loop-place-test.true in
    let is = c.index-items-place.is in
    let mem : Memᴰ x c.args.items.now = subst (λ y. Memᴰ y c.args.items.now) (sym is) (mem_at x c.args.items.now c.loop-place.place h) in
    let rank = ranks.rank _ _ mem (says_at g.R.Fn c.rank-priority.ensures refl) in
    let inv = c.loop-place.invariant pr nu ok ranks tells in
    elim c.if-is_better.branch [
      | then-is_better+then-passes w ↦
          let test = tells.test _ _ mem (says_at g.P.Fn w.passes.ensures refl) in
          rw w.best-is (scan_taken pr nu ok _ _ x h is _ _ _ rank.0 rank.1 (sym c.is_better.ensures ∙ w.if-is_better.true) (sym test ∙ w.if-passes.true) ∙ inv)
      | else-is_better w ↦ rw w.best-is (elim w.else-is_better.branch [
        | else-is_better-via-then-is_better+else-passes w' ↦
            let test = tells.test _ _ mem (says_at g.P.Fn w'.passes.ensures refl) in
            scan_left pr nu ok _ _ x h is _ _ _ rank.0 rank.1 (simp (sym test ∙ w'.if-passes.false, and-false)) ∙ inv
        | else-is_better-via-else-is_better w' ↦ scan_left pr nu ok _ _ x h is _ _ _ rank.0 rank.1 (rw (sym c.is_better.ensures ∙ w'.if-is_better.false)) ∙ inv
      ])
    ]

pub returns : goal.returns
returns g c = λ pr nu ok ranks tells.
    let e : c.map.result ≡ option_map (λ b. b.place) c.loop-place.best = search rules in
    let best = sym (scan_end pr nu ok c.args.items.now c.loop-place.place c.loop-place.best c.loop-place-test.false) ∙ c.loop-place.invariant pr nu ok ranks tells in
    e ∙ ap (option_map (λ b. b.place)) best ∙ scan_within pr nu ok c.args.items.now
