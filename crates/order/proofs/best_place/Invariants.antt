-- `order::best_place` finds `best_place`. The invariant: whatever the calls give, the walk from `place` on with the best so far ends as the whole
-- walk does.
-- Trusts: nothing.
use Rattle.std.proofs.Common.{◌≡◌, ℕ, Bool, drop, None}
use Rattle.order.specs.Best.{Ranks, Tells}
use Rattle.order.proofs.Scan.{scan}
use Rattle.order.proofs.best_place.Given as goal

abbrev pub invariant-loop-place : goal.invariant-loop-place
invariant-loop-place g l = (pr nu : _ → ℕ) (ok : _ → Bool) → Ranks g.R.Fn l.rank pr nu l.items → Tells g.P.Fn l.passes ok l.items
    → scan pr nu ok l.best l.place (drop l.place l.items) ≡ scan pr nu ok None 0 l.items
