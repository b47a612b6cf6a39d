-- Duties: what the walk of `judge_cuts` from one cut to the next promises to its caller.
--
--   Passed msg from cut r    whole elements lead from `from` to r, no further than the cut; where r is before the cut, an element there ends behind it
--
-- Trusts: nothing.
use Rattle.std.specs.Prelude.{ℕ, ◌+◌, ◌≤◌, ◌<◌, ◌≡◌, List, length}
use Rattle.elements.specs.Elements.{Value, head_at}
use Rattle.cuts.specs.Walks.{Reached}

pub record Passed (msg : List ℕ) (from cut r : ℕ) : Type 0 where
  pub reached : Reached msg from → Reached msg r
  pub inside : r ≤ cut
  pub stops : (len : ℕ) → head_at msg r (length msg) ≡ Value len → r < cut → cut < r + 2 + len
