-- Calls: a history of bodies through one call after the other, each given back what the last one left.
--
--   left_by f s h      what the caller has after the bodies of h, where `f x b` is what a call for b leaves of the record and the buffers x
--
-- A history has its newest body first.
-- Trusts: nothing.
use Rattle.std.specs.Prelude.{ℕ, List, [], ◌∷◌}
use Rattle.collector_demands.specs.Demand.{Lent}

unfoldable pub left_by : (Lent → List ℕ → Lent) → Lent → List (List ℕ) → Lent
left_by f s [] = s
left_by f s (b ∷ h) = f (left_by f s h) b
