-- Calls that leave what the collector leaves, over a history.
--
--   left_by_same     the record and the buffers are then the collector's after each body
-- Trusts: nothing.
use Prim.Native.Nat.{ℕ}
use mathlib.Core.Path.{◌≡◌, refl, ap, ◌∙◌}
use mathlib.Core.List.{List, [], ◌∷◌}
use Rattle.collector_demands.specs.Demand.{Lent, called, lent_after}
use Rattle.collector_lent.specs.Calls.{left_by}

-- what the collector leaves
abbrev pub leaves : Lent → List ℕ → Lent
leaves s b =
    let a = called s b in
    record { held = a.held; slots = a.slots; join = a.join }

pub left_by_same : (f : Lent → List ℕ → Lent) → ((s : Lent) (b : List ℕ) → f s b ≡ leaves s b) → (s : Lent) (h : List (List ℕ)) → left_by f s h ≡ lent_after s h
unfolding left_by lent_after
left_by_same f e s [] = refl
left_by_same f e s (b ∷ h) = e (left_by f s h) b ∙ ap (λ (x : Lent). leaves x b) (left_by_same f e s h)
