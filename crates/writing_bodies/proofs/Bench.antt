-- The bodies of a small message, computed from the definitions: one list, one theorem.
-- Trusts: nothing.
use mathlib.Core.Path.{◌≡◌, refl}
use mathlib.Core.List.{[], ◌∷◌}
use Rattle.wire.specs.Bytes.{pasted}
use Rattle.writing_bodies.specs.Bodies.{laid, needed_bytes, cut_by}

-- the first of two bodies, where the second has no room; no element; a body that has no room; a message that is shorter than the lengths
pub laid_small : (laid 7 2 0 ((1 ∷ 2 ∷ []) ∷ (3 ∷ []) ∷ []) (9 ∷ 9 ∷ 9 ∷ 9 ∷ 9 ∷ 9 ∷ []) ∷ laid 7 1 0 ([] ∷ []) (9 ∷ 9 ∷ 9 ∷ 9 ∷ []) ∷ laid 7 1 0 ((1 ∷ []) ∷ []) (9 ∷ 9 ∷ 9 ∷ []) ∷ cut_by (2 ∷ 4 ∷ 1 ∷ []) (1 ∷ 2 ∷ 3 ∷ []))
    ≡ ((7 ∷ 2 ∷ 1 ∷ 1 ∷ 2 ∷ 9 ∷ []) ∷ (7 ∷ 1 ∷ 1 ∷ 9 ∷ []) ∷ (9 ∷ 9 ∷ 9 ∷ []) ∷ (1 ∷ 2 ∷ []) ∷ (3 ∷ []) ∷ [] ∷ [])
unfolding laid cut_by pasted
laid_small = refl

-- no piece, one, and three: every body but the last takes a whole step
pub needed_small : (needed_bytes [] ∷ needed_bytes ((1 ∷ 2 ∷ []) ∷ []) ∷ needed_bytes ((1 ∷ []) ∷ (2 ∷ []) ∷ [] ∷ []) ∷ []) ≡ (0 ∷ 5 ∷ 3003 ∷ [])
unfolding needed_bytes
needed_small = refl
