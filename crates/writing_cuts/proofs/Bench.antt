-- Exact fits, computed from the definitions: one list, one theorem.
-- Trusts: nothing.
use mathlib.Core.Path.{◌≡◌, refl}
use mathlib.Core.List.{[], ◌∷◌}
use Rattle.writing_cuts.specs.Pieces.{packed, packed_from}

-- no element is one piece; six elements of 250 bytes are two; 1,497 bytes are one piece, and one byte more is two
pub packed-fits : (packed [] ∷ packed (250 ∷ 250 ∷ 250 ∷ 250 ∷ 250 ∷ 250 ∷ []) ∷ packed (256 ∷ 256 ∷ 256 ∷ 256 ∷ 256 ∷ 217 ∷ []) ∷ packed (256 ∷ 256 ∷ 256 ∷ 256 ∷ 256 ∷ 218 ∷ []) ∷ [])
    ≡ ((0 ∷ []) ∷ (1250 ∷ 250 ∷ []) ∷ (1497 ∷ []) ∷ (1280 ∷ 218 ∷ []) ∷ [])
unfolding packed packed_from
packed-fits = refl
