-- Places: what is had of the locals of a function, for all of them at once.
--
--   Places     where they lie, each with its type
--   stored     what each place holds;  dying   the right to end them
--   started    both, where the result has its place and the arguments are stored
--
-- Locals has the laws of these. Trusts: nothing.
use Prim.Native.Nat.{ℕ, zero}
use mathlib.Core.List.{List, [], ◌∷◌, ◌++◌}
use seplogic.Ra.Ura.{Ura}
use base.Fraction.{full_share}
use mir.Syntax.{Ty}
use mir.Val.{Val}
use base.Logic.{SProp, sep, emp}
use base.Fml.{fat, froom}
use prog.Wp.{Heap}
use types.Kit.{Item, ‵, raw}

-- where the locals lie
abbrev pub Places : Type 0
Places = List (Ty × ℕ)

-- what each place holds: the first ones these values, the others nothing yet
abbrev pub stored : {M : Type 1} {𝓤 : Ura M} → Places → List Val → List (Item 𝓤)
stored [] vs = []
stored (e ∷ E) [] = ‵ (froom e.0 e.1 zero) ∷ stored E []
stored (e ∷ E) (v ∷ vs) = ‵ (fat full_share e.0 e.1 zero v) ∷ stored E vs

-- the right to end them
abbrev pub dying : {M : Type 1} (𝓤 : Ura M) (H : Heap 𝓤) → Places → SProp 𝓤
dying 𝓤 H [] = emp 𝓤
dying 𝓤 H (e ∷ E) = sep 𝓤 (H.dies e.0 e.1) (dying 𝓤 H E)

-- local 0 is the result, and the arguments are stored in those after it
abbrev pub started : {M : Type 1} (𝓤 : Ura M) (H : Heap 𝓤) → Places → List Val → List (Item 𝓤)
started 𝓤 H [] vs = []
started 𝓤 H (e ∷ E) vs = ‵ (froom e.0 e.1 zero) ∷ (stored E vs ++ (raw (dying 𝓤 H (e ∷ E)) ∷ []))
