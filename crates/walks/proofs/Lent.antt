-- Lent: a part of a record behind a `&` is lent on for the record's own lifetime.
--
--   lends   from what says that the part is borrowed as the record is (the kit's `part_field`): a `&` to the part, under a new name, beside the record
-- Trusts: nothing.
use mathlib.Core.Path.{refl}
use Prim.Native.Nat.{ℕ}
use mathlib.Core.List.{List, [], ◌∷◌}
use seplogic.Ra.Ura.{Ura}
use mir.Val.{Val, vptr}
use base.Logic.{ent, sep}
use base.Fml.{Fml, GName, Lft, Share, feq, fsep, flft, fres, fshr_bor}
use types.Logic.{Logic, sem}
use types.Kit.{Item, ‵, later, ◌⊛◌, Goal, Soaks, Seq, ◌$◌, move, drop, use1, use2, split, fjoin3, feq_i, await}
use types.Tokens.{shr_bor_dup, name_new}
use denote.RattleType.{RattleType}
use denote.Memory.{part_at}

module _ {M : Type 1} {𝓤 : Ura M} {𝓛 : Logic 𝓤} {K : Type 0} {Γ : List (Item 𝓤)} {G : Goal 𝓤 𝓛.H} where
  open 𝓛 use {H}

  pub lends : K → Soaks G → (R : RattleType) (y : R.Denot) (b o : ℕ) {κ : Lft} {q : Share} {F : Share → Fml}
      → ent 𝓤 (sep 𝓤 (sem 𝓛 (fshr_bor κ F)) (sem 𝓛 (flft κ q))) (H.⇛ (sep 𝓤 (sem 𝓛 (fshr_bor κ (λ s. part_at R s y b o))) (sem 𝓛 (flft κ q))))
      → ((g : GName) → Seq K 𝓛 (‵ (fshr_bor κ F) ∷ ‵ (flft κ q)
      ∷ ‵ (fsep (feq (List Val) (vptr b o ∷ []) (vptr b o ∷ [])) (fsep (fres g (R.coded.code y)) (fshr_bor κ (λ s. part_at R s y b o)))) ∷ Γ) G)
      → Seq K 𝓛 (‵ (fshr_bor κ F) ∷ ‵ (flft κ q) ∷ Γ) G
  lends t z R y b o {κ} {q} {F} part k =
      shr_bor_dup t $ move t (1 ∷ 2 ∷ []) $ use2 𝓛 (later (‵ (fshr_bor κ (λ s. part_at R s y b o)) ⊛ ‵ (flft κ q))) part $ await t z $ split t $
      name_new t z (R.coded.code y) (λ g. use1 𝓛 (‵ (fres g (R.coded.code y))) (𝓛.names.obs-res g (R.coded.code y)) $
      move t (1 ∷ []) $ drop t $ feq_i t (List Val) (vptr b o ∷ []) (vptr b o ∷ []) refl $ fjoin3 t $ move t (2 ∷ 1 ∷ []) $ k g)
