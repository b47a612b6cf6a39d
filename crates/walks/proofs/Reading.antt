-- Reading: the steps by which a thin function reads and sets its locals, each as one rule.
--
--   reads          a local
--   reads-behind   the record that a local points to
--   reads-field    field k of a record in a local, which is v
--   sets           a local is set for the first time
--
-- Entry n of the context is the local's place, and `refl` says so. Each is a chain of the kit's rules, of which every one names the whole context.
-- Trusts: nothing.
use mathlib.Core.Path.{◌≡◌, sym, subst}
use Prim.Native.Nat.{ℕ, zero, ◌+◌}
use mathlib.Core.Option.{some}
use mathlib.Core.List.{List, [], ◌∷◌}
use seplogic.Ra.Ura.{Ura}
use base.Fraction.{full_share}
use lib.Dec.{T}
use mir.Syntax.{Sym, Ty, Tys, ty_struct, place, deref, field, copy, rv_opd, Rv as RValue, Body, seq, assign}
use mir.Raw.{raw as raw_ty}
use mir.Val.{Val, Vals, vptr, vstruct, WT, has_ty}
use mir.Fields.{get_v, set_v}
use base.Fml.{Share, fat, froom}
use prog.Memory.{field_at, field_of}
use prog.Wp.{Env, Calls, Loops, spot_of}
use types.Logic.{Logic}
use types.Kit.{Item, ‵, nth, put, Post, runs, Step}
use types.Run.{Opd, Rv, look, look_raw, init, stop, hop, fld, from, load, of_opd, assigns}
use types.Part.{Part, whole, sub, look_in}

module _ {M : Type 1} {𝓤 : Ura M} {𝓛 : Logic 𝓤} {K : Type 0} {Γ : List (Item 𝓤)} {E : Env 𝓤 𝓛.H} where
  open 𝓛 use {H}

  pub reads : K → (n : ℕ) {i : ℕ} {q : Share} {v : Val}
      → nth 𝓛 n Γ ≡ ‵ (fat q (spot_of 𝓤 H E i).0 (spot_of 𝓤 H E i).1 (spot_of 𝓤 H E i).2 v) → Opd K 𝓛 Γ E (copy (place i [])) v
  reads t n e = load t (from t (stop t)) (look t n e)

  pub reads-behind : K → (n : ℕ) {i : ℕ} {q p : Share} {b o : ℕ} {τ : Ty} {v : Val}
      → nth 𝓛 n Γ ≡ ‵ (fat q (spot_of 𝓤 H E i).0 (spot_of 𝓤 H E i).1 (spot_of 𝓤 H E i).2 (vptr b o))
      → (m : ℕ) → nth 𝓛 m Γ ≡ ‵ (fat p (raw_ty τ) b o v) → Rv K 𝓛 Γ E (rv_opd (copy (place i (deref τ ∷ [])))) v
  reads-behind t n e m f = of_opd t (load t (from t (hop t (look t n e) (stop t))) (look_raw t m f))

  pub reads-field : K → (n k : ℕ) (v : Val) {i : ℕ} {q : Share} {ν : Sym} {τs : Tys} {vs : Vals} {τ : Ty} {d : ℕ}
      → nth 𝓛 n Γ ≡ ‵ (fat q (ty_struct ν τs) (spot_of 𝓤 H E i).1 (spot_of 𝓤 H E i).2 (vstruct vs))
      → field_of (spot_of 𝓤 H E i).0 k ≡ some (τ, d) → field_at zero τs k ≡ some (τ, d) → get_v vs k ≡ v → Rv K 𝓛 Γ E (rv_opd (copy (place i (field k ∷ [])))) v
  reads-field t n k v {i} {q} {ν} {τs} {vs} {τ} {d} e f g is =
      subst (λ (u : Val). Rv K 𝓛 Γ E (rv_opd (copy (place i (field k ∷ [])))) u) is (of_opd t (load t (from t (fld t f (stop t)))
      (look_in t n (subst (λ (j : Item 𝓤). Part K 𝓛 j q τ (spot_of 𝓤 H E i).1 ((spot_of 𝓤 H E i).2 + d) (get_v vs k)
      (λ u. ‵ (fat q (ty_struct ν τs) (spot_of 𝓤 H E i).1 (spot_of 𝓤 H E i).2 (vstruct (set_v vs k u))))) (sym e) (sub t k g (whole t))))))

  pub sets : K → {C : Calls 𝓤 H} {Λ : Loops 𝓤 H} {q : Post 𝓤 H} {i : ℕ} {rv : RValue} {rest : Body} {v : Val} → Rv K 𝓛 Γ E rv v
      → (n : ℕ) → nth 𝓛 n Γ ≡ ‵ (froom (spot_of 𝓤 H E i).0 (spot_of 𝓤 H E i).1 (spot_of 𝓤 H E i).2) → T (has_ty (spot_of 𝓤 H E i).0 v) × WT v
      → Step K 𝓛 (put 𝓛 n (‵ (fat full_share (spot_of 𝓤 H E i).0 (spot_of 𝓤 H E i).1 (spot_of 𝓤 H E i).2 v)) Γ) (runs C Λ E rest q) Γ (runs C Λ E (seq (assign (place i []) rv) rest) q)
  sets t r n e wt = assigns t r (from t (stop t)) (init t n e wt)
