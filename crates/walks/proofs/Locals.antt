-- Locals: the first and the last steps of a walk, for all locals of a function at once.
--
--   begins   the locals are made and the arguments stored. Behind what was had stand the locals, a place for each in their order, and last,
--            as one entry, the right to end them all
--   frees    where the locals stand so behind the first n entries, they are ended, and those n are left
--
-- The kit's steps `alloc1`, `pass1`, `forget` and `free1` do the same for one local each, at the cost of a whole context each.
-- Trusts: nothing.
use mathlib.Core.Path.{◌≡◌, refl, ap, subst}
use Prim.Native.Nat.{ℕ, zero, suc}
use mathlib.Core.List.{List, [], ◌∷◌, ◌++◌}
use seplogic.Ra.Ura.{Ura}
use base.Fraction.{full_share}
use lib.Dec.{T}
use mir.Syntax.{Ty, Local, local, Fn}
use mir.Val.{Val, WT, has_ty}
use base.Logic.{SProp, ent, sep, emp, via, comm∗, assoc∗, mono_l, mono_r, snd∗, emp∗, wand, wand_i, all_i}
use base.Fml.{fat, froom, fdies}
use prog.Wp.{Calls, Loops, write, alloc, pass, params, release, Wp, at_return, WpFn}
use types.Logic.{Logic}
use types.Kit.{Item, ‵, raw, ◌⊛◌, ⋆, push, pop, ++⊢, ⊢++, Goal, prop, runs, frees as freeing, at_ret, aim, Seq, Step, step, ◌$◌, ◌∵◌, !, qed, by, move, use1, use2, split, join, frame, check, assume, done}
use Rattle.walks.proofs.Places.{Places, stored, dying, started}

abbrev pub Typed : Places → List Val → Type 0
Typed [] [] = Unit {0}
Typed (e ∷ E) [] = Unit {0}
Typed [] (v ∷ vs) = ⊥
Typed (e ∷ E) (v ∷ vs) = (T (has_ty e.0 v) × WT v) × Typed E vs

abbrev pub Fits : Places → List Val → Type 0
Fits [] vs = ⊥
Fits (e ∷ E) vs = Typed E vs

-- at every place that the locals may have
abbrev pub Wherever : List Local → (Places → Type 1) → Type 1
Wherever [] P = P []
Wherever (local τ h ∷ ls) P = (b : ℕ) → Wherever ls (λ E. P ((τ, b) ∷ E))

wherever_map : (ls : List Local) (P Q : Places → Type 1) → ((E : Places) → P E → Q E) → Wherever ls P → Wherever ls Q
wherever_map [] P Q f k = f [] k
wherever_map (local τ h ∷ ls) P Q f k = λ b. wherever_map ls (λ E. P ((τ, b) ∷ E)) (λ E. Q ((τ, b) ∷ E)) (λ E. f ((τ, b) ∷ E)) (k b)

module _ {M : Type 1} {𝓤 : Ura M} (𝓛 : Logic 𝓤) where
  open 𝓛 use {H}

  abbrev places : Places → List Val → SProp 𝓤
  places E vs = ⋆ 𝓛 (stored E vs)

  made_one : (τ : Ty) (b : ℕ) (E : Places) (Q : SProp 𝓤)
      → ent 𝓤 (sep 𝓤 (sep 𝓤 Q (sep 𝓤 (H.room τ b zero) (H.dies τ b))) (sep 𝓤 (places E []) (dying 𝓤 H E))) (sep 𝓤 Q (sep 𝓤 (places ((τ, b) ∷ E) []) (dying 𝓤 H ((τ, b) ∷ E))))
  made_one τ b E Q =
      qed 𝓛 ((raw Q ⊛ (‵ (froom τ b zero) ⊛ raw (H.dies τ b))) ∷ (raw (places E []) ⊛ raw (dying 𝓤 H E)) ∷ []) ∵
      split ! $ frame ! $ split ! $ move ! (2 ∷ []) $ split ! $ move ! (2 ∷ 0 ∷ []) $
      use2 𝓛 (raw (places ((τ, b) ∷ E) [])) (push 𝓛 (‵ (froom τ b zero)) (stored E [])) $ frame ! $ move ! (1 ∷ 0 ∷ []) $ join ! $ done !

  made : (ls : List Local) (Q : SProp 𝓤) (F : Places → SProp 𝓤)
      → Wherever ls (λ E. ent 𝓤 (sep 𝓤 Q (sep 𝓤 (places E []) (dying 𝓤 H E))) (F E)) → ent 𝓤 Q (alloc 𝓤 H ls F)
  made [] Q F k =
      via 𝓤 (sep 𝓤 Q (sep 𝓤 (emp 𝓤) (emp 𝓤)))
      (via 𝓤 (sep 𝓤 (emp 𝓤) Q) (emp∗ 𝓤 Q) (via 𝓤 (sep 𝓤 Q (emp 𝓤)) (comm∗ 𝓤 (emp 𝓤) Q) (mono_r 𝓤 Q (emp∗ 𝓤 (emp 𝓤))))) k
  made (local τ h ∷ ls) Q F k =
      all_i 𝓤 (λ (b : ℕ). wand 𝓤 (sep 𝓤 (H.room τ b zero) (H.dies τ b)) (alloc 𝓤 H ls (λ E. F ((τ, b) ∷ E))))
      (λ b. wand_i 𝓤 Q (sep 𝓤 (H.room τ b zero) (H.dies τ b)) (alloc 𝓤 H ls (λ E. F ((τ, b) ∷ E)))
      (made ls (sep 𝓤 Q (sep 𝓤 (H.room τ b zero) (H.dies τ b))) (λ E. F ((τ, b) ∷ E))
      (wherever_map ls (λ E. ent 𝓤 (sep 𝓤 Q (sep 𝓤 (places ((τ, b) ∷ E) []) (dying 𝓤 H ((τ, b) ∷ E)))) (F ((τ, b) ∷ E)))
      (λ E. ent 𝓤 (sep 𝓤 (sep 𝓤 Q (sep 𝓤 (H.room τ b zero) (H.dies τ b))) (sep 𝓤 (places E []) (dying 𝓤 H E))) (F ((τ, b) ∷ E)))
      (λ E p. via 𝓤 (sep 𝓤 Q (sep 𝓤 (places ((τ, b) ∷ E) []) (dying 𝓤 H ((τ, b) ∷ E)))) (made_one τ b E Q) p) (k b))))

  -- one argument is stored, and then the others
  passed_one : (e : Ty × ℕ) (v : Val) (E : Places) (Q P : SProp 𝓤) → T (has_ty e.0 v) × WT v
      → ent 𝓤 (sep 𝓤 (sep 𝓤 (H.at full_share e.0 e.1 zero v) Q) (places E [])) P → ent 𝓤 (sep 𝓤 Q (places (e ∷ E) [])) (write 𝓤 H e.0 e.1 zero v P)
  passed_one e v E Q P wt k =
      qed 𝓛 (raw Q ∷ raw (places (e ∷ E) []) ∷ []) ∵ check ! wt $ move ! (1 ∷ []) $
      use1 𝓛 (‵ (froom e.0 e.1 zero) ⊛ raw (places E [])) (pop 𝓛 (‵ (froom e.0 e.1 zero)) (stored E [])) $ split ! $ frame ! $
      assume ! (‵ (fat full_share e.0 e.1 zero v)) $ move ! (0 ∷ 2 ∷ []) $ join ! $ by ! k

  stored_one : (e : Ty × ℕ) (v : Val) (E : Places) (vs : List Val) (Q : SProp 𝓤)
      → ent 𝓤 (sep 𝓤 (sep 𝓤 (H.at full_share e.0 e.1 zero v) Q) (places E vs)) (sep 𝓤 Q (places (e ∷ E) (v ∷ vs)))
  stored_one e v E vs Q =
      qed 𝓛 ((‵ (fat full_share e.0 e.1 zero v) ⊛ raw Q) ∷ raw (places E vs) ∷ []) ∵ split ! $ move ! (1 ∷ []) $ frame ! $
      use2 𝓛 (raw (places (e ∷ E) (v ∷ vs))) (push 𝓛 (‵ (fat full_share e.0 e.1 zero v)) (stored E vs)) $ done !

  passed : (E : Places) (vs : List Val) (Q G : SProp 𝓤) → Typed E vs → ent 𝓤 (sep 𝓤 Q (places E vs)) G → ent 𝓤 (sep 𝓤 Q (places E [])) (pass 𝓤 H E vs G)
  passed [] [] Q G z k = k
  passed (e ∷ E) [] Q G z k = k
  passed [] (v ∷ vs) Q G z k = absurd z
  passed (e ∷ E) (v ∷ vs) Q G z k =
      passed_one e v E Q (pass 𝓤 H E vs G) z.0
      (passed E vs (sep 𝓤 (H.at full_share e.0 e.1 zero v) Q) G z.1 (via 𝓤 (sep 𝓤 Q (places (e ∷ E) (v ∷ vs))) (stored_one e v E vs Q) k))

  -- the result's place and the right to end all are set aside, and put back around the arguments
  apart : (Γ : List (Item 𝓤)) (e : Ty × ℕ) (E : Places)
      → ent 𝓤 (sep 𝓤 (⋆ 𝓛 Γ) (sep 𝓤 (places (e ∷ E) []) (dying 𝓤 H (e ∷ E))))
      (sep 𝓤 (sep 𝓤 (⋆ 𝓛 Γ) (sep 𝓤 (H.room e.0 e.1 zero) (dying 𝓤 H (e ∷ E)))) (places E []))
  apart Γ e E =
      qed 𝓛 (raw (⋆ 𝓛 Γ) ∷ (raw (places (e ∷ E) []) ⊛ raw (dying 𝓤 H (e ∷ E))) ∷ []) ∵ move ! (1 ∷ []) $ split ! $
      use1 𝓛 (‵ (froom e.0 e.1 zero) ⊛ raw (places E [])) (pop 𝓛 (‵ (froom e.0 e.1 zero)) (stored E [])) $ split ! $
      move ! (0 ∷ 2 ∷ []) $ join ! $ move ! (2 ∷ 0 ∷ []) $ join ! $ frame ! $ done !

  around : (e : Ty × ℕ) (E : Places) (vs : List Val) (D : SProp 𝓤)
      → ent 𝓤 (sep 𝓤 (sep 𝓤 (H.room e.0 e.1 zero) D) (places E vs)) (⋆ 𝓛 (‵ (froom e.0 e.1 zero) ∷ (stored E vs ++ (raw D ∷ []))))
  around e E vs D =
      qed 𝓛 ((‵ (froom e.0 e.1 zero) ⊛ raw D) ∷ raw (places E vs) ∷ []) ∵ split ! $ move ! (2 ∷ 1 ∷ []) $
      use2 𝓛 (raw (⋆ 𝓛 (stored E vs ++ (raw D ∷ [])))) (++⊢ 𝓛 (stored E vs) (raw D ∷ [])) $ move ! (1 ∷ 0 ∷ []) $
      use2 𝓛 (raw (⋆ 𝓛 (‵ (froom e.0 e.1 zero) ∷ (stored E vs ++ (raw D ∷ []))))) (push 𝓛 (‵ (froom e.0 e.1 zero)) (stored E vs ++ (raw D ∷ []))) $ done !

  together : (Γ : List (Item 𝓤)) (e : Ty × ℕ) (E : Places) (vs : List Val)
      → ent 𝓤 (sep 𝓤 (sep 𝓤 (⋆ 𝓛 Γ) (sep 𝓤 (H.room e.0 e.1 zero) (dying 𝓤 H (e ∷ E)))) (places E vs)) (⋆ 𝓛 (Γ ++ started 𝓤 H (e ∷ E) vs))
  together Γ e E vs =
      via 𝓤 (sep 𝓤 (⋆ 𝓛 Γ) (sep 𝓤 (sep 𝓤 (H.room e.0 e.1 zero) (dying 𝓤 H (e ∷ E))) (places E vs)))
      (assoc∗ 𝓤 (⋆ 𝓛 Γ) (sep 𝓤 (H.room e.0 e.1 zero) (dying 𝓤 H (e ∷ E))) (places E vs))
      (via 𝓤 (sep 𝓤 (⋆ 𝓛 Γ) (⋆ 𝓛 (started 𝓤 H (e ∷ E) vs)))
      (mono_r 𝓤 (⋆ 𝓛 Γ) (around e E vs (dying 𝓤 H (e ∷ E)))) (++⊢ 𝓛 Γ (started 𝓤 H (e ∷ E) vs)))

  given : (Γ : List (Item 𝓤)) (E : Places) (vs : List Val) (G : SProp 𝓤) → Fits E vs → ent 𝓤 (⋆ 𝓛 (Γ ++ started 𝓤 H E vs)) G
      → ent 𝓤 (sep 𝓤 (⋆ 𝓛 Γ) (sep 𝓤 (places E []) (dying 𝓤 H E))) (params 𝓤 H E vs G)
  given Γ [] vs G z k = absurd z
  given Γ (e ∷ E) vs G z k =
      via 𝓤 (sep 𝓤 (sep 𝓤 (⋆ 𝓛 Γ) (sep 𝓤 (H.room e.0 e.1 zero) (dying 𝓤 H (e ∷ E)))) (places E [])) (apart Γ e E)
      (passed E vs (sep 𝓤 (⋆ 𝓛 Γ) (sep 𝓤 (H.room e.0 e.1 zero) (dying 𝓤 H (e ∷ E)))) G z
      (via 𝓤 (⋆ 𝓛 (Γ ++ started 𝓤 H (e ∷ E) vs)) (together Γ e E vs) k))

  ended_one : (e : Ty × ℕ) (E : Places) (vs : List Val) (P : SProp 𝓤) → ent 𝓤 (sep 𝓤 (places E vs) (sep 𝓤 (dying 𝓤 H E) P)) (release 𝓤 H E P)
      → ent 𝓤 (sep 𝓤 (sep 𝓤 (H.room e.0 e.1 zero) (places E vs)) (sep 𝓤 (dying 𝓤 H (e ∷ E)) P)) (release 𝓤 H (e ∷ E) P)
  ended_one e E vs P k =
      qed 𝓛 ((‵ (froom e.0 e.1 zero) ⊛ raw (places E vs)) ∷ ((‵ (fdies e.0 e.1) ⊛ raw (dying 𝓤 H E)) ⊛ raw P) ∷ []) ∵
      split ! $ move ! (2 ∷ []) $ split ! $ split ! $ move ! (3 ∷ 0 ∷ []) $ join ! $ frame ! $ move ! (2 ∷ []) $ by ! k

  ended : (E : Places) (vs : List Val) (P : SProp 𝓤) → ent 𝓤 (sep 𝓤 (places E vs) (sep 𝓤 (dying 𝓤 H E) P)) (release 𝓤 H E P)
  ended [] vs P = via 𝓤 (sep 𝓤 (emp 𝓤) P) (snd∗ 𝓤 (emp 𝓤) (sep 𝓤 (emp 𝓤) P)) (snd∗ 𝓤 (emp 𝓤) P)
  ended (e ∷ E) [] P =
      via 𝓤 (sep 𝓤 (sep 𝓤 (H.room e.0 e.1 zero) (places E [])) (sep 𝓤 (dying 𝓤 H (e ∷ E)) P))
      (mono_l 𝓤 (sep 𝓤 (dying 𝓤 H (e ∷ E)) P) (pop 𝓛 (‵ (froom e.0 e.1 zero)) (stored E [])))
      (ended_one e E [] P (ended E [] P))
  ended (e ∷ E) (v ∷ vs) P =
      via 𝓤 (sep 𝓤 (sep 𝓤 (H.room e.0 e.1 zero) (places E vs)) (sep 𝓤 (dying 𝓤 H (e ∷ E)) P))
      (mono_l 𝓤 (sep 𝓤 (dying 𝓤 H (e ∷ E)) P)
      (via 𝓤 (sep 𝓤 (H.at full_share e.0 e.1 zero v) (places E vs)) (pop 𝓛 (‵ (fat full_share e.0 e.1 zero v)) (stored E vs))
      (mono_l 𝓤 (places E vs) (𝓛.laws.at_room e.0 e.1 zero v))))
      (ended_one e E vs P (ended E vs P))

module _ {M : Type 1} {𝓤 : Ura M} where
  abbrev pub firsts : ℕ → List (Item 𝓤) → List (Item 𝓤)
  firsts n [] = []
  firsts zero (i ∷ Γ) = []
  firsts (suc n) (i ∷ Γ) = i ∷ firsts n Γ

  abbrev pub rests : ℕ → List (Item 𝓤) → List (Item 𝓤)
  rests n [] = []
  rests zero (i ∷ Γ) = i ∷ Γ
  rests (suc n) (i ∷ Γ) = rests n Γ

  parted : (n : ℕ) (Γ : List (Item 𝓤)) → firsts n Γ ++ rests n Γ ≡ Γ
  parted n [] = refl
  parted zero (i ∷ Γ) = refl
  parted (suc n) (i ∷ Γ) = ap (λ (Δ : List (Item 𝓤)). i ∷ Δ) (parted n Γ)

module _ {M : Type 1} {𝓤 : Ura M} {𝓛 : Logic 𝓤} {K : Type 0} {Γ : List (Item 𝓤)} where
  open 𝓛 use {H}

  pub begins : K → (C : Calls 𝓤 H) (Λ : Loops 𝓤 H) (f : Fn) (vs : List Val) (Kf : Val → SProp 𝓤)
      → Wherever f.locals (λ E. Fits E vs × Seq K 𝓛 (Γ ++ started 𝓤 H E vs) (runs C Λ E f.body (at_ret E Kf))) → Seq K 𝓛 Γ (prop (WpFn 𝓤 H C Λ f vs Kf))
  unfolding WpFn
  begins t C Λ f vs Kf k = record {
    prf = made 𝓛 f.locals (⋆ 𝓛 Γ) goal
        (wherever_map f.locals (λ E. Fits E vs × Seq K 𝓛 (Γ ++ started 𝓤 H E vs) (runs C Λ E f.body (at_ret E Kf)))
        (λ E. ent 𝓤 (sep 𝓤 (⋆ 𝓛 Γ) (sep 𝓤 (places 𝓛 E []) (dying 𝓤 H E))) (goal E))
        (λ E p. given 𝓛 Γ E vs (Wp 𝓤 H C Λ E f.body (at_return 𝓤 H E Kf)) p.0 p.1.prf) k);
  }
    where
      goal : Places → SProp 𝓤
      goal E = params 𝓤 H E vs (Wp 𝓤 H C Λ E f.body (at_return 𝓤 H E Kf))

  pub frees : K → (n : ℕ) (vs : List Val) {E : Places} {g : Goal 𝓤 H} → stored E vs ++ (raw (dying 𝓤 H E) ∷ []) ≡ rests n Γ → Step K 𝓛 (firsts n Γ) g Γ (freeing E g)
  frees t n vs {E} {g} same = step (λ s. record {
    prf = via 𝓤 (sep 𝓤 (⋆ 𝓛 (firsts n Γ)) (⋆ 𝓛 (rests n Γ)))
        (subst (λ (Δ : List (Item 𝓤)). ent 𝓤 (⋆ 𝓛 Δ) (sep 𝓤 (⋆ 𝓛 (firsts n Γ)) (⋆ 𝓛 (rests n Γ)))) (parted n Γ) (⊢++ 𝓛 (firsts n Γ) (rests n Γ)))
        (subst (λ (Δ : List (Item 𝓤)). ent 𝓤 (sep 𝓤 (⋆ 𝓛 (firsts n Γ)) (⋆ 𝓛 Δ)) (release 𝓤 H E (aim 𝓤 H g))) same
        (via 𝓤 (sep 𝓤 (aim 𝓤 H g) (⋆ 𝓛 (stored E vs ++ (raw (dying 𝓤 H E) ∷ [])))) (mono_l 𝓤 (⋆ 𝓛 (stored E vs ++ (raw (dying 𝓤 H E) ∷ []))) s.prf)
        (via 𝓤 (sep 𝓤 (aim 𝓤 H g) (sep 𝓤 (places 𝓛 E vs) (dying 𝓤 H E))) (mono_r 𝓤 (aim 𝓤 H g) (⊢++ 𝓛 (stored E vs) (raw (dying 𝓤 H E) ∷ [])))
        (qed 𝓛 (raw (aim 𝓤 H g) ∷ (raw (⋆ 𝓛 (stored E vs)) ⊛ raw (dying 𝓤 H E)) ∷ []) ∵ move ! (1 ∷ []) $ split ! $
        by ! (ended 𝓛 E vs (aim 𝓤 H g))))));
  })
