-- What a caller of `write_table` learns (specs/Writing.antt of writing_table), by the request's words (document 02, Req 01).
--
--   writing_cases      the three answers, and when each is given
--   writing-refused    19 or 20: nothing is answered with it, and the buffer is as it was (demand 1)
--   writing_19         19 exactly where reading cannot produce the table, whatever the buffer
--   writing-room       12,000 bytes are never too few
--   written-number     without a refusal: the number and the lengths answered are those of the pieces' bodies
--   written-length     the length of each of them
--   written_body       body s stands at byte (s - 1) x 1,500, as long as its length says
--   written_kept       the bytes between the bodies and behind the last are as they were
-- Trusts: nothing.
use Prim.Native.Nat.{ℕ, zero, suc, ◌+◌, ◌*◌, ◌≤◌, ◌<◌}
use mathlib.Core.Path.{◌≡◌, refl, sym, ap, subst, ◌∙◌}
use mathlib.Core.Bool.{Bool, true, false, cond, not}
use mathlib.Core.List.{List, [], ◌∷◌, ◌++◌, map}
use mathlib.Core.Logic.{◌⊎◌, inl, inr}
use native.Mathlib.Omega.{arith}
use borrow.Author.Tests.{ltb-true, ltb-false}
use lib.ListN.{length, get_or, take, drop, replicate}
use lib.Dec.{ltb}
use Rattle.wire.proofs.Laws.{clash}
use Rattle.table.specs.Table.{padded}
use Rattle.table.specs.declared.Table.{Table}
use Rattle.collector_demands.specs.Demand.{body_of}
use Rattle.writing_cuts.specs.Pieces.{pieces_of}
use Rattle.writing_cuts.proofs.Pieces.{pieces_short}
use Rattle.writing_elements.specs.Encode.{elements_of}
use Rattle.writing_bodies.specs.Bodies.{laid, needed_bytes}
use Rattle.writing_bodies.proofs.Laws.{length-laid, laid_body, laid_kept, needed_most}
use Rattle.writing_check.specs.Producible.{producible}
use Rattle.writing_table.specs.Writing.{Writing, refusal, bodies, writing}
use Rattle.writing_message.proofs.Sized.{elements_of_sized}
use Rattle.writing_demands.proofs.Received.{pieces_five}

-- the length of a body, by its piece
size-at : (ps : List (List ℕ)) (rest : List ℕ) (k : ℕ) → k < length ps → get_or (map (λ p. length p + 3) ps ++ rest) k 0 ≡ length (get_or ps k []) + 3
size-at [] rest k h = absurd (omega arith)
size-at (p ∷ ps) rest zero h = refl
size-at (p ∷ ps) rest (suc k) h = size-at ps rest k (omega arith)

abbrev pub pieces_in : Table → List (List ℕ)
pieces_in t = pieces_of (elements_of t)

module _ (count : ℕ) (t : Table) (out : List ℕ) where
  pub writing_cases : (P : Writing → Type 0) → (producible t ≡ false → P (refusal 19 out)) → (producible t ≡ true → length out < needed_bytes (pieces_in t) → P (refusal 20 out))
      → (producible t ≡ true → needed_bytes (pieces_in t) ≤ length out → P (bodies count (pieces_in t) out)) → P (writing count t out)
  unfolding writing
  writing_cases P never short fits = on (producible t) (ltb (length out) (needed_bytes (pieces_in t))) refl refl
    where
      on : (a b : Bool) → producible t ≡ a → ltb (length out) (needed_bytes (pieces_in t)) ≡ b → P (cond (not a) (refusal 19 out) (cond b (refusal 20 out) (bodies count (pieces_in t) out)))
      on false b e f = never e
      on true true e f = short e (ltb-true _ _ f)
      on true false e f = fits e (ltb-false _ _ f)

  pub writing-refused : let w = writing count t out in (w.answer.refused ≡ 0 → ⊥)
      → ((w.answer.refused ≡ 19) ⊎ (w.answer.refused ≡ 20)) × (w.answer.number ≡ 0) × (w.answer.lengths ≡ replicate 16 0) × (w.out ≡ out)
  writing-refused =
      writing_cases (λ w. (w.answer.refused ≡ 0 → ⊥) → ((w.answer.refused ≡ 19) ⊎ (w.answer.refused ≡ 20)) × (w.answer.number ≡ 0) × (w.answer.lengths ≡ replicate 16 0) × (w.out ≡ out))
      (λ e r. (inl refl, refl, refl, refl)) (λ e h r. (inr refl, refl, refl, refl)) (λ e h r. absurd (r refl))

  pub writing_19 : ((producible t ≡ false) → (writing count t out).answer.refused ≡ 19) × ((writing count t out).answer.refused ≡ 19 → producible t ≡ false)
  writing_19 =
      writing_cases (λ w. (producible t ≡ false → w.answer.refused ≡ 19) × (w.answer.refused ≡ 19 → producible t ≡ false))
      (λ e. (λ f. refl, λ f. e)) (λ e h. (λ f. absurd (clash (sym f ∙ e)), λ f. absurd (omega (arith, f)))) (λ e h. (λ f. absurd (clash (sym f ∙ e)), λ f. absurd (omega (arith, f))))

  -- five bodies at most, each within its step
  need-most : needed_bytes (pieces_in t) ≤ 7500
  need-most = omega (arith, needed_most (pieces_in t) (pieces_short (elements_of_sized t)), pieces_five t)

  pub writing-room : producible t ≡ true → 12000 ≤ length out → (writing count t out).answer.refused ≡ 0
  writing-room g room =
      writing_cases (λ w. w.answer.refused ≡ 0) (λ e. absurd (clash (sym e ∙ g))) (λ e h. absurd (omega (arith, need-most))) (λ e h. refl)

  module _ (done : (writing count t out).answer.refused ≡ 0) where
    -- what holds of the bodies holds of what is written
    by_bodies : (P : Writing → Type 0) → (needed_bytes (pieces_in t) ≤ length out → P (bodies count (pieces_in t) out)) → P (writing count t out)
    by_bodies P h =
        writing_cases (λ w. w.answer.refused ≡ 0 → P w) (λ e z. absurd (omega (arith, z))) (λ e l z. absurd (omega (arith, z))) (λ e l z. h l) done

    pub written-number : ((writing count t out).answer.number ≡ length (pieces_in t)) × ((writing count t out).answer.lengths ≡ padded 16 0 (map (λ p. length p + 3) (pieces_in t)))
    written-number = by_bodies (λ w. (w.answer.number ≡ length (pieces_in t)) × (w.answer.lengths ≡ padded 16 0 (map (λ p. length p + 3) (pieces_in t)))) (λ h. (refl, refl))

    pub written-length : (k : ℕ) → k < length (pieces_in t) → get_or (writing count t out).answer.lengths k 0 ≡ length (body_of count (pieces_in t) k)
    unfolding body_of padded
    written-length k h = ap (λ (l : List ℕ). get_or l k 0) written-number.1 ∙ size-at (pieces_in t) _ k h ∙ omega arith

    pub written_body : (k : ℕ) → k < length (pieces_in t) → take (length (body_of count (pieces_in t) k)) (drop (k * 1500) (writing count t out).out) ≡ body_of count (pieces_in t) k
    unfolding body_of
    written_body k h =
        let ps = pieces_in t in
        let p = get_or ps k [] in
        by_bodies (λ w. take (length (body_of count ps k)) (drop (k * 1500) w.out) ≡ body_of count ps k)
        (λ room. let new = laid count (length ps) 0 ps out in
        ap (λ (m : ℕ). take m (drop (k * 1500) new)) {x = length (body_of count ps k)} {y = 3 + length p} (omega arith)
        ∙ ap (λ (i : ℕ). take (3 + length p) (drop (i * 1500) new)) {x = k} {y = 0 + k} (omega arith)
        ∙ laid_body count (length ps) 0 ps out (pieces_short (elements_of_sized t)) (omega arith) k h
        ∙ ap (λ (i : ℕ). count ∷ length ps ∷ i ∷ p) {x = 0 + k + 1} {y = suc k} (omega arith))

    pub written_kept : (length (writing count t out).out ≡ length out)
        × ((j : ℕ) → ((k : ℕ) → k < length (pieces_in t) → (j < k * 1500) ⊎ (k * 1500 + 3 + length (get_or (pieces_in t) k []) ≤ j)) → get_or (writing count t out).out j 0 ≡ get_or out j 0)
    written_kept =
        by_bodies (λ w. (length w.out ≡ length out) × ((j : ℕ) → ((k : ℕ) → k < length (pieces_in t) → (j < k * 1500) ⊎ (k * 1500 + 3 + length (get_or (pieces_in t) k []) ≤ j)) → get_or w.out j 0 ≡ get_or out j 0))
        (λ room. (
          length-laid count (length (pieces_in t)) 0 (pieces_in t) out,
          λ j h. laid_kept count (length (pieces_in t)) 0 (pieces_in t) out j
              (λ i l. subst (λ (m : ℕ). (j < m * 1500) ⊎ (m * 1500 + 3 + length (get_or (pieces_in t) i []) ≤ j)) {x = i} {y = 0 + i} (omega arith) (h i l)),
        ))
