-- Laws of the bodies (specs/Bodies.antt).
--
--   length-laid     the buffer's length                       length-cut_by    as many pieces as lengths
--   laid_past       a body that has no room is not laid       laid-before     what stands ahead of the first body stays
--   laid_body       at its step stands the body, as long as it is, where the buffer is as long as the pieces need
--   laid_kept       a byte that lies in no body is as it was
--   needed_most     so many steps are always enough           needed_last     the need, by the lengths
--   cut_by-concat    pieces cut by their lengths out of what they join to are the pieces
-- Trusts: nothing.
use Prim.Native.Nat.{ℕ, zero, suc, ◌+◌, ◌*◌, ◌≤◌, ◌<◌}
use mathlib.Core.Path.{◌≡◌, refl, ap, subst, ◌∙◌}
use mathlib.Core.List.{List, [], ◌∷◌, ◌++◌, map}
use mathlib.Core.Logic.{◌⊎◌, inl, inr, ⊎_elim}
use native.Mathlib.Omega.{arith}
use lib.ListN.{length, get_or, take, drop, length-append}
use lib.Seq.{take-append_seam, drop-append_seam}
use Rattle.wire.specs.Bytes.{pasted, concat}
use Rattle.wire.proofs.Laws.{pasted_not, length-pasted, part-pasted, part-pasted-before, get_or_pasted-out}
use Rattle.writing_bodies.specs.Bodies.{laid, needed_bytes, cut_by}

-- the body of piece k
abbrev pub body_at : ℕ → ℕ → ℕ → List ℕ → List ℕ
body_at count n k p = count ∷ n ∷ (k + 1) ∷ p

-- every piece has at most 1,497 bytes
abbrev pub Short : List (List ℕ) → Type 0
Short ps = (i : ℕ) → i < length ps → length (get_or ps i []) ≤ 1497

module _ (count n : ℕ) where
  pub length-laid : (k : ℕ) (ps : List (List ℕ)) (out : List ℕ) → length (laid count n k ps out) ≡ length out
  unfolding laid
  length-laid k [] out = refl
  length-laid k (p ∷ ps) out = length-laid (k + 1) ps (pasted out (k * 1500) (body_at count n k p)) ∙ length-pasted out (k * 1500) (body_at count n k p)

  pub laid_past : (k : ℕ) (p out : List ℕ) → length out < k * 1500 + 3 + length p → laid count n k (p ∷ []) out ≡ out
  unfolding laid
  laid_past k p out h = pasted_not out (k * 1500) (body_at count n k p) (omega arith)

  pub laid-before : (k : ℕ) (ps : List (List ℕ)) (out : List ℕ) (a l : ℕ) → a + l ≤ k * 1500 → take l (drop a (laid count n k ps out)) ≡ take l (drop a out)
  unfolding laid
  laid-before k [] out a l h = refl
  laid-before k (p ∷ ps) out a l h =
      laid-before (k + 1) ps (pasted out (k * 1500) (body_at count n k p)) a l (omega arith) ∙ part-pasted-before out (k * 1500) (body_at count n k p) a l h

  -- the first body of those that are laid, wherever it is said to stand
  first : (k j : ℕ) (p : List ℕ) (ps : List (List ℕ)) (out : List ℕ) → k ≡ j → length p ≤ 1497 → k * 1500 + (3 + length p) ≤ length out
      → take (3 + length p) (drop (j * 1500) (laid count n k (p ∷ ps) out)) ≡ body_at count n j p
  unfolding laid
  first k j p ps out e s h =
      let body = body_at count n k p in
      subst (λ (i : ℕ). take (3 + length p) (drop (i * 1500) (laid count n k (p ∷ ps) out)) ≡ body_at count n i p) e
      (laid-before (k + 1) ps (pasted out (k * 1500) body) (k * 1500) (3 + length p) (omega arith)
      ∙ ap (λ (l : ℕ). take l (drop (k * 1500) (pasted out (k * 1500) body))) {x = 3 + length p} {y = length body} (omega arith)
      ∙ part-pasted out (k * 1500) body (omega arith))

  -- REQ 01: piece s starts at byte (s-1) x 1,500 of the output buffer
  pub laid_body : (k : ℕ) (ps : List (List ℕ)) (out : List ℕ) → Short ps → k * 1500 + needed_bytes ps ≤ length out → (i : ℕ) → i < length ps
      → take (3 + length (get_or ps i [])) (drop ((k + i) * 1500) (laid count n k ps out)) ≡ body_at count n (k + i) (get_or ps i [])
  unfolding laid needed_bytes
  laid_body k [] out s h i l = absurd (omega arith)
  laid_body k (p ∷ []) out s h zero l = first k (k + 0) p [] out (omega arith) (s 0 (omega arith)) (omega arith)
  laid_body k (p ∷ []) out s h (suc i) l = absurd (omega arith)
  laid_body k (p ∷ q ∷ ps) out s h zero l = first k (k + 0) p (q ∷ ps) out (omega arith) (s 0 (omega arith)) (omega (arith, s 0 (omega arith)))
  laid_body k (p ∷ q ∷ ps) out s h (suc i) l =
      let new = pasted out (k * 1500) (body_at count n k p) in
      subst (λ (j : ℕ). take (3 + length (get_or (q ∷ ps) i [])) (drop (j * 1500) (laid count n (k + 1) (q ∷ ps) new)) ≡ body_at count n j (get_or (q ∷ ps) i []))
      {x = k + 1 + i} {y = k + suc i} (omega arith)
      (laid_body (k + 1) (q ∷ ps) new (λ j m. s (suc j) (omega arith)) (omega (arith, length-pasted out (k * 1500) (body_at count n k p))) i (omega arith))

  -- REQ 01: bytes between pieces and after the last stay as they were
  pub laid_kept : (k : ℕ) (ps : List (List ℕ)) (out : List ℕ) (j : ℕ)
      → ((i : ℕ) → i < length ps → (j < (k + i) * 1500) ⊎ ((k + i) * 1500 + 3 + length (get_or ps i []) ≤ j)) → get_or (laid count n k ps out) j 0 ≡ get_or out j 0
  unfolding laid
  laid_kept k [] out j h = refl
  laid_kept k (p ∷ ps) out j h =
      laid_kept (k + 1) ps (pasted out (k * 1500) (body_at count n k p)) j
      (λ i l. subst (λ (m : ℕ). (j < m * 1500) ⊎ (m * 1500 + 3 + length (get_or ps i []) ≤ j)) {x = k + suc i} {y = k + 1 + i} (omega arith) (h (suc i) (omega arith)))
      ∙ get_or_pasted-out out (k * 1500) (body_at count n k p) j (⊎_elim (λ a. inl (omega arith)) (λ a. inr (omega arith)) (h 0 (omega arith)))

-- ---- what the pieces need

pub needed_most : (ps : List (List ℕ)) → Short ps → needed_bytes ps ≤ 1500 * length ps
unfolding needed_bytes
needed_most [] s = omega arith
needed_most (p ∷ []) s = omega (arith, s 0 (omega arith))
needed_most (p ∷ q ∷ ps) s = omega (arith, needed_most (q ∷ ps) (λ i h. s (suc i) (omega arith)))

-- where the last body ends, by the lengths
pub needed_last : (ps : List (List ℕ)) (cs : List ℕ) (now : ℕ) → map length ps ≡ cs ++ (now ∷ []) → needed_bytes ps ≡ length cs * 1500 + 3 + now
unfolding needed_bytes
needed_last [] [] now h = absurd (omega (arith, ap length h))
needed_last [] (c ∷ cs) now h = absurd (omega (arith, ap length h))
needed_last (p ∷ []) [] now h = let same : length p ≡ now = cc in omega arith
needed_last (p ∷ []) (c ∷ cs) now h = absurd (omega (arith, ap length h, length-append cs (now ∷ [])))
needed_last (p ∷ q ∷ ps) [] now h = absurd (omega (arith, ap length h))
needed_last (p ∷ q ∷ ps) (c ∷ cs) now h =
    let rest : map length (q ∷ ps) ≡ cs ++ (now ∷ []) = cc in
    omega (arith, needed_last (q ∷ ps) cs now rest)

-- ---- lengths and message give the pieces back

pub length-cut_by : (ns msg : List ℕ) → length (cut_by ns msg) ≡ length ns
unfolding cut_by
length-cut_by [] msg = refl
length-cut_by (n ∷ ns) msg = ap suc (length-cut_by ns (drop n msg))

pub cut_by-concat : (ps : List (List ℕ)) → cut_by (map length ps) (concat ps) ≡ ps
unfolding cut_by concat
cut_by-concat [] = refl
cut_by-concat (p ∷ ps) = rw (take-append_seam p (concat ps), drop-append_seam p (concat ps), cut_by-concat ps) refl
