-- The number of pieces, on lists of lengths (specs/Pieces.antt, packed_from).
--
--   Sized ns        every length is 1 to 256
--   packed-few      elements of 1 to 256 bytes: every piece but the last has 1,242 bytes or more
--   packed-last     one length more behind the others: it goes into the last piece, or begins the next
-- Trusts: nothing.
use Prim.Native.Nat.{ℕ, ◌+◌, ◌*◌, ◌≤◌, ◌<◌}
use mathlib.Core.Path.{◌≡◌, refl, ap, ◌∙◌}
use mathlib.Core.Bool.{Bool, true, false, cond}
use mathlib.Core.List.{List, [], ◌∷◌, ◌++◌}
use native.Mathlib.Omega.{arith}
use borrow.Author.Tests.{ltb-true}
use lib.ListN.{length, length-append}
use lib.Dec.{ltb}
use Rattle.writing_cuts.specs.Pieces.{packed_from, total}

-- every length is 1 to 256
pub data Sized : List ℕ → Type 0 where
  none : Sized []
  more : {n : ℕ} {ns : List ℕ} → 1 ≤ n → n ≤ 256 → Sized ns → Sized (n ∷ ns)

-- how many pieces
abbrev many : ℕ → List ℕ → ℕ
many now ns = length (packed_from now ns)

pub packed-few : (now : ℕ) {ns : List ℕ} → Sized ns → 1 ≤ now + total ns → 1242 * many now ns < now + total ns + 1242
unfolding packed_from total
packed-few now none h = omega arith
packed-few now (more {n} {ns} l u s) h = on (ltb 1497 (now + n)) refl (packed-few n s (omega arith)) (packed-few (now + n) s (omega arith))
  where
    on : (b : Bool) → ltb 1497 (now + n) ≡ b → 1242 * many n ns < n + total ns + 1242 → 1242 * many (now + n) ns < now + n + total ns + 1242
        → 1242 * length (cond b (now ∷ packed_from n ns) (packed_from (now + n) ns)) < now + (n + total ns) + 1242
    on true e p q = let f = ltb-true 1497 (now + n) e in omega arith
    on false e p q = omega arith

-- ---- one length more

-- the closed pieces, and the last one with one length more
abbrev pub last_with : List ℕ → ℕ → ℕ → List ℕ
last_with cs now n = cond (ltb 1497 (now + n)) (cs ++ (now ∷ n ∷ [])) (cs ++ ((now + n) ∷ []))

some : (m : ℕ) (ns : List ℕ) → 1 ≤ length (packed_from m ns)
unfolding packed_from
some m [] = omega arith
some m (k ∷ ns) = on (ltb 1497 (m + k)) (some (m + k) ns)
  where
    on : (b : Bool) → 1 ≤ length (packed_from (m + k) ns) → 1 ≤ length (cond b (m ∷ packed_from k ns) (packed_from (m + k) ns))
    on true h = omega arith
    on false h = h

pub packed-last : (m : ℕ) (ns cs : List ℕ) (now n : ℕ) → packed_from m ns ≡ cs ++ (now ∷ []) → packed_from m (ns ++ (n ∷ [])) ≡ last_with cs now n
unfolding packed_from
packed-last m [] [] now n e = let same : m ≡ now = cc in rw same refl
packed-last m [] (c ∷ cs) now n e = absurd (omega (arith, ap length e, length-append cs (now ∷ [])))
packed-last m (k ∷ ns) cs now n e = on (ltb 1497 (m + k)) cs e (λ ds h. packed-last k ns ds now n h) (λ h. packed-last (m + k) ns cs now n h)
  where
    push : (ds : List ℕ) → m ∷ last_with ds now n ≡ last_with (m ∷ ds) now n
    push ds = by (ltb 1497 (now + n))
      where
        by : (b : Bool) → m ∷ cond b (ds ++ (now ∷ n ∷ [])) (ds ++ ((now + n) ∷ [])) ≡ cond b (m ∷ (ds ++ (now ∷ n ∷ []))) (m ∷ (ds ++ ((now + n) ∷ [])))
        by true = refl
        by false = refl

    on : (b : Bool) (cs : List ℕ) → cond b (m ∷ packed_from k ns) (packed_from (m + k) ns) ≡ cs ++ (now ∷ [])
        → ((ds : List ℕ) → packed_from k ns ≡ ds ++ (now ∷ []) → packed_from k (ns ++ (n ∷ [])) ≡ last_with ds now n)
        → (packed_from (m + k) ns ≡ cs ++ (now ∷ []) → packed_from (m + k) (ns ++ (n ∷ [])) ≡ last_with cs now n)
        → cond b (m ∷ packed_from k (ns ++ (n ∷ []))) (packed_from (m + k) (ns ++ (n ∷ []))) ≡ last_with cs now n
    on true [] e f g = absurd (omega (arith, ap length e, some k ns))
    on true (c ∷ ds) e f g =
        let same : m ≡ c = cc in
        let rest : packed_from k ns ≡ ds ++ (now ∷ []) = cc in
        ap (λ (l : List ℕ). m ∷ l) (f ds rest) ∙ push ds ∙ ap (λ (x : ℕ). last_with (x ∷ ds) now n) same
    on false cs e f g = g e
