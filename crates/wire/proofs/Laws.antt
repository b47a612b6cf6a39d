-- Laws of pasted and concat (specs/Bytes.antt), of two tests and of parts of a list.
--
--   pasted-fits       the piece fits: where it goes    pasted_not        it does not: the target
--   length-pasted     the target's length              part-pasted       what stands where it went
--   take-pasted, drop-pasted, part-pasted-before, part-pasted-behind     what does not change
--   get_or_pasted_in, get_or_pasted-out                    one byte of it
--   held_whole        what was copied to the start of an array stands there
--   concat-append     pieces behind other pieces
--   rest_all, part-all    what `&s[a..]` and `&s[a..a + n]` leave
--   clash, both           false is not true; both of two tests
-- Trusts: nothing.
use Prim.Native.Nat.{ℕ, ◌+◌, ◌-◌, ◌≤◌, ◌<◌}
use mathlib.Core.Path.{◌≡◌, refl, sym, ap, ◌∙◌}
use mathlib.Core.Bool.{Bool, true, false, cond, ◌&&◌}
use mathlib.Core.List.{List, [], ◌∷◌, ◌++◌, append_assoc}
use mathlib.Core.Logic.{◌⊎◌, inl, inr}
use native.Mathlib.Omega.{arith}
use borrow.Author.Tests.{leb-true, le-leb, lt-leb}
use lib.ListN.{length, get_or, take, drop, length-append, length-take, length-drop, take-append-drop}
use lib.Seq.{take_all, length-take-le, take-append-le, drop-append-le, drop-append-add, drop-drop, take_at, drop_at, get_or-take, get_or-drop}
use lib.Dec.{leb}
use Rattle.wire.specs.Bytes.{pasted, concat}

-- ---- a piece put into a buffer

pub pasted-fits : (t : List ℕ) (at : ℕ) (p : List ℕ) → at + length p ≤ length t → pasted t at p ≡ take at t ++ (p ++ drop (at + length p) t)
unfolding pasted
pasted-fits t at p h = rw (le-leb (at + length p) (length t) h) refl

pub pasted_not : (t : List ℕ) (at : ℕ) (p : List ℕ) → length t < at + length p → pasted t at p ≡ t
unfolding pasted
pasted_not t at p h = rw (lt-leb (at + length p) (length t) h) refl

-- what holds of a pasted list where the piece fits, and of the target, holds of it anyway
by_fit : (P : List ℕ → Type 0) (t : List ℕ) (at : ℕ) (p : List ℕ) → (at + length p ≤ length t → P (take at t ++ (p ++ drop (at + length p) t))) → P t → P (pasted t at p)
unfolding pasted
by_fit P t at p f d = go (leb (at + length p) (length t)) refl where
  go : (b : Bool) → leb (at + length p) (length t) ≡ b → P (cond b (take at t ++ (p ++ drop (at + length p) t)) t)
  go true e = f (leb-true _ _ e)
  go false e = d

pub length-pasted : (t : List ℕ) (at : ℕ) (p : List ℕ) → length (pasted t at p) ≡ length t
length-pasted t at p = by_fit (λ l. length l ≡ length t) t at p (λ h. simp (length-append, length-take, length-drop) (omega arith)) refl

pub take-pasted : (t : List ℕ) (at : ℕ) (p : List ℕ) (n : ℕ) → n ≤ at → take n (pasted t at p) ≡ take n t
take-pasted t at p n h = by_fit (λ l. take n l ≡ take n t) t at p
    (λ f. let m = length-take-le at t (omega arith) in
    take-append-le n (take at t) _ (omega arith) ∙ sym (take-append-le n (take at t) (drop at t) (omega arith)) ∙ ap (take n) (take-append-drop at t)) refl

pub drop-pasted : (t : List ℕ) (at : ℕ) (p : List ℕ) (n : ℕ) → at + length p ≤ n → drop n (pasted t at p) ≡ drop n t
drop-pasted t at p n h = by_fit (λ l. drop n l ≡ drop n t) t at p
    (λ f. let m : length (take at t ++ p) ≡ at + length p = length-append (take at t) p ∙ ap (λ (x : ℕ). x + length p) (length-take-le at t (omega arith)) in
    let d : n ≡ length (take at t ++ p) + (n - (at + length p)) = omega arith in
    let g : at + length p + (n - (at + length p)) ≡ n = omega arith in
    ap (drop n) (sym (append_assoc (take at t) p (drop (at + length p) t)))
    ∙ ap (λ (x : ℕ). drop x ((take at t ++ p) ++ drop (at + length p) t)) d
    ∙ drop-append-add (take at t ++ p) (drop (at + length p) t) (n - (at + length p))
    ∙ drop-drop (n - (at + length p)) (at + length p) t
    ∙ ap (λ (x : ℕ). drop x t) g) refl

pub part-pasted : (t : List ℕ) (at : ℕ) (p : List ℕ) → at + length p ≤ length t → take (length p) (drop at (pasted t at p)) ≡ p
part-pasted t at p h = rw (pasted-fits t at p h, drop_at (take at t) (p ++ drop (at + length p) t) at (length-take-le at t (omega arith))) (take_at p (drop (at + length p) t) (length p) refl)

pub held_whole : (t p : List ℕ) → length p ≤ length t → take (length p) (pasted t 0 p) ≡ p
held_whole t p h = part-pasted t 0 p (omega arith)

-- a part that lies in the first of two lists
before_seam : (u w : List ℕ) (a l : ℕ) → a + l ≤ length u → take l (drop a (u ++ w)) ≡ take l (drop a u)
before_seam u w a l h = rw (drop-append-le a u w (omega arith)) (take-append-le l (drop a u) w (omega (arith, length-drop a u)))

pub part-pasted-before : (t : List ℕ) (at : ℕ) (p : List ℕ) (a l : ℕ) → a + l ≤ at → take l (drop a (pasted t at p)) ≡ take l (drop a t)
part-pasted-before t at p a l h = by_fit (λ x. take l (drop a x) ≡ take l (drop a t)) t at p
    (λ f. let n = length-take-le at t (omega arith) in
    before_seam (take at t) (p ++ drop (at + length p) t) a l (omega arith)
    ∙ sym (before_seam (take at t) (drop at t) a l (omega arith))
    ∙ ap (λ (x : List ℕ). take l (drop a x)) (take-append-drop at t)) refl

pub part-pasted-behind : (t : List ℕ) (at : ℕ) (p : List ℕ) (a l : ℕ) → at + length p ≤ a → take l (drop a (pasted t at p)) ≡ take l (drop a t)
part-pasted-behind t at p a l h = ap (take l) (drop-pasted t at p a h)

pub get_or_pasted_in : (t : List ℕ) (at : ℕ) (p : List ℕ) (k : ℕ) → at + length p ≤ length t → k < length p → get_or (pasted t at p) (at + k) 0 ≡ get_or p k 0
get_or_pasted_in t at p k h q =
    sym (get_or-drop at (pasted t at p) k 0) ∙ sym (get_or-take (length p) (drop at (pasted t at p)) k 0 q) ∙ ap (λ (l : List ℕ). get_or l k 0) (part-pasted t at p h)

pub get_or_pasted-out : (t : List ℕ) (at : ℕ) (p : List ℕ) (k : ℕ) → (k < at) ⊎ (at + length p ≤ k) → get_or (pasted t at p) k 0 ≡ get_or t k 0
get_or_pasted-out t at p k (inl h) = sym (get_or-take at (pasted t at p) k 0 h) ∙ ap (λ (l : List ℕ). get_or l k 0) (take-pasted t at p at (omega arith)) ∙ get_or-take at t k 0 h
get_or_pasted-out t at p k (inr h) =
    let d : at + length p + (k - (at + length p)) ≡ k = omega arith in
    let e : get_or (pasted t at p) (at + length p + (k - (at + length p))) 0 ≡ get_or t (at + length p + (k - (at + length p))) 0 =
    sym (get_or-drop (at + length p) (pasted t at p) (k - (at + length p)) 0)
    ∙ ap (λ (l : List ℕ). get_or l (k - (at + length p)) 0) (drop-pasted t at p (at + length p) (omega arith))
    ∙ get_or-drop (at + length p) t (k - (at + length p)) 0 in
    rw d at e

-- ---- pieces one behind the other

pub concat-append : (a b : List (List ℕ)) → concat (a ++ b) ≡ concat a ++ concat b
unfolding concat
concat-append [] b = refl
concat-append (x ∷ a) b = ap (λ (l : List ℕ). x ++ l) (concat-append a b) ∙ sym (append_assoc x (concat a) (concat b))

-- ---- two tests, and parts of a list

pub clash : false ≡ true → ⊥
clash e = let z : ◌≡◌ {A = ℕ} 0 1 = cc in omega arith

pub both : (a b : Bool) → (a && b) ≡ true → (a ≡ true) × (b ≡ true)
both true b h = (refl, h)
both false b h = absurd (clash h)

-- `&s[a..]` gives take (length s - a) (drop a s)
pub rest_all : (l : List ℕ) (a : ℕ) → take (length l - a) (drop a l) ≡ drop a l
rest_all l a = take_all (length l - a) (drop a l) (omega (arith, length-drop a l))

-- `&s[a..a + n]` gives take (a + n - a) (drop a s)
pub part-all : (l : List ℕ) (a n : ℕ) → take (a + n - a) (drop a l) ≡ take n (drop a l)
part-all l a n = let e : a + n - a ≡ n = omega arith in rw e refl
