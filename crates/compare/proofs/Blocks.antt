-- Laws of what is compared a block at a time (specs/Compare.antt).
--
--   gathered        the bits in which bytes differ, gathered: none exactly where all bytes were the same
--   block_more      one byte more of a block             block_on      one block more is the same
--   block_apart     a block differs: so do the lists     block_last    the last block, from the end, decides
-- Trusts: nothing.
use Prim.Native.Nat.{ℕ, suc, ◌+◌, ◌≤◌, ◌<◌}
use mathlib.Core.Path.{◌≡◌, refl, sym, ap, ◌∙◌}
use mathlib.Core.Bool.{Bool, true, false, ◌&&◌}
use mathlib.Core.List.{List}
use native.Mathlib.Omega.{arith}
use borrow.Author.Tests.{eqb-true, eqb-false, ne_eqb}
use lib.ListN.{length, get_or, take, drop, length-drop}
use lib.Seq.{take-suc, take_all, take-take, take-add, length-take-le, get_or-drop}
use lib.Dec.{eqb}
use lib.Bits.{bit_or, bit_xor, or_add_and, xor_add_and, and_le_l, and_le_r, xor_self}
use Rattle.wire.proofs.Laws.{clash}
use Rattle.compare.specs.Compare.{same_bytes}
use Rattle.compare.proofs.Laws.{same_bytes_true, same_bytes_refl, same_bytes_snoc}

-- ---- the bits in which bytes differ

or_none : (a b : ℕ) → bit_or a b ≡ 0 → (a ≡ 0) × (b ≡ 0)
or_none a b h = (omega (arith, or_add_and a b, and_le_r a b), omega (arith, or_add_and a b, and_le_l a b))

xor_none : (x y : ℕ) → bit_xor x y ≡ 0 → x ≡ y
xor_none x y h = omega (arith, xor_add_and x y, and_le_l x y, and_le_r x y)

pub gathered : (d x y : ℕ) → eqb (bit_or d (bit_xor x y)) 0 ≡ (eqb d 0 && eqb x y)
gathered d x y = go (eqb d 0) (eqb x y) refl refl where
  go : (p q : Bool) → eqb d 0 ≡ p → eqb x y ≡ q → eqb (bit_or d (bit_xor x y)) 0 ≡ (p && q)
  go true true e f =
      let z : bit_xor x y ≡ 0 = rw (eqb-true x y f) (xor_self y) in
      rw (eqb-true d 0 e, z) refl
  go true false e f = ne_eqb (bit_or d (bit_xor x y)) 0 (λ h. eqb-false x y f (xor_none x y (or_none d (bit_xor x y) h).1))
  go false q e f = ne_eqb (bit_or d (bit_xor x y)) 0 (λ h. eqb-false d 0 e (or_none d (bit_xor x y) h).0)

-- ---- blocks

pub block_more : (a b : List ℕ) (at k : ℕ) → length a ≡ length b → at + k < length a
    → same_bytes (take (suc k) (drop at a)) (take (suc k) (drop at b)) ≡ (same_bytes (take k (drop at a)) (take k (drop at b)) && eqb (get_or a (at + k) 0) (get_or b (at + k) 0))
block_more a b at k e h =
    let p : k < length (drop at a) = omega (arith, length-drop at a) in
    let q : k < length (drop at b) = omega (arith, length-drop at b) in
    rw (take-suc (drop at a) k 0 p, take-suc (drop at b) k 0 q, get_or-drop at a k 0, get_or-drop at b k 0)
    (same_bytes_snoc _ _ _ _ (length-take-le k (drop at a) (omega arith) ∙ sym (length-take-le k (drop at b) (omega arith))))

pub block_on : (a b : List ℕ) (i : ℕ) → take i a ≡ take i b → same_bytes (take 256 (drop i a)) (take 256 (drop i b)) ≡ true → take (i + 256) a ≡ take (i + 256) b
block_on a b i e s = rw (take-add i 256 a, take-add i 256 b, e, same_bytes_true _ _ s) refl

pub block_apart : (a b : List ℕ) (i : ℕ) → same_bytes (take 256 (drop i a)) (take 256 (drop i b)) ≡ false → same_bytes a b ≡ false
block_apart a b i s = go (same_bytes a b) refl where
  go : (t : Bool) → same_bytes a b ≡ t → same_bytes a b ≡ false
  go true e =
      let h : same_bytes (take 256 (drop i b)) (take 256 (drop i b)) ≡ false = rw (same_bytes_true a b e) at s in
      absurd (clash (sym h ∙ same_bytes_refl (take 256 (drop i b))))
  go false e = e

pub block_last : (a b : List ℕ) (i last : ℕ) → last + 256 ≡ length a → length a ≡ length b → last ≤ i → take i a ≡ take i b
    → same_bytes (take 256 (drop last a)) (take 256 (drop last b)) ≡ same_bytes a b
block_last a b i last m n h e = go (same_bytes (take 256 (drop last a)) (take 256 (drop last b))) refl where
  front : take last a ≡ take last b
  front = sym (take-take last i a h) ∙ ap (take last) e ∙ take-take last i b h

  go : (t : Bool) → same_bytes (take 256 (drop last a)) (take 256 (drop last b)) ≡ t → same_bytes (take 256 (drop last a)) (take 256 (drop last b)) ≡ same_bytes a b
  go true s =
      let all : a ≡ b = sym (take_all (last + 256) a (omega arith)) ∙ block_on a b last front s ∙ take_all (last + 256) b (omega arith) in
      s ∙ sym (rw all (same_bytes_refl b))
  go false s = s ∙ sym (block_apart a b last s)
