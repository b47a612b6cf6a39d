-- Laws of same_bytes (specs/Compare.antt).
--
--   same_bytes_true, same_bytes_refl     true means equal lists, and equal lists are the same
--   same_bytes-length, same_bytes_snoc   other lengths are other bytes; one byte more
--   same_pointwise                       what `==` says of two slices
-- Trusts: nothing.
use Prim.Native.Nat.{ℕ}
use mathlib.Core.Path.{◌≡◌, refl, sym, ap}
use mathlib.Core.Bool.{Bool, true, false, ◌&&◌, and-true, and_assoc}
use mathlib.Core.List.{List, [], ◌∷◌, ◌++◌}
use native.Mathlib.Omega.{arith}
use borrow.Author.Tests.{eqb-true, eq-eqb}
use lib.ListN.{length}
use lib.Dec.{eqb}
use Rattle.std.specs.Cmp.Lexicographic.{pointwise}
use Rattle.wire.proofs.Laws.{clash, both}
use Rattle.compare.specs.Compare.{same_bytes}

pub same_bytes_true : (a b : List ℕ) → same_bytes a b ≡ true → a ≡ b
unfolding same_bytes
same_bytes_true [] [] h = refl
same_bytes_true [] (y ∷ ys) h = absurd (clash h)
same_bytes_true (x ∷ xs) [] h = absurd (clash h)
same_bytes_true (x ∷ xs) (y ∷ ys) h =
    let hs = both (eqb x y) (same_bytes xs ys) h in
    rw (eqb-true x y hs.0, same_bytes_true xs ys hs.1) refl

pub same_bytes_refl : (a : List ℕ) → same_bytes a a ≡ true
unfolding same_bytes
same_bytes_refl [] = refl
same_bytes_refl (x ∷ xs) = rw (eq-eqb x x refl, same_bytes_refl xs) refl

pub same_bytes-length : (a b : List ℕ) → (length a ≡ length b → ⊥) → same_bytes a b ≡ false
same_bytes-length a b ne = go (same_bytes a b) refl where
  go : (t : Bool) → same_bytes a b ≡ t → same_bytes a b ≡ false
  go true e = absurd (ne (ap length (same_bytes_true a b e)))
  go false e = e

-- one byte more on both sides
pub same_bytes_snoc : (a b : List ℕ) (x y : ℕ) → length a ≡ length b → same_bytes (a ++ (x ∷ [])) (b ++ (y ∷ [])) ≡ (same_bytes a b && eqb x y)
unfolding same_bytes
same_bytes_snoc [] [] x y h = and-true (eqb x y)
same_bytes_snoc [] (v ∷ b) x y h = absurd (omega arith)
same_bytes_snoc (u ∷ a) [] x y h = absurd (omega arith)
same_bytes_snoc (u ∷ a) (v ∷ b) x y h = rw (same_bytes_snoc a b x y (omega arith)) (sym (and_assoc (eqb u v) (same_bytes a b) (eqb x y)))

-- what `==` says of two slices
pub same_pointwise : (a b : List ℕ) → pointwise eqb a b ≡ same_bytes a b
unfolding same_bytes
same_pointwise [] [] = refl
same_pointwise [] (y ∷ b) = refl
same_pointwise (x ∷ a) [] = refl
same_pointwise (x ∷ a) (y ∷ b) = rw (same_pointwise a b) refl
