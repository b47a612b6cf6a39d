-- Laws of `comes_before` (specs/Best.antt): what it says of the numbers, and that it is an order in which equals have the same priority and number.
--
--   comes_before-yes, comes_before_no    what an answer says of the numbers
--   comes_before_gt, -eq, -lt, -ge      the answer, from the numbers
--   comes_before_self, -asym, -trans    nothing comes before itself; not both ways; through a third
--   comes_before_past                   what comes before x comes before whatever x does not come after
--   comes_before_tied                   where neither comes before the other, both numbers are the same
--   pairs_in_order                      the code's test, `<` on two pairs, is that order
-- Trusts: nothing.
use mathlib.Core.Path.{◌≡◌, refl, sym}
use mathlib.Core.Bool.{Bool, true, false, cond, ◌&&◌, ◌||◌}
use mathlib.Core.Logic.{◌⊎◌, inl, inr}
use Prim.Native.Nat.{ℕ, ◌≤◌, ◌<◌}
use native.Mathlib.Nat.{le_refl, le_of_eq}
use native.Mathlib.Omega.{arith}
use lib.Dec.{ltb, eqb}
use borrow.Author.Tests.{ltb-true, ltb-false, eqb-true, eqb-false, lt-ltb, le-ltb, eq-eqb, ne_eqb}
use Rattle.std.specs.Prelude.{Some}
use Rattle.std.specs.declared.cmp.Ordering.TheVariants.{Equal, Greater}
use Rattle.std.specs.Ordering.{is_lt, partial_lt, partial_ordering_then, nat_cmp}
use Rattle.order.specs.Best.{comes_before}

module _ (p n q m : ℕ) where
  pub comes_before-yes : comes_before p n q m ≡ true → (q < p) ⊎ ((p ≡ q) × (n < m))
  unfolding comes_before
  comes_before-yes e = go (ltb q p) (eqb p q) (ltb n m) refl refl refl e
    where
      go : (a b l : Bool) → ltb q p ≡ a → eqb p q ≡ b → ltb n m ≡ l → a || (b && l) ≡ true → (q < p) ⊎ ((p ≡ q) × (n < m))
      go true b l ea eb el h = inl (ltb-true q p ea)
      go false true true ea eb el h = inr (eqb-true p q eb, ltb-true n m el)
      go false true false ea eb el h = let z : ◌≡◌ {A = ℕ} 0 1 = cc in inl (omega arith)
      go false false l ea eb el h = let z : ◌≡◌ {A = ℕ} 0 1 = cc in inl (omega arith)

  pub comes_before_no : comes_before p n q m ≡ false → (p < q) ⊎ ((p ≡ q) × (m ≤ n))
  unfolding comes_before
  comes_before_no e = go (ltb q p) (eqb p q) (ltb n m) refl refl refl e
    where
      far : (p ≡ q → ⊥) → p ≤ q → p < q
      far h l = omega arith

      go : (a b l : Bool) → ltb q p ≡ a → eqb p q ≡ b → ltb n m ≡ l → a || (b && l) ≡ false → (p < q) ⊎ ((p ≡ q) × (m ≤ n))
      go true b l ea eb el h = let z : ◌≡◌ {A = ℕ} 0 1 = cc in inl (omega arith)
      go false true true ea eb el h = let z : ◌≡◌ {A = ℕ} 0 1 = cc in inl (omega arith)
      go false true false ea eb el h = inr (eqb-true p q eb, ltb-false n m el)
      go false false l ea eb el h = inl (far (eqb-false p q eb) (ltb-false q p ea))

  pub comes_before_gt : q < p → comes_before p n q m ≡ true
  unfolding comes_before
  comes_before_gt h = simp (lt-ltb q p h)

  pub comes_before_eq : p ≡ q → n < m → comes_before p n q m ≡ true
  unfolding comes_before
  comes_before_eq e h = simp (le-ltb q p (le_of_eq e), eq-eqb p q e, lt-ltb n m h)

  pub comes_before_lt : p < q → comes_before p n q m ≡ false
  unfolding comes_before
  comes_before_lt h =
      let away : p ≡ q → ⊥ = λ e. omega arith in
      let under : p ≤ q = omega arith in
      simp (le-ltb q p under, ne_eqb p q away)

  pub comes_before_ge : p ≡ q → m ≤ n → comes_before p n q m ≡ false
  unfolding comes_before
  comes_before_ge e h = simp (le-ltb q p (le_of_eq e), eq-eqb p q e, le-ltb n m h)

pub comes_before_self : (p n : ℕ) → comes_before p n p n ≡ false
comes_before_self p n = comes_before_ge p n p n refl (le_refl n)

pub comes_before_asym : (p n q m : ℕ) → comes_before p n q m ≡ true → comes_before q m p n ≡ false
comes_before_asym p n q m e = go (comes_before-yes p n q m e)
  where
    go : (q < p) ⊎ ((p ≡ q) × (n < m)) → comes_before q m p n ≡ false
    go (inl h) = comes_before_lt q m p n h
    go (inr h) = comes_before_ge q m p n (sym h.0) (omega arith)

pub comes_before_trans : (p n q m s l : ℕ) → comes_before p n q m ≡ true → comes_before q m s l ≡ true → comes_before p n s l ≡ true
comes_before_trans p n q m s l e f = go (comes_before-yes p n q m e) (comes_before-yes q m s l f)
  where
    go : (q < p) ⊎ ((p ≡ q) × (n < m)) → (s < q) ⊎ ((q ≡ s) × (m < l)) → comes_before p n s l ≡ true
    go (inl h) (inl k) = comes_before_gt p n s l (omega arith)
    go (inl h) (inr k) = comes_before_gt p n s l (omega arith)
    go (inr h) (inl k) = comes_before_gt p n s l (omega arith)
    go (inr h) (inr k) = comes_before_eq p n s l (omega arith) (omega arith)

pub comes_before_past : (p n q m s l : ℕ) → comes_before p n q m ≡ true → comes_before s l q m ≡ false → comes_before p n s l ≡ true
comes_before_past p n q m s l e f = go (comes_before-yes p n q m e) (comes_before_no s l q m f)
  where
    go : (q < p) ⊎ ((p ≡ q) × (n < m)) → (s < q) ⊎ ((s ≡ q) × (m ≤ l)) → comes_before p n s l ≡ true
    go (inl h) (inl k) = comes_before_gt p n s l (omega arith)
    go (inl h) (inr k) = comes_before_gt p n s l (omega arith)
    go (inr h) (inl k) = comes_before_gt p n s l (omega arith)
    go (inr h) (inr k) = comes_before_eq p n s l (omega arith) (omega arith)

pub comes_before_tied : (p n q m : ℕ) → comes_before p n q m ≡ false → comes_before q m p n ≡ false → (p ≡ q) × (n ≡ m)
comes_before_tied p n q m e f = go (comes_before_no p n q m e) (comes_before_no q m p n f)
  where
    go : (p < q) ⊎ ((p ≡ q) × (m ≤ n)) → (q < p) ⊎ ((q ≡ p) × (n ≤ m)) → (p ≡ q) × (n ≡ m)
    go (inl h) (inl k) = (omega arith, omega arith)
    go (inl h) (inr k) = (omega arith, omega arith)
    go (inr h) (inl k) = (omega arith, omega arith)
    go (inr h) (inr k) = (h.0, omega arith)

pub pairs_in_order : (p n q m : ℕ) → partial_lt (λ (x y : ℕ × ℕ). partial_ordering_then (Some (nat_cmp x.0 y.0)) (Some (nat_cmp x.1 y.1))) (q, n) (p, m) ≡ comes_before p n q m
unfolding comes_before
pairs_in_order p n q m = go (ltb q p) (eqb q p) (ltb n m) refl refl refl
  where
    behind : (b : Bool) → is_lt (cond b Equal Greater) ≡ false
    behind true = refl
    behind false = refl

    go : (a b l : Bool) → ltb q p ≡ a → eqb q p ≡ b → ltb n m ≡ l
        → partial_lt (λ (x y : ℕ × ℕ). partial_ordering_then (Some (nat_cmp x.0 y.0)) (Some (nat_cmp x.1 y.1))) (q, n) (p, m) ≡ ltb q p || (eqb p q && ltb n m)
    go true b l ea eb el = rw ea
    go false true true ea eb el = rw (ea, eb, el, eq-eqb p q (sym (eqb-true q p eb)))
    go false true false ea eb el = rw (ea, eb, el, eq-eqb p q (sym (eqb-true q p eb))) (behind (eqb n m))
    go false false l ea eb el = rw (ea, eb, ne_eqb p q (λ e. eqb-false q p eb (sym e)))
