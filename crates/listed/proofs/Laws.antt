-- Laws of is_listed and is_among (specs/Listed.antt), and of a list of which the first are meant.
--
--   limited_le                     a count that is read as its limit at most
--   front-all, back_all            a count above the length means all: the first ones, and those behind
--   listed_append                  a number in a joined list
--   distinct_last, distinct_more   a number more at the end: whether none stands twice, and where none does
--   among_hit, among_miss          one more place of a list is looked at
--   is_among_listed, is_among-front  the two say the same of the first places of a list that has them
-- Trusts: nothing.
use Prim.Native.Nat.{ℕ, zero, suc, ◌+◌, ◌≤◌}
use mathlib.Core.Path.{◌≡◌, refl, sym, ap, ◌∙◌}
use mathlib.Core.Bool.{Bool, true, false, cond, not, ◌&&◌, ◌||◌}
use mathlib.Core.List.{List, [], ◌∷◌, ◌++◌}
use native.Mathlib.Omega.{arith}
use native.Mathlib.Numerals.{add-one}
use borrow.Author.Tests.{eq-eqb, eqb-true, eqb-false, ne_eqb, ltb-true}
use lib.ListN.{length, take, drop, get_or, drop_of_length-le}
use lib.Seq.{take-suc, take_all}
use lib.Dec.{eqb, ltb}
use Rattle.table.specs.Table.{limited_to}
use Rattle.table.proofs.Laws.{limited_to_le}
use Rattle.listed.specs.Listed.{is_listed, is_distinct, is_among}

pub limited_le : (limit n : ℕ) {m : ℕ} → m ≡ limited_to limit n → m ≤ limit
limited_le limit n e = rw e (limited_to_le limit n)

-- the first n of a list that has no more than the limit
pub front-all : {A : Type 0} (l : List A) (limit n : ℕ) → length l ≡ limit → take (limited_to limit n) l ≡ take n l
front-all l limit n e = on (ltb limit n) refl
  where
    on : (b : Bool) → ltb limit n ≡ b → take (cond b limit n) l ≡ take n l
    on true y = let h = ltb-true limit n y in take_all limit l (omega arith) ∙ sym (take_all n l (omega arith))
    on false y = refl

-- those behind the first n
pub back_all : {A : Type 0} (l : List A) (limit n : ℕ) → length l ≡ limit → drop (limited_to limit n) l ≡ drop n l
back_all l limit n e = on (ltb limit n) refl
  where
    on : (b : Bool) → ltb limit n ≡ b → drop (cond b limit n) l ≡ drop n l
    on true y = let h = ltb-true limit n y in drop_of_length-le l {i = limit} (omega arith) ∙ sym (drop_of_length-le l {i = n} (omega arith))
    on false y = refl

pub listed_append : (n : ℕ) (s t : List ℕ) → is_listed n (s ++ t) ≡ (is_listed n s || is_listed n t)
listed_append n [] t = refl
listed_append n (x ∷ s) t = on (eqb x n) (listed_append n s t)
  where
    on : (b : Bool) → is_listed n (s ++ t) ≡ (is_listed n s || is_listed n t) → (b || is_listed n (s ++ t)) ≡ ((b || is_listed n s) || is_listed n t)
    on true e = refl
    on false e = e

-- one more place is looked at
module _ (n : ℕ) (l : List ℕ) (k : ℕ) where
  pub among_hit : get_or l k 0 ≡ n → true ≡ is_among n (k + 1) l
  among_hit e = rw (add-one k, eq-eqb _ _ e)

  pub among_miss : (get_or l k 0 ≡ n → ⊥) → is_among n k l ≡ is_among n (k + 1) l
  among_miss e = rw (add-one k, ne_eqb _ _ e)

pub is_among_listed : (n k : ℕ) (l : List ℕ) → k ≤ length l → is_among n k l ≡ is_listed n (take k l)
is_among_listed n zero l h = refl
is_among_listed n (suc k) l h =
    rw (take-suc l k 0 (omega arith), listed_append n (take k l) (get_or l k 0 ∷ []), ← is_among_listed n k l (omega arith)) (on (eqb (get_or l k 0) n) (is_among n k l))
  where
    on : (a b : Bool) → (a || b) ≡ (b || (a || false))
    on true true = refl
    on true false = refl
    on false true = refl
    on false false = refl

-- a list of 32, of which the first `count` are meant
pub is_among-front : (n count : ℕ) (l : List ℕ) → length l ≡ 32 → is_among n (limited_to 32 count) l ≡ is_listed n (take count l)
is_among-front n count l e =
    let fits = limited_to_le 32 count in
    is_among_listed n (limited_to 32 count) l (omega arith) ∙ ap (λ (s : List ℕ). is_listed n s) (front-all l 32 count e)

-- a number more at the end
pub distinct_last : (l : List ℕ) (n : ℕ) → is_distinct (l ++ (n ∷ [])) ≡ (is_distinct l && not (is_listed n l))
distinct_last [] n = refl
distinct_last (x ∷ l) n = rw (listed_append x l (n ∷ []), distinct_last l n, turned (eqb x n) refl) (on (is_listed x l) (eqb x n) (is_distinct l) (is_listed n l))
  where
    turned : (b : Bool) → eqb x n ≡ b → eqb n x ≡ b
    turned true e = eq-eqb n x (sym (eqb-true x n e))
    turned false e = ne_eqb n x (λ f. eqb-false x n e (sym f))

    on : (a b c d : Bool) → not (a || (b || false)) && (c && not d) ≡ not a && c && not (b || d)
    on true b c d = refl
    on false true true d = refl
    on false true false d = refl
    on false false true d = refl
    on false false false d = refl

pub distinct_more : (l : List ℕ) (n : ℕ) → is_distinct l ≡ true → is_listed n l ≡ false → is_distinct (l ++ (n ∷ [])) ≡ true
distinct_more l n d f = rw (distinct_last l n, d, f)
