-- Lists of which the first n are used: what stands next on a walk over them.
--
--   front-next   at place i of the first n      front-end   past the last of them
--   map-append   what a joined list is mapped to
-- Trusts: nothing.
use Prim.Native.Nat.{ℕ, ◌+◌, ◌≤◌, ◌<◌}
use mathlib.Core.Path.{◌≡◌, refl, sym, ap, ◌∙◌}
use mathlib.Core.List.{List, [], ◌∷◌, ◌++◌, map}
use native.Mathlib.Omega.{arith}
use native.Mathlib.Numerals.{add-one}
use lib.ListN.{length, take, drop, get_or, length-take, drop_of_length-le}
use lib.Seq.{drop-cons, length-take-le, get_or-take}

module _ {A : Type 0} (l : List A) (d : A) (n i : ℕ) (h : i < n) (k : n ≤ length l) where
  pub front-next : drop i (take n l) ≡ get_or l i d ∷ drop (i + 1) (take n l)
  front-next =
      drop-cons (take n l) i d (rw (length-take-le n l k) h)
      ∙ rw (get_or-take n l i d h) (ap (λ (j : ℕ). get_or l i d ∷ drop j (take n l)) (sym (add-one i)))

pub front-end : {A : Type 0} (l : List A) (n i : ℕ) → n ≤ i → drop i (take n l) ≡ []
front-end l n i h = drop_of_length-le (take n l) {i = i} (simp length-take (omega arith))

pub map-append : {A B : Type 0} (f : A → B) (s t : List A) → map f (s ++ t) ≡ map f s ++ map f t
map-append f [] t = refl
map-append f (x ∷ s) t = ap (λ l. f x ∷ l) (map-append f s t)
