-- Lists of which the first n are used: what filling the next place does.
--
--   front-more   one more is used: the one that is stored at place n
-- Trusts: nothing.
use Prim.Native.Nat.{ℕ, ◌+◌, ◌<◌}
use mathlib.Core.Path.{◌≡◌}
use mathlib.Core.List.{List, [], ◌∷◌, map}
use native.Mathlib.Numerals.{add-one}
use lib.ListN.{length, take, set}
use lib.Seq.{take-suc-set}
use Rattle.named.proofs.Lists.{map-append}

-- a list of values, and the list of their numbers: the next of both is stored
pub front-more : {A : Type 0} (f : A → ℕ) (l : List A) (m : List ℕ) (n : ℕ) (a : A) → n < length l → n < length m
    → take n m ≡ map f (take n l) → take (n + 1) (set m n (f a)) ≡ map f (take (n + 1) (set l n a))
front-more f l m n a h k e =
    rw (add-one n, take-suc-set m n (f a) k, take-suc-set l n a h, map-append f (take n l) (a ∷ []), e)
