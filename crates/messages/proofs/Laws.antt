-- Laws of the parts that a message is lent from (specs/Answers.antt of collector), by where it stands.
--
--   own_part-bytes, joined_part-bytes   their bytes
--   joined_of-front, joined_part-at     the join buffer's part stands at its start, by its bytes and by its place
--   placed_only                       two places with the same three numbers are one (specs/Place.antt)
-- Trusts: nothing.
use Prim.Native.Nat.{ℕ, zero, suc, ◌+◌, min}
use native.Mathlib.Omega.{arith}
use mathlib.Core.Path.{◌≡◌, refl, ap}
use Rattle.std.specs.Prelude.{Option}
use mathlib.Core.Bool.{Bool, true, false}
use mathlib.Core.List.{List, [], ◌∷◌}
use lib.ListN.{length, take}
use lib.Dec.{eqb}
use Rattle.collector.specs.Answers.{Said, refused, again, waiting, complete, dropped, in_body, in_join, place_of, own_of, joined_of}
use Rattle.wire.specs.Parts.{Part}
use Rattle.messages.specs.Place.{placed, own_part, joined_part}
use Rattle.messages.specs.declared.Place as code

-- ---- the parts, where they stand

pub own_part-bytes : (a : Said) (number : ℕ) (x : Part) → (own_part a number x).bytes ≡ own_of a number x.bytes
unfolding own_part own_of
own_part-bytes a number x = go (eqb (place_of a number).source in_body) refl where
  go : (t : Bool) → eqb (place_of a number).source in_body ≡ t → (own_part a number x).bytes ≡ own_of a number x.bytes
  go true e = rw e refl
  go false e = rw e refl

pub joined_part-bytes : (a : Said) (number : ℕ) (x : Part) → (joined_part a number x).bytes ≡ joined_of a number x.bytes
unfolding joined_part joined_of
joined_part-bytes a number x = go (eqb (place_of a number).source in_join) refl where
  go : (t : Bool) → eqb (place_of a number).source in_join ≡ t → (joined_part a number x).bytes ≡ joined_of a number x.bytes
  go true e = rw e refl
  go false e = rw e refl

take-front : (n : ℕ) (l : List ℕ) → take (length (take n l)) l ≡ take n l
take-front zero l = refl
take-front (suc n) [] = refl
take-front (suc n) (x ∷ l) = ap (λ (r : List ℕ). x ∷ r) (take-front n l)

pub joined_of-front : (a : Said) (number : ℕ) (join : List ℕ) → take (length (joined_of a number join)) join ≡ joined_of a number join
unfolding joined_of
joined_of-front (refused n) number join = refl
joined_of-front again number join = refl
joined_of-front (waiting k) number join = refl
joined_of-front (complete n) number join = go (eqb number 1) refl where
  go : (t : Bool) → eqb number 1 ≡ t → take (length (joined_of (complete n) number join)) join ≡ joined_of (complete n) number join
  go true e = rw e refl
  go false e = rw e (take-front n join)
joined_of-front (dropped cut) number join = refl

pub joined_part-at : (a : Said) (number : ℕ) (x : Part) → (joined_part a number x).at ≡ x.at
unfolding joined_part
joined_part-at (refused n) number x = refl
joined_part-at again number x = refl
joined_part-at (waiting k) number x = refl
joined_part-at (complete n) number x = go (eqb number 1) refl where
  go : (t : Bool) → eqb number 1 ≡ t → (joined_part (complete n) number x).at ≡ x.at
  go true e = rw e refl
  go false e =
      let m : min 0 (length x.bytes) + x.at.1 ≡ x.at.1 = omega arith in
      rw (e, m) refl
joined_part-at (dropped cut) number x = refl

pub placed_only : (p q : Option code.Place) → placed p ≡ placed q → p ≡ q
placed_only p q e = grind arith
