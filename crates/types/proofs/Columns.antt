-- The words of the table tell the answers of the look-up apart (specs/Columns.antt).
--
--   columns_only     two types with the same columns are the same      found_only   two answers told alike are the same
--   found_listed     an answer with columns: the type is listed, and these are its; found_unlisted: an answer without
--   place_of_some, place_of_none    the place of a listed type, and of one that is not; place_found, place_missed: back
-- Trusts: nothing.
use mathlib.Core.Path.{◌≡◌, refl, sym, ap, ◌∙◌}
use mathlib.Core.Bool.{Bool, true, false, cond}
use Prim.Native.Nat.{ℕ, ◌<◌, ◌≤◌}
use Rattle.std.proofs.Common.{Option, None, Some}
use borrow.Author.Tests.{lt-ltb, ltb-true, ltb-false, eqb-true, eqb-false}
use lib.Dec.{eqb, ltb}
use Rattle.types.specs.declared.Length.{Length}
use Rattle.types.specs.declared.Length.TheVariants.{Row, Bytes, NoneOr, OrMore}
use Rattle.types.specs.declared.Values.{Values}
use Rattle.types.specs.declared.Values.TheVariants.{Any, NotZero, Channel}
use Rattle.types.specs.declared.Known.{Known}
use Rattle.types.specs.Columns.{Lengths, row, bytes, none_or, or_more, lengths, Allowed, any, not_zero, channel, allowed, Columns, columns, Found, unlisted, known, found, listed, place_of}

length_as : Lengths → Length
length_as row = Row
length_as (bytes n) = Bytes n
length_as (none_or n) = NoneOr n
length_as (or_more n) = OrMore n

length_as_back : (l : Length) → length_as (lengths l) ≡ l
unfolding lengths length_as
length_as_back Row = refl
length_as_back (Bytes n) = refl
length_as_back (NoneOr n) = refl
length_as_back (OrMore n) = refl

values_as : Allowed → Values
values_as any = Any
values_as not_zero = NotZero
values_as channel = Channel

values_as_back : (v : Values) → values_as (allowed v) ≡ v
unfolding allowed values_as
values_as_back Any = refl
values_as_back NotZero = refl
values_as_back Channel = refl

known_as : Columns → Known
known_as c =
    record { place = c.place; length = length_as c.length; repeats = c.repeats; values = values_as c.values; room = c.room; list = c.list }

known_as_back : (k : Known) → known_as (columns k) ≡ k
unfolding columns known_as
known_as_back k = rw (length_as_back k.length, values_as_back k.values)

pub columns_only : (j k : Known) → columns j ≡ columns k → j ≡ k
columns_only j k e = sym (known_as_back j) ∙ ap known_as e ∙ known_as_back k

found_as : Found → Option Known
found_as unlisted = None
found_as (known c) = Some (known_as c)

found_as_back : (o : Option Known) → found_as (found o) ≡ o
unfolding found found_as
found_as_back None = refl
found_as_back (Some k) = ap Some (known_as_back k)

pub found_only : (j k : Option Known) → found j ≡ found k → j ≡ k
found_only j k e = sym (found_as_back j) ∙ ap found_as e ∙ found_as_back k

pub found_listed : (k u : Known) → found (Some k) ≡ found (listed u) → (k ≡ u) × (k.place ≡ 26 → ⊥)
unfolding listed
found_listed k u e = go (eqb u.place 26) refl (found_only _ _ e)
  where
    go : (b : Bool) → eqb u.place 26 ≡ b → Some k ≡ cond b None (Some u) → (k ≡ u) × (k.place ≡ 26 → ⊥)
    go true z h = absurd (cc)
    go false z h = let same : k ≡ u = cc in (same, λ y. eqb-false u.place 26 z (rw (← same) y))

pub found_unlisted : (u : Known) → found None ≡ found (listed u) → u.place ≡ 26
unfolding listed
found_unlisted u e = go (eqb u.place 26) refl (found_only _ _ e)
  where
    go : (b : Bool) → eqb u.place 26 ≡ b → None ≡ cond b None (Some u) → u.place ≡ 26
    go true z h = eqb-true _ _ z
    go false z h = absurd (cc)

pub place_of_some : (n : ℕ) → n < 26 → place_of n ≡ Some n
unfolding place_of
place_of_some n h = simp (lt-ltb _ _ h)

pub place_of_none : place_of 26 ≡ None
unfolding place_of
place_of_none = refl

pub place_found : (n k : ℕ) → place_of n ≡ Some k → (k ≡ n) × (k < 26)
unfolding place_of
place_found n k = go (ltb n 26) refl
  where
    go : (b : Bool) → ltb n 26 ≡ b → cond b (Some n) None ≡ Some k → (k ≡ n) × (k < 26)
    go true z h = let same : k ≡ n = cc in (same, rw same (ltb-true n 26 z))
    go false z h = absurd (cc)

pub place_missed : (n : ℕ) → place_of n ≡ None → 26 ≤ n
unfolding place_of
place_missed n = go (ltb n 26) refl
  where
    go : (b : Bool) → ltb n 26 ≡ b → cond b (Some n) None ≡ None → 26 ≤ n
    go true z h = absurd (cc)
    go false z h = ltb-false n 26 z
