-- A list that is filled on a walk over a row: by the elements of one type, in byte order, as far as it has room.
--
--   Takes room old a now   what the list becomes when a value is put to it
--   filled                 the list after the walk
--   stored, full           the same of an array of which the first n are used: the next place, and no place left
-- Trusts: nothing.
use Prim.Native.Nat.{ℕ, ◌+◌, ◌≤◌, ◌<◌}
use mathlib.Core.Path.{◌≡◌, refl, sym, ap, ◌∙◌}
use mathlib.Core.Bool.{Bool, true, false, cond}
use mathlib.Core.List.{List, [], ◌∷◌, ◌++◌, map, append-nil}
use mathlib.Core.Logic.{◌⊎◌, inl, inr}
use native.Mathlib.Omega.{arith}
use native.Mathlib.Numerals.{add-one}
use borrow.Author.Tests.{le-ltb}
use lib.ListN.{length, take, set}
use lib.Seq.{length-take-le, append_snoc, take-append-le, take-suc-set}
use lib.Dec.{eqb}
use Rattle.table.specs.Table.{limited_to}
use Rattle.children.specs.Rows.{Row, done, bad, item, row_fold, type_at, places_of}

-- the value is put at the end of the list, or the list is full and stays
abbrev pub Takes : {A : Type 0} → ℕ → List A → A → List A → Type 0
Takes room old a now = (now ≡ old ++ (a ∷ [])) ⊎ ((room ≤ length old) × (now ≡ old))

-- `list_of` is filled by the elements of one type, each with its value; `Sized` is what the walk keeps
module _ {S A : Type 0} (list_of : S → List A) (room : ℕ) (Sized : S → Type 0) (msg : List ℕ) (kind : ℕ) (step : ℕ → ℕ → S → S) (value : ℕ → A)
    (keep : (at len : ℕ) (s : S) → Sized s → Sized (step at len s))
    (other : (at len : ℕ) (s : S) → eqb (type_at msg at) kind ≡ false → list_of (step at len s) ≡ list_of s)
    (more : (at len : ℕ) (s : S) → Sized s → eqb (type_at msg at) kind ≡ true → Takes room (list_of s) (value at) (list_of (step at len s))) where
  -- the values of that type in a row
  abbrev values : Row → List A
  values row = map value (places_of msg kind row)

  pub filled : (row : Row) (s : S) → Sized s → take room (list_of (row_fold step row s)) ≡ take room (list_of s ++ map value (places_of msg kind row))
  filled done s p = ap (take room) (sym (append-nil (list_of s)))
  filled (bad at n) s p = ap (take room) (sym (append-nil (list_of s)))
  filled (item at len rest) s p = on (eqb (type_at msg at) kind) refl (filled rest (step at len s) (keep at len s p))
    where
      next : S
      next = step at len s

      taken : Takes room (list_of s) (value at) (list_of next) → take room (list_of next ++ values rest) ≡ take room (list_of s ++ (value at ∷ values rest))
      taken (inl e) = ap (λ l. take room (l ++ values rest)) e ∙ ap (take room) (append_snoc (list_of s) (value at) (values rest))
      taken (inr f) =
          ap (λ l. take room (l ++ values rest)) f.1
          ∙ take-append-le room (list_of s) (values rest) f.0
          ∙ sym (take-append-le room (list_of s) (value at ∷ values rest) f.0)

      on : (b : Bool) → eqb (type_at msg at) kind ≡ b → take room (list_of (row_fold step rest next)) ≡ take room (list_of next ++ values rest)
          → take room (list_of (row_fold step rest next)) ≡ take room (list_of s ++ map value (cond b (at ∷ places_of msg kind rest) (places_of msg kind rest)))
      on false e h = h ∙ ap (λ l. take room (l ++ values rest)) (other at len s e)
      on true e h = h ∙ taken (more at len s p e)

-- an array of which the first n are used: one more is stored at the next place
pub stored : {A : Type 0} (room n : ℕ) (l : List A) (a : A) → n < room → length l ≡ room → take (limited_to room (n + 1)) (set l n a) ≡ take (limited_to room n) l ++ (a ∷ [])
stored room n l a h e = rw (le-ltb room (n + 1) (omega arith), le-ltb room n (omega arith), add-one n, take-suc-set l n a (omega arith)) refl

pub full : {A : Type 0} (room n : ℕ) (l : List A) → room ≤ n → n ≤ room → length l ≡ room → room ≤ length (take (limited_to room n) l)
full room n l h k e = rw (le-ltb room n k, length-take-le n l (omega arith)) h
