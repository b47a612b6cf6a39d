-- Laws of `padded` (specs/Table.antt): a list in an array.
--
--   padded-more     the next place filled: one entry more          take-padded     the list out of its array
-- Trusts: nothing.
use Prim.Native.Nat.{ℕ, zero, suc, ◌-◌, ◌≤◌, ◌<◌}
use mathlib.Core.Path.{◌≡◌, refl, sym, ap, ◌∙◌}
use mathlib.Core.List.{List, [], ◌∷◌, ◌++◌, append_assoc}
use native.Mathlib.Omega.{arith}
use borrow.Author.Tests.{le-ltb}
use lib.ListN.{length, take, set, replicate, length-append}
use lib.Seq.{set-append_seam, take-append_seam}
use Rattle.table.specs.Table.{limited_to, padded}

module _ {A : Type 0} (limit : ℕ) (d : A) (xs : List A) where
  pub padded-more : (x : A) → length xs < limit → set (padded limit d xs) (length xs) x ≡ padded limit d (xs ++ (x ∷ []))
  unfolding padded
  padded-more x h = on (limit - length xs) refl
    where
      on : (m : ℕ) → limit - length xs ≡ m → set (xs ++ replicate m d) (length xs) x ≡ (xs ++ (x ∷ [])) ++ replicate (limit - length (xs ++ (x ∷ []))) d
      on zero e = absurd (omega arith)
      on (suc m) e =
          let f : m ≡ limit - length (xs ++ (x ∷ [])) = omega (arith, length-append xs (x ∷ [])) in
          set-append_seam xs d (replicate m d) x ∙ sym (append_assoc xs (x ∷ []) (replicate m d)) ∙ ap (λ (k : ℕ). (xs ++ (x ∷ [])) ++ replicate k d) f

  pub take-padded : length xs ≤ limit → take (limited_to limit (length xs)) (padded limit d xs) ≡ xs
  unfolding padded
  take-padded h = rw (le-ltb limit (length xs) h) (take-append_seam xs (replicate (limit - length xs) d))
