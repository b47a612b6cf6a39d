-- `element_tests::value_place`: beyond the end every number is 0, so the end serves as well as any place behind it.
-- Trusts: nothing.
use Prim.Native.Nat.{ℕ, ◌≤◌, min}
use mathlib.Core.Path.{◌≡◌, refl, sym, ap, ◌∙◌}
use mathlib.Core.Bool.{Bool, true, false}
use mathlib.Core.List.{List}
use native.Mathlib.Omega.{arith}
use borrow.Author.Tests.{leb-true, leb-false}
use lib.Dec.{leb}
use lib.ListN.{length}
use Rattle.numbers.specs.Numbers.{number_at}
use Rattle.numbers.proofs.Laws.{number_at_past}
use Rattle.element_tests.proofs.value_place.Goals as goal

clamped : (b : List ℕ) (j r : ℕ) → r ≡ min j (length b) → (w : ℕ) → number_at w b r ≡ number_at w b j
clamped b j r e w = go (leb (length b) j) refl
  where
    go : (x : Bool) → leb (length b) j ≡ x → number_at w b r ≡ number_at w b j
    go true z =
        let past : length b ≤ j = leb-true _ _ z in
        number_at_past w b r (omega arith) ∙ sym (number_at_past w b j past)
    go false z =
        let before = leb-false (length b) j z in
        let same : r ≡ j = omega (arith, before) in ap (number_at w b) same

pub returns : goal.returns
returns c = clamped _ _ _ (omega arith)
