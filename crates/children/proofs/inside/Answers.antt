-- `children::inside` gives the children of the element's value.
-- Trusts: nothing.
use mathlib.Core.Path.{◌≡◌, sym, ◌∙◌}
use Rattle.std.proofs.Common.{ℕ, Option, Some, None}
use native.Mathlib.Omega.{arith}
use Rattle.children.proofs.LawsChildren.{inside-none, inside_row, value_fits, no_row}
use Rattle.children.proofs.inside.Goals as goal

pub overflow_add-at : goal.overflow_add-at
overflow_add-at c = let f = value_fits _ _ _ c.value_at.ensures c.in-Some.is in omega arith

pub overflow_add-at-in-Some : goal.overflow_add-at-in-Some
overflow_add-at-in-Some c = let f = value_fits _ _ _ c.value_at.ensures c.in-Some.is in omega arith

pub overflow_add-at-in-Some-2 : goal.overflow_add-at-in-Some-2
overflow_add-at-in-Some-2 c = let f = value_fits _ _ _ c.value_at.ensures c.in-Some.is in omega arith

pub returns-in-Some : goal.returns-in-Some
returns-in-Some c = rw (inside_row _ _ c.value_at.ensures c.in-Some.is) c.children_of.ensures

pub returns-in-None : goal.returns-in-None
returns-in-None c =
    let none = inside-none _ _ c.value_at.ensures (λ len v. let z : ◌≡◌ {A = Option ℕ} None (Some len) = sym c.in-None.is ∙ v in cc) in
    rw none (c.children_of-in-None.ensures ∙ no_row _)
