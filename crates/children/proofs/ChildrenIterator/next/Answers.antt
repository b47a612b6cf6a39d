-- `next` gives the first of what is left, or ends where no element stands.
-- Trusts: nothing.
use mathlib.Core.Path.{◌≡◌, sym, ap, ◌∙◌}
use Rattle.std.proofs.Common.{ℕ, ◌+◌, ◌∷◌, length, Option, Some, None}
use native.Mathlib.Omega.{arith}
use Rattle.children.specs.Children.{left}
use Rattle.children.proofs.LawsChildren.{children_none, children_first, value_fits}
use Rattle.children.proofs.ChildrenIterator.next.Goals as goal

pub returns-in_err-len-clause-steps : goal.returns-in_err-len-clause-steps
unfolding left
returns-in_err-len-clause-steps c = rw c.from_residual.ensures (let e = children_none _ _ _ c.value_at.ensures (λ len v. let z : ◌≡◌ {A = Option ℕ} None (Some len) = sym c.in_err-len.was ∙ v in cc) in (e, e))

pub overflow_add-self : goal.overflow_add-self
overflow_add-self c = let f = value_fits _ _ _ c.value_at.ensures c.in_ok-len.was in omega arith

pub overflow_add-self-2 : goal.overflow_add-self-2
overflow_add-self-2 c = let f = value_fits _ _ _ c.value_at.ensures c.in_ok-len.was in omega arith

pub bounds-self-at : goal.bounds-self-at
bounds-self-at c = let f = value_fits _ _ _ c.value_at.ensures c.in_ok-len.was in omega arith

pub returns-clause-steps : goal.returns-clause-steps
unfolding left
returns-clause-steps c = children_first _ _ _ c.value_at.ensures c.in_ok-len.was

pub returns-clause-goes : goal.returns-clause-goes
unfolding left
returns-clause-goes c =
    let e : left c.args.self.now ≡ _ ∷ left (record { message = c.args.self.now.message; at = c.args.self.now.at + 2 + c.in_ok-len.len; end = c.args.self.now.end }) = children_first _ _ _ c.value_at.ensures c.in_ok-len.was in
    record { on = λ _. (tt, tt, omega (arith, ap length e)); keeps = tt; rests = λ _. tt }
