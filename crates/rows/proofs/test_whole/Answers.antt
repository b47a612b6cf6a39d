-- `rows::test_whole` gives `tested_at` for an element whose head is whole: one return where it is refused and one where it is not.
-- Trusts: nothing.
use Rattle.std.proofs.Common.{arith, ◌≡◌, ◌+◌, ◌≤◌, List, ℕ, length, refl, sym}
use Rattle.elements.specs.Elements.{Value, head_at}
use Rattle.elements.proofs.Laws.{head_at-fits}
use Rattle.rows.specs.Told.{fault_of, tested_of}
use Rattle.rows.proofs.Ways.{top_goes}
use Rattle.rows.proofs.test_whole.Goals as goal

-- the value lies in the message
fits : (msg : List ℕ) (at : ℕ) {len : ℕ} → Value len ≡ head_at msg at (length msg) → at + 2 + len ≤ length msg
fits msg at e = (head_at-fits msg at (length msg) (sym e)).1

pub overflow_add-place : goal.overflow_add-place
overflow_add-place c = omega (arith, fits _ _ c.requires)

pub overflow_add-place-2 : goal.overflow_add-place-2
overflow_add-place-2 c = omega (arith, fits _ _ c.requires)

pub element-requires : goal.element-requires
element-requires c = fits _ _ c.requires

-- the element is refused
pub returns-in-Err : goal.returns-in-Err
unfolding tested_of fault_of
returns-in-Err c = top_goes _ _ _ c.requires refl refl c.in-Err.ensures.fault c.in-Err.ensures.counted

-- it is fine
pub returns : goal.returns
unfolding tested_of fault_of
returns c = top_goes _ _ _ c.requires refl refl c.in_default.ensures.fault c.in_default.ensures.counted
