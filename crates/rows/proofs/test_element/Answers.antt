-- `rows::test_element` gives `tested_at`: one return for each answer of the head; for a whole head one where the element is refused and
-- one where it is not, be it listed or skipped.
-- Trusts: nothing.
use Rattle.std.proofs.Common.{rules, arith, ◌≡◌, ◌+◌, ◌≤◌, List, ℕ, length, refl, sym, ◌∙◌, Option, None, Some, false}
use Rattle.std.specs.Option.{is_some}
use lib.ListN.{set}
use lib.Seq.{set_out}
use Rattle.elements.specs.Elements.{Head, Value, head_at}
use Rattle.elements.proofs.Laws.{head_at-fits}
use Rattle.elements.proofs.Stood.{stood_value, stood_end, stood_refused}
use Rattle.types.specs.Columns.{found, listed}
use Rattle.types.specs.declared.Known.{Known}
use Rattle.types.proofs.Columns.{found_unlisted}
use Rattle.rows.specs.Told.{fault_of, tested_of}
use Rattle.rows.proofs.Ways.{elem_unlisted, top_ends, top_bad, top_goes}
use Rattle.rows.proofs.test_element.Goals as goal

-- the value that a whole head announces lies in the message
fits : (msg : List ℕ) (at : ℕ) {h : Head} {len : ℕ} → h ≡ head_at msg at (length msg) → h ≡ Value len → at + 2 + len ≤ length msg
fits msg at e b = (head_at-fits msg at (length msg) (sym e ∙ b)).1

-- a count past the eight lists changes none
uncounted : (t : List ℕ) (list count : ℕ) → length t ≡ 8 → 8 ≤ list → t ≡ set t list count
uncounted t list count e h = sym (set_out t list count (omega arith))

-- an answer that is none
missed : (o : Option Known) (u : Known) → is_some o ≡ false → found o ≡ found (listed u) → found None ≡ found (listed u)
missed None u h e = e
missed (Some k) u h e = absurd (cc)

pub bounds-message-at : goal.bounds-message-at
bounds-message-at c = omega (arith, fits _ _ c.read_head.ensures (stood_value c.in-Ok-Some.is c.in-Ok-Some.field-0-is))

pub test_whole-requires : goal.test_whole-requires
test_whole-requires c = sym (stood_value c.in-Ok-Some.is c.in-Ok-Some.field-0-is) ∙ c.read_head.ensures

pub overflow_add-result : goal.overflow_add-result
overflow_add-result c = omega (arith, fits _ _ c.read_head.ensures (stood_value c.in-Ok-Some.is c.in-Ok-Some.field-0-is))

pub overflow_add-result-in-Ok-Some : goal.overflow_add-result-in-Ok-Some
overflow_add-result-in-Ok-Some c = omega (arith, fits _ _ c.read_head.ensures (stood_value c.in-Ok-Some.is c.in-Ok-Some.field-0-is))

pub returns-in-Ok-None : goal.returns-in-Ok-None
unfolding tested_of
returns-in-Ok-None c = top_ends _ _ _ c.read_head.ensures (stood_end c.in-Ok-None.is c.in-Ok-None.field-0-is)

pub returns-in-Err : goal.returns-in-Err
unfolding tested_of
returns-in-Err c = top_bad _ _ _ c.read_head.ensures (stood_refused c.in-Err.is)

-- it is skipped
pub returns-else-is_some : goal.returns-else-is_some
unfolding tested_of fault_of
returns-else-is_some c =
    top_goes _ _ _ c.read_head.ensures (stood_value c.in-Ok-Some.is c.in-Ok-Some.field-0-is)
    (elem_unlisted _ _ _ _ _ (found_unlisted _ (missed _ _ (sym c.is_some.ensures ∙ c.if-is_some.false) c.find_type.ensures)))
    refl
    (uncounted _ 8 0 (search rules) (omega arith))
