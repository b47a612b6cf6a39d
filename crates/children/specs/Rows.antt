-- Rows: the elements of a row in byte order, and what a walk over them leaves (document 01, "Elements").
--
--   Row                   a row from a place on: its end (done), a head that is refused (bad), or an element and the row behind it (item)
--   row_in msg at end      the row of the message from `at` to `end`
--   row_inside msg at      the row that the value of the message's element at `at` is; done where no element stands
--   row_fold step row so   what the row's elements, taken up in byte order, make of `so`; a refused head ends the walk
--   type_at msg at         the type byte of the element at `at`
--   places_of msg kind row where the row's elements of this type stand
--
-- The count in row_from is of bytes left, of which every element takes two or more: the law row_in_rule of proofs/Laws.antt removes it.
-- Nothing here tests more than heads (6 to 8).
-- Tested by: proofs/Bench.antt of the crate reader.
-- Trusts: nothing.
use Rattle.std.specs.Prelude.{ℕ, zero, suc, ◌+◌, ◌-◌, cond, List, [], ◌∷◌, length, get_or, eqb}
use Rattle.elements.specs.Elements.{Head, End, Refused, Value, head_at}

-- `bad at n`: the head at `at` earns refusal n. `item at len rest`: the element whose type byte is at `at`, with a value of len bytes.
pub data Row : Type 0 where
  done : Row
  bad : ℕ → ℕ → Row
  item : ℕ → ℕ → Row → Row

-- the row whose first head is this one; `rest` gives the row from a later place on
abbrev pub row_with : (ℕ → Row) → ℕ → Head → Row
row_with rest at End = done
row_with rest at (Refused n) = bad at n
row_with rest at (Value len) = item at len (rest (at + 2 + len))

unfoldable pub row_from : ℕ → List ℕ → ℕ → ℕ → Row
row_from zero msg at end = done
row_from (suc left) msg at end = row_with (λ next. row_from left msg next end) at (head_at msg at end)

unfoldable pub row_in : List ℕ → ℕ → ℕ → Row
row_in msg at end = row_from (end - at) msg at end

-- the row in the value of the element with this head
abbrev pub row_of_head : List ℕ → ℕ → Head → Row
row_of_head msg at End = done
row_of_head msg at (Refused n) = done
row_of_head msg at (Value len) = row_in msg (at + 2) (at + 2 + len)

unfoldable pub row_inside : List ℕ → ℕ → Row
row_inside msg at = row_of_head msg at (head_at msg at (length msg))

abbrev pub row_fold : {A : Type 0} → (ℕ → ℕ → A → A) → Row → A → A
row_fold step done so = so
row_fold step (bad at n) so = so
row_fold step (item at len rest) so = row_fold step rest (step at len so)

abbrev pub type_at : List ℕ → ℕ → ℕ
type_at msg at = get_or msg at 0

abbrev pub places_of : List ℕ → ℕ → Row → List ℕ
places_of msg kind done = []
places_of msg kind (bad at n) = []
places_of msg kind (item at len rest) = cond (eqb (type_at msg at) kind) (at ∷ places_of msg kind rest) (places_of msg kind rest)
