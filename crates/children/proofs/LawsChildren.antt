-- Laws of children_in and fold_children (specs/Children.antt).
--
--   children_none, children_first   no element stands at a place; an element, and the children behind it
--   inside-none, inside_row         the children of an element: none where none stands; else those of its value's row
--   no_row                          a row without bytes has no children
--   places_same                     where the children of a type stand
--   fold_same                       a fold over the children is the fold over the row
-- Trusts: nothing.
use Prim.Native.Nat.{ℕ, ◌+◌, ◌≤◌}
use mathlib.Core.Path.{◌≡◌, refl}
use mathlib.Core.List.{List, [], ◌∷◌}
use lib.ListN.{length}
use Rattle.std.proofs.Common.{Option, Some, Bool, true, false, cond, eqb, map}
use Rattle.std.specs.Prelude.{filter, ◌==◌}
use Rattle.elements.specs.Elements.{value_in, head_at, length_byte}
use Rattle.elements.proofs.Stood.{value_some, value_none}
use Rattle.children.specs.declared.Child.{Child}
use Rattle.children.specs.Rows.{Row, done, bad, item, row_from, row_in, row_inside, row_fold, type_at, places_of}
use Rattle.children.specs.Children.{children_in, fold_children, places_in}
use Rattle.children.proofs.Laws.{row_in_stop, row_in_item, row_inside-done, row_inside-row, item-fits}

module _ (msg : List ℕ) (at end : ℕ) {o : Option ℕ} (e : o ≡ value_in (head_at msg at end)) where
  pub children_none : ((len : ℕ) → o ≡ Some len → ⊥) → children_in msg (row_in msg at end) ≡ []
  children_none n = row_in_stop (λ row. children_in msg row ≡ []) msg at end refl (value_none e n) refl (λ k. refl)

  module _ {len : ℕ} (v : o ≡ Some len) where
    pub children_first : children_in msg (row_in msg at end) ≡ record { kind = type_at msg at; at = at; len = len } ∷ children_in msg (row_in msg (at + 2 + len) end)
    children_first = simp (row_in_item msg at end refl (value_some e v))

    pub value_fits : (at + 2 + len ≤ end) × (at + 2 + len ≤ length msg) × (len ≡ length_byte msg at)
    value_fits = item-fits msg at end refl (value_some e v)

module _ (msg : List ℕ) (at : ℕ) {o : Option ℕ} (e : o ≡ value_in (head_at msg at (length msg))) where
  pub inside-none : ((len : ℕ) → o ≡ Some len → ⊥) → row_inside msg at ≡ done
  inside-none n = row_inside-done msg at refl (value_none e n)

  pub inside_row : {len : ℕ} → o ≡ Some len → row_inside msg at ≡ row_in msg (at + 2) (at + 2 + len)
  inside_row v = row_inside-row msg at refl (value_some e v)

pub no_row : (msg : List ℕ) → children_in msg (row_in msg 0 0) ≡ []
unfolding row_in row_from
no_row msg = refl

pub fold_same : {A : Type 0} (step : ℕ → ℕ → A → A) (msg : List ℕ) (row : Row) (so : A) → fold_children step (children_in msg row) so ≡ row_fold step row so
fold_same step msg done so = refl
fold_same step msg (bad at n) so = refl
fold_same step msg (item at len rest) so = fold_same step msg rest (step at len so)

pub places_same : (msg : List ℕ) (kind : ℕ) (row : Row) → places_in kind (children_in msg row) ≡ places_of msg kind row
places_same msg kind done = refl
places_same msg kind (bad at n) = refl
places_same msg kind (item at len rest) = rw (← places_same msg kind rest) (on (eqb (type_at msg at) kind))
  where
    those : List Child
    those = filter (λ c. c.kind == kind) (children_in msg rest)

    on : (b : Bool) → map (λ c. c.at) (cond b (record { kind = type_at msg at; at = at; len = len } ∷ those) those) ≡ cond b (at ∷ map (λ c. c.at) those) (map (λ c. c.at) those)
    on true = refl
    on false = refl
