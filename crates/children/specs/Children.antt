-- Children: the elements of a row as they are given one after the other.
--
--   children_in msg row         the row's elements in byte order, each with its type, its place and its value's length
--   left s                      those that an iterator has still to give
--   places_in kind cs           where those of this type stand
--   fold_children step cs so    what these elements, taken up one after the other, make of `so`
--
-- Trusts: nothing.
use Rattle.std.specs.Prelude.{ℕ, List, [], ◌∷◌, map, filter, ◌==◌}
use Rattle.children.specs.Rows.{Row, done, bad, item, row_in, type_at}
use Rattle.children.specs.declared.Child.{Child}
use Rattle.children.specs.declared.Children.{Children}

abbrev pub children_in : List ℕ → Row → List Child
children_in msg done = []
children_in msg (bad at n) = []
children_in msg (item at len rest) = record { kind = type_at msg at; at = at; len = len } ∷ children_in msg rest

unfoldable pub left : Children → List Child
left s = children_in s.message.now (row_in s.message.now s.at s.end)

abbrev pub places_in : ℕ → List Child → List ℕ
places_in kind cs = map (λ c. c.at) (filter (λ c. c.kind == kind) cs)

abbrev pub fold_children : {A : Type 0} → (ℕ → ℕ → A → A) → List Child → A → A
fold_children step [] so = so
fold_children step (c ∷ cs) so = fold_children step cs (step c.at c.len so)
