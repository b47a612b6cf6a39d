-- What the rule says on each way through the code of `element`, `row_from` and `test_element`: one law for each return and for the turn of the loop.
-- Trusts: nothing.
use mathlib.Core.Path.{◌≡◌, sym, ◌∙◌}
use mathlib.Core.Bool.{Bool, true, false}
use mathlib.Core.List.{List}
use Prim.Native.Nat.{ℕ, ◌+◌}
use borrow.Author.Tests.{eq-eqb, ne_eqb}
use lib.ListN.{length, get_or}
use Rattle.elements.specs.Elements.{Head, End, Refused, Value, head_at}
use Rattle.types.specs.Places.{type_under}
use Rattle.types.specs.declared.Known.{Known}
use Rattle.element_tests.specs.Tests.{stepped, own_tests}
use Rattle.rows.specs.Tests.{is_row, row_end, none_counted}
use Rattle.rows.specs.Rows.{element_with, element_of, noted, row_step, row_of, tested_at}
use Rattle.rows.specs.Told.{fault_of, fault_in}
use Rattle.rows.proofs.Told.{fault_bad}
use Rattle.rows.proofs.Rule.{row-rule}
use Rattle.refusals.specs.declared.Fault.{Fault as Refusing}
use Rattle.std.proofs.Common.{Err}
use Rattle.rows.specs.declared.Tally.{Tally}
use Rattle.element_tests.specs.Tests.{Step}
use Rattle.rows.specs.Tests.{Fault}

module _ (msg : List ℕ) (parent own at end : ℕ) (t : List ℕ) {h : Head} (e : h ≡ head_at msg at end) where
  pub row_ends : {f : Fault} → h ≡ End → f ≡ row_end parent own t → f ≡ row_of msg parent own at end t
  unfolding row_step
  row_ends b x = sym (row-rule msg parent own at end t ∙ simp (← e, b, ← x))

  pub row-bad : {n : ℕ} → h ≡ Refused n → ◌≡◌ {A = Fault} (record { bad = n; off = at }) (row_of msg parent own at end t)
  unfolding row_step
  row-bad b = sym (row-rule msg parent own at end t ∙ simp (← e, b))

  module _ {len : ℕ} {s : Step} (b : h ≡ Value len) (x : s ≡ element_of msg parent at len t) where
    pub row-stops : (f : Refusing) → fault_of at (Err f) ≡ fault_in s → fault_of own (Err f) ≡ row_of msg parent own at end t
    unfolding row_step element_of fault_of
    row-stops f z = z ∙ sym (row-rule msg parent own at end t ∙ simp (← e, b, ← x, ne_eqb _ _ (fault_bad at f z)))

    pub row_goes : {u : List ℕ} → s.bad ≡ 0 → u ≡ noted t s → row_of msg parent own (at + 2 + len) end u ≡ row_of msg parent own at end t
    unfolding row_step element_of
    row_goes z q = sym (row-rule msg parent own at end t ∙ simp (← e, b, ← x, eq-eqb _ _ z, ← q))

module _ (msg : List ℕ) (parent at len : ℕ) (t : List ℕ) where
  pub elem_unlisted : (type_under parent (get_or msg at 0)).place ≡ 26 → stepped 0 at 8 0 ≡ element_of msg parent at len t
  unfolding element_of element_with
  elem_unlisted z = simp (eq-eqb _ _ z)

  -- the element has a listed type, and `own` is what its own tests say
  pub record Own (known : Known) (own : Step) : Type 0 where
    pub typed : known ≡ type_under parent (get_or msg at 0)
    pub listed : known.place ≡ 26 → ⊥
    pub tests : own ≡ own_tests msg known at len (get_or t known.list 0)

  module _ {known : Known} {own : Step} (o : Own known own) where
    pub elem_own : (own.bad ≡ 0 → ⊥) → own ≡ element_of msg parent at len t
    unfolding element_of element_with
    elem_own b = simp (← o.typed, ne_eqb _ _ o.listed, ← o.tests, ne_eqb _ _ b)

    module _ {l : Bool} (b : own.bad ≡ 0) (i : l ≡ is_row known.length) where
      pub elem_leaf : l ≡ false → own ≡ element_of msg parent at len t
      unfolding element_of element_with
      elem_leaf f = simp (← o.typed, ne_eqb _ _ o.listed, ← o.tests, eq-eqb _ _ b, ← i, f)

      module _ {inner : Fault} (y : l ≡ true) (x : inner ≡ row_of msg known.place at (at + 2) (at + 2 + len) none_counted) where
        pub elem_inner : (inner.bad ≡ 0 → ⊥) → stepped inner.bad inner.off known.list (get_or t known.list 0) ≡ element_of msg parent at len t
        unfolding element_of element_with
        elem_inner z = simp (← o.typed, ne_eqb _ _ o.listed, ← o.tests, eq-eqb _ _ b, ← i, y, ← x, ne_eqb _ _ z)

        pub elem_row : inner.bad ≡ 0 → own ≡ element_of msg parent at len t
        unfolding element_of element_with
        elem_row z = simp (← o.typed, ne_eqb _ _ o.listed, ← o.tests, eq-eqb _ _ b, ← i, y, ← x, eq-eqb _ _ z)

module _ (msg : List ℕ) (at : ℕ) (t : Tally) {h : Head} (e : h ≡ head_at msg at (length msg)) where
  pub top_ends : h ≡ End → record { bad = 0; off = at; next = at; tally = t } ≡ tested_at msg at t
  unfolding tested_at
  top_ends b = simp (← e, b)

  pub top_bad : {n : ℕ} → h ≡ Refused n → record { bad = n; off = at; next = at; tally = t } ≡ tested_at msg at t
  unfolding tested_at
  top_bad b = simp (← e, b)

  -- `f` is what the element comes to
  pub top_goes : {len : ℕ} {s : Step} {u : Tally} {f : Fault} → h ≡ Value len → s ≡ element_of msg 26 at len t.counts → f ≡ fault_in s → u.counts ≡ noted t.counts s
      → record { bad = f.bad; off = f.off; next = at + 2 + len; tally = u } ≡ tested_at msg at t
  unfolding tested_at
  top_goes b x z q = simp (z, ← e, b, ← x, ← q)
