-- What an element that is not refused leaves in the counts of its row, and so the room of a type that repeats (test 12).
--
--   Counted, element-passed   an element that is not refused: of a type not listed it is not counted; else its list had room, it is counted
--                             there, and the row in its value, if it is one, is not refused
--   Repeats                   what the table says of a type that repeats in a row: its list and room, and that no other type is counted there
--   turn_room                 the elements of such a type, counted so far and still to come, are within the room
-- Trusts: nothing.
use Prim.Native.Nat.{ℕ, ◌+◌, ◌≤◌, ◌<◌}
use mathlib.Core.Path.{◌≡◌, refl, sym, ◌∙◌}
use mathlib.Core.Bool.{Bool, true, false, cond, not}
use mathlib.Core.List.{List, ◌∷◌}
use mathlib.Core.Logic.{◌⊎◌, inl, inr}
use native.Mathlib.Omega.{arith}
use borrow.Author.Tests.{eqb-true, eqb-false, leb-false}
use lib.ListN.{length, get_or, length-set}
use lib.Seq.{set_out, get_or-set_same, get_or-set_other}
use lib.Dec.{eqb}
use Rattle.types.specs.Places.{type_under}
use Rattle.types.specs.declared.Known.{Known}
use Rattle.element_tests.specs.Tests.{stepped, second_copy, wrong_length, bad_value, is_full, own_tests}
use Rattle.rows.specs.Tests.{is_row}
use Rattle.rows.specs.Rows.{element_with, noted}
use Rattle.element_tests.specs.Tests.{Step}
use Rattle.rows.specs.Tests.{Fault}
use Rattle.children.specs.Rows.{type_at}

module _ (msg : List ℕ) (known : Known) (at len count : ℕ) where
  -- refused with a number, or counted; and the step by its four tests
  abbrev fails : ℕ → Step
  fails n = stepped n at known.list count

  abbrev counts : Step
  counts = stepped 0 at known.list (count + 1)

  abbrev tried : Bool → Bool → Bool → Bool → Step
  tried a b c d = cond a (fails 9) (cond b (fails 10) (cond c (fails 11) (cond d (fails 12) counts)))

  own-passed : (own_tests msg known at len count).bad ≡ 0
      → (is_full known.repeats known.room count len ≡ false) × (own_tests msg known at len count ≡ counts)
  unfolding own_tests
  own-passed =
      go (second_copy known.repeats count) (wrong_length known.length len) (bad_value msg known.values at len) (is_full known.repeats known.room count len) refl
    where
      go : (a b c d : Bool) → is_full known.repeats known.room count len ≡ d
          → (tried a b c d).bad ≡ 0 → (is_full known.repeats known.room count len ≡ false) × (tried a b c d ≡ counts)
      go true b c d e z = absurd (omega arith)
      go false true c d e z = absurd (omega arith)
      go false false true d e z = absurd (omega arith)
      go false false false true e z = absurd (omega arith)
      go false false false false e z = (e, refl)

-- the step s of a listed type: its list had room, it is counted there, and a row in its value is not refused
pub record Counted (inside : ℕ → Fault) (known : Known) (at len : ℕ) (t : List ℕ) (s : Step) : Type 0 where
  pub listed : known.place ≡ 26 → ⊥
  pub room : is_full known.repeats known.room (get_or t known.list 0) len ≡ false
  pub step : s ≡ stepped 0 at known.list (get_or t known.list 0 + 1)
  pub row : is_row known.length ≡ true → (inside known.place).bad ≡ 0

-- the two ways that an element passes: its type is not listed, or it is counted
abbrev pub Passed : (ℕ → Fault) → Known → ℕ → ℕ → List ℕ → Step → Type 0
Passed inside known at len t s = ((known.place ≡ 26) × (s ≡ stepped 0 at 8 0)) ⊎ Counted inside known at len t s

module _ (inside : ℕ → Fault) (msg : List ℕ) (parent at len : ℕ) (t : List ℕ) where
  pub element-passed : (element_with inside msg parent at len t).bad ≡ 0
      → Passed inside (type_under parent (type_at msg at)) at len t (element_with inside msg parent at len t)
  unfolding element_with
  element-passed =
      go (eqb known.place 26) (eqb own.bad 0) (is_row known.length) (eqb (inside known.place).bad 0) refl refl refl refl
    where
      known : Known
      known = type_under parent (type_at msg at)

      count : ℕ
      count = get_or t known.list 0

      own : Step
      own = own_tests msg known at len count

      -- a row in the value is refused
      row : Step
      row = stepped (inside known.place).bad (inside known.place).off known.list count

      go : (a b c d : Bool) → eqb known.place 26 ≡ a → eqb own.bad 0 ≡ b → is_row known.length ≡ c → eqb (inside known.place).bad 0 ≡ d
          → (let s = cond a (stepped 0 at 8 0) (cond (not b) own (cond (not c) own (cond (not d) row own))) in s.bad ≡ 0 → Passed inside known at len t s)
      go true b c d p q r x z = inl (eqb-true known.place 26 p, refl)
      go false false c d p q r x z = absurd (eqb-false own.bad 0 q z)
      go false true false d p q r x z =
          let o = own-passed msg known at len count z in
          inr (record { listed = eqb-false known.place 26 p; room = o.0; step = o.1; row = λ y. absurd (no_row (sym y ∙ r)) })
        where
          no_row : ◌≡◌ {A = Bool} true false → ⊥
          no_row w = let v : ◌≡◌ {A = ℕ} 0 1 = cc in omega arith
      go false true true false p q r x z = absurd (eqb-false (inside known.place).bad 0 x z)
      go false true true true p q r x z =
          let o = own-passed msg known at len count z in
          inr (record { listed = eqb-false known.place 26 p; room = o.0; step = o.1; row = λ y. eqb-true (inside known.place).bad 0 x })

pub record Repeats (parent kind list room : ℕ) : Type 0 where
  pub listed : (type_under parent kind).place ≡ 26 → ⊥
  pub counted : (type_under parent kind).list ≡ list
  pub repeats : (type_under parent kind).repeats ≡ true
  pub most : (type_under parent kind).room ≡ room
  pub alone : (t : ℕ) → (t ≡ kind → ⊥) → ((type_under parent t).place ≡ 26 → ⊥) → (type_under parent t).list ≡ list → ⊥
  pub few : list < 8

module _ (parent kind list room : ℕ) (k : Repeats parent kind list room) (inside : ℕ → Fault) (msg : List ℕ) (at len : ℕ) (t : List ℕ)
    (eight : length t ≡ 8) (z : (element_with inside msg parent at len t).bad ≡ 0) where
  -- the element's step, the counts that it leaves, and how many are counted in the list
  abbrev step : Step
  step = element_with inside msg parent at len t

  abbrev after : List ℕ
  after = noted t step

  abbrev counted : List ℕ → ℕ
  counted l = get_or l list 0

  own_counts : type_at msg at ≡ kind → (counted t < room) × (counted after ≡ counted t + 1)
  unfolding is_full
  own_counts e = on (rw e at (element-passed inside msg parent at len t z))
    where
      on : Passed inside (type_under parent kind) at len t step → (counted t < room) × (counted after ≡ counted t + 1)
      on (inl r) = absurd (k.listed r.0)
      on (inr r) =
          let full = simp (k.counted, k.repeats, k.most) at r.room in
          let step = simp k.counted at r.step in
          let few = k.few in
          (leb-false room (get_or t list 0) full, rw step (get_or-set_same t list (get_or t list 0 + 1) 0 (omega arith)))

  other_counts : (type_at msg at ≡ kind → ⊥) → counted after ≡ counted t
  other_counts n = on (element-passed inside msg parent at len t z)
    where
      own : ℕ
      own = (type_under parent (type_at msg at)).list

      on : Passed inside (type_under parent (type_at msg at)) at len t step → counted after ≡ counted t
      on (inl r) = rw (r.1, set_out t 8 0 (omega arith)) refl
      on (inr r) = rw r.step (get_or-set_other t own list (get_or t own 0 + 1) 0 (λ e. k.alone (type_at msg at) n r.listed (sym e)))

  -- `l` are the places of those behind this element
  pub turn_room : counted t ≤ room → (l : List ℕ) → (length after ≡ 8 → counted after ≤ room → counted after + length l ≤ room)
      → counted t + length (cond (eqb (type_at msg at) kind) (at ∷ l) l) ≤ room
  turn_room fits l rest = on (eqb (type_at msg at) kind) refl
    where
      noted_eight : length after ≡ 8
      noted_eight = simp length-set eight

      on : (b : Bool) → eqb (type_at msg at) kind ≡ b → counted t + length (cond b (at ∷ l) l) ≤ room
      on true e =
          let c = own_counts (eqb-true (type_at msg at) kind e) in
          let r = rest noted_eight (omega (arith, c.0, c.1)) in
          omega (arith, c.1)
      on false e =
          let c = other_counts (eqb-false (type_at msg at) kind e) in
          let r = rest noted_eight (omega arith) in
          omega arith
