-- What a row keeps that passes its tests: a claim on the counts and the state of its fold that every child keeps holds when the row is done, and no must is
-- missing then.
--
--   Bytes msg            every byte of the message is below 256
--   Sees ..              what an element that is not refused passed: tests 9 to 12, its count, and the row inside it
--   element_sees         it passed them
--   row_keeps            the law
-- Trusts: nothing.
use Prim.Native.Nat.{ℕ, zero, suc, ◌+◌, ◌-◌, ◌≤◌, ◌<◌}
use mathlib.Core.Path.{◌≡◌, refl, sym, ap, subst, ◌∙◌}
use mathlib.Core.Bool.{Bool, true, false, cond, not}
use mathlib.Core.List.{List}
use native.Mathlib.Omega.{arith}
use borrow.Author.Tests.{eqb-true, eqb-false, not-true, not-false}
use lib.ListN.{get_or}
use lib.Dec.{eqb}
use Rattle.elements.specs.Elements.{Head, End, Refused, Value, head_at}
use Rattle.elements.proofs.Laws.{head_at_starts, head_at-fits}
use Rattle.types.specs.Places.{type_under}
use Rattle.types.specs.declared.Known.{Known}
use Rattle.musts.specs.Musts.{lacks_must}
use Rattle.element_tests.specs.Tests.{stepped, second_copy, wrong_length, bad_value, is_full, own_tests}
use Rattle.element_tests.specs.Tests.{Step}
use Rattle.rows.specs.Tests.{is_row, row_end, none_counted}
use Rattle.rows.specs.Rows.{element_with, element_of, noted, go_on, on_head, row_step, row_of}
use Rattle.rows.specs.Tests.{Fault}
use Rattle.rows.proofs.Placed.{own_by, element_by}
use Rattle.rows.proofs.Rule.{row-rule}
use Rattle.children.specs.Rows.{row_in, row_fold}
use Rattle.children.proofs.LawsFolds.{fold_stop, fold_item}

abbrev pub Bytes : List ℕ → Type 0
Bytes msg = (k : ℕ) → get_or msg k 0 < 256

-- an element of a listed type that is not refused
pub record Sees (msg : List ℕ) (parent at len : ℕ) (u : List ℕ) (known : Known) : Type 0 where
  pub size : wrong_length known.length len ≡ false
  pub value : bad_value msg known.values at len ≡ false
  pub step : element_of msg parent at len u ≡ stepped 0 at known.list (get_or u known.list 0 + 1)
  pub inner : is_row known.length ≡ true → (row_of msg known.place at (at + 2) (at + 2 + len) none_counted).bad ≡ 0

module _ (msg : List ℕ) (parent at len : ℕ) (u : List ℕ) (known : Known) (typed : type_under parent (get_or msg at 0) ≡ known) (listed : known.place ≡ 26 → ⊥) where
  abbrev count : ℕ
  count = get_or u known.list 0

  abbrev own : Step
  own = own_tests msg known at len count

  abbrev inside : Fault
  inside = row_of msg known.place at (at + 2) (at + 2 + len) none_counted

  own_sees : own.bad ≡ 0 → (wrong_length known.length len ≡ false) × (bad_value msg known.values at len ≡ false) × (own ≡ stepped 0 at known.list (count + 1))
  unfolding own_tests
  own_sees z =
      go (second_copy known.repeats count) (wrong_length known.length len) (bad_value msg known.values at len) (is_full known.repeats known.room count len) z
    where
      go : (a b c d : Bool) → (own_by at known.list count a b c d).bad ≡ 0 → (b ≡ false) × (c ≡ false) × (own_by at known.list count a b c d ≡ stepped 0 at known.list (count + 1))
      go true b c d z = absurd (omega arith)
      go false true c d z = absurd (omega arith)
      go false false true d z = absurd (omega arith)
      go false false false true z = absurd (omega arith)
      go false false false false z = (refl, refl, refl)

  element_is : element_of msg parent at len u ≡ element_by own inside at known.list count (eqb known.place 26) (not (eqb own.bad 0)) (not (is_row known.length)) (not (eqb inside.bad 0))
  unfolding element_of element_with
  element_is = rw typed refl

  pub element_sees : (element_of msg parent at len u).bad ≡ 0 → Sees msg parent at len u known
  element_sees z =
      go (eqb known.place 26) (not (eqb own.bad 0)) (is_row known.length) (not (eqb inside.bad 0)) refl refl refl refl element_is (rw element_is at z)
    where
      fine : own.bad ≡ 0 → (element_of msg parent at len u ≡ own) → (is_row known.length ≡ true → inside.bad ≡ 0) → Sees msg parent at len u known
      fine b e i = let o = own_sees b in record { size = o.0; value = o.1; step = e ∙ o.2; inner = i }

      go : (a b c d : Bool) → eqb known.place 26 ≡ a → not (eqb own.bad 0) ≡ b → is_row known.length ≡ c → not (eqb inside.bad 0) ≡ d
          → element_of msg parent at len u ≡ element_by own inside at known.list count a b (not c) d → (element_by own inside at known.list count a b (not c) d).bad ≡ 0 → Sees msg parent at len u known
      go true b c d p q r s e z = absurd (listed (eqb-true _ _ p))
      go false true c d p q r s e z = absurd (eqb-false _ _ (not-true _ q) z)
      go false false true true p q r s e z = absurd (eqb-false _ _ (not-true _ s) z)
      go false false true false p q r s e z = fine z e (λ y. eqb-true _ _ (not-false _ s))
      go false false false d p q r s e z = fine z e (λ y. let w : ◌≡◌ {A = ℕ} 0 1 = ap (λ (b : Bool). cond {A = ℕ} b 0 1) (sym y ∙ r) in absurd (omega arith))

-- ---- a whole row

pub record Kept {A : Type 0} (P : List ℕ → A → Type 0) (parent : ℕ) (so : A) : Type 0 where
  pub counts : List ℕ
  pub musts : lacks_must parent counts ≡ false
  pub holds : P counts so

module _ {A : Type 0} (msg : List ℕ) (parent own : ℕ) (step : ℕ → ℕ → A → A) (end : ℕ) (P : List ℕ → A → Type 0)
    (each : (at len : ℕ) (u : List ℕ) (so : A) → head_at msg at end ≡ Value len → (element_of msg parent at len u).bad ≡ 0 → P u so → P (noted u (element_of msg parent at len u)) (step at len so)) where
  end-keeps : (u : List ℕ) (so : A) → (row_end parent own u).bad ≡ 0 → P u so → Kept P parent so
  unfolding row_end
  end-keeps u so z p = go (lacks_must parent u) refl z
    where
      go : (b : Bool) → lacks_must parent u ≡ b → (cond {A = Fault} b (record { bad = 13; off = own }) (record { bad = 0; off = own })).bad ≡ 0 → Kept P parent so
      go true e z = absurd (omega arith)
      go false e z = record { counts = u; musts = e; holds = p }

  -- what the value of a head does to the row's tests
  abbrev turn : ℕ → List ℕ → ℕ → Fault
  turn at u len = go_on (element_of msg parent at len u) (λ s. row_of msg parent own (at + 2 + len) end (noted u s))

  row_is : (at : ℕ) (u : List ℕ) → row_of msg parent own at end u ≡ on_head (head_at msg at end) (row_end parent own u) at (turn at u)
  unfolding row_step element_of
  row_is at u = row-rule msg parent own at end u

  -- an element that is there, and the row behind it
  turn_fine : (at len : ℕ) (u : List ℕ) → (turn at u len).bad ≡ 0
      → ((element_of msg parent at len u).bad ≡ 0) × ((row_of msg parent own (at + 2 + len) end (noted u (element_of msg parent at len u))).bad ≡ 0)
  turn_fine at len u = go (eqb (element_of msg parent at len u).bad 0) refl
    where
      go : (b : Bool) → eqb (element_of msg parent at len u).bad 0 ≡ b
          → (cond (not b) (record { bad = (element_of msg parent at len u).bad; off = (element_of msg parent at len u).off }) (row_of msg parent own (at + 2 + len) end (noted u (element_of msg parent at len u)))).bad ≡ 0
          → ((element_of msg parent at len u).bad ≡ 0) × ((row_of msg parent own (at + 2 + len) end (noted u (element_of msg parent at len u))).bad ≡ 0)
      go true e z = (eqb-true _ _ e, z)
      go false e z = absurd (eqb-false _ _ e z)

  by_head : (at : ℕ) (u : List ℕ) (so : A) → (row_of msg parent own at end u).bad ≡ 0 → P u so
      → ((len : ℕ) → head_at msg at end ≡ Value len → (row_of msg parent own (at + 2 + len) end (noted u (element_of msg parent at len u))).bad ≡ 0
      → P (noted u (element_of msg parent at len u)) (step at len so) → Kept P parent (row_fold step (row_in msg (at + 2 + len) end) (step at len so)))
      → Kept P parent (row_fold step (row_in msg at end) so)
  by_head at u so z p rest = on (head_at msg at end) refl (rw (row_is at u) at z)
    where
      on : (h : Head) → head_at msg at end ≡ h → (on_head h (row_end parent own u) at (turn at u)).bad ≡ 0 → Kept P parent (row_fold step (row_in msg at end) so)
      on End e y =
          subst (λ (x : A). Kept P parent x) (fold_stop step msg at end so (sym e) (λ len q. let c : ◌≡◌ {A = ℕ} 0 1 = cc in absurd (omega arith))) (end-keeps u so y p)
      on (Refused k) e y = absurd (omega (arith, (head_at_starts msg at end e).0))
      on (Value len) e y =
          let f = turn_fine at len u y in
          subst (λ (x : A). Kept P parent x) (fold_item step msg at end so (sym e) refl refl) (rest len e f.1 (each at len u so e f.0 p))

  keeps_from : (n at : ℕ) (u : List ℕ) (so : A) → end - at ≤ n → (row_of msg parent own at end u).bad ≡ 0 → P u so → Kept P parent (row_fold step (row_in msg at end) so)
  keeps_from zero at u so m z p = by_head at u so z p (λ len e f q. absurd (omega (arith, (head_at-fits msg at end e).0)))
  keeps_from (suc n) at u so m z p =
      by_head at u so z p (λ len e f q. keeps_from n (at + 2 + len) (noted u (element_of msg parent at len u)) (step at len so) (omega (arith, (head_at-fits msg at end e).0)) f q)

  -- THE LAW
  pub row_keeps : (at : ℕ) (u : List ℕ) (so : A) → (row_of msg parent own at end u).bad ≡ 0 → P u so → Kept P parent (row_fold step (row_in msg at end) so)
  row_keeps at u so z p = keeps_from (end - at) at u so (omega arith) z p
