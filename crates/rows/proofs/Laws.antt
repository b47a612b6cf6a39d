-- Laws of `tested_at` (specs/Rows.antt): what a caller learns of the top-level element at a place.
--
--   tested_at-end       past the last byte: nothing is refused, nothing counted, and the place stays
--   tested_at-placed    a refusal is one of 6 to 13, and its offset lies in the message
--   tested_at-next      not refused: the next place is two bytes or more on, and in the message or at its end
--   tested_at-head      not refused: the head is whole, and the next place is past the value
--   tested_at_skipped   not refused, a type not listed: the tally stays
--   tested_at-passed    not refused, a listed type: it passed tests 9 to 12, and its list has one more
--   tested_at-room      the same of a type that repeats: there was room
-- Trusts: nothing.
use mathlib.Core.Path.{◌≡◌, refl, ap, ◌∙◌}
use mathlib.Core.Bool.{Bool, true, false, not}
use mathlib.Core.List.{List}
use Prim.Native.Nat.{ℕ, ◌+◌, ◌≤◌, ◌<◌}
use native.Mathlib.Omega.{arith}
use borrow.Author.Tests.{eq-eqb, eqb-true, eqb-false, not-true, leb-false}
use lib.ListN.{length, get_or, set}
use lib.Seq.{set_out}
use lib.Dec.{eqb}
use Rattle.elements.specs.Elements.{Head, End, Refused, Value, head_at}
use Rattle.types.specs.Places.{type_under}
use Rattle.elements.proofs.Laws.{head_at-end, head_at_ends, head_at_starts, head_at-fits}
use Rattle.types.specs.declared.Known.{Known}
use Rattle.element_tests.specs.Tests.{stepped, second_copy, wrong_length, bad_value, is_full, own_tests}
use Rattle.rows.specs.Tests.{is_row}
use Rattle.rows.specs.Rows.{element_with, noted, element_of, tested, tested_at}
use Rattle.rows.specs.declared.Tally.{Tally}
use Rattle.element_tests.specs.Tests.{Step}
use Rattle.rows.specs.Tests.{Fault}
use Rattle.rows.proofs.Placed.{Placed, own_by, element_by, element_of-placed}

-- ---- what an element passed

-- how many of a type's list stand before
abbrev pub count_of : Known → List ℕ → ℕ
count_of known t = get_or t known.list 0

-- tests 9 to 12 passed
pub record Passed (msg : List ℕ) (known : Known) (at len : ℕ) (t : List ℕ) : Type 0 where
  pub copy : second_copy known.repeats (count_of known t) ≡ false
  pub size : wrong_length known.length len ≡ false
  pub value : bad_value msg known.values at len ≡ false
  pub room : is_full known.repeats known.room (count_of known t) len ≡ false

module _ (msg : List ℕ) (known : Known) (at len : ℕ) (t : List ℕ) where
  own-passed : (own_tests msg known at len (count_of known t)).bad ≡ 0
      → Passed msg known at len t × (own_tests msg known at len (count_of known t) ≡ stepped 0 at known.list (count_of known t + 1))
  unfolding own_tests
  own-passed z =
      go (second_copy known.repeats count) (wrong_length known.length len) (bad_value msg known.values at len) (is_full known.repeats known.room count len) refl refl refl refl z
    where
      count : ℕ
      count = count_of known t

      go : (a b c d : Bool) → second_copy known.repeats count ≡ a → wrong_length known.length len ≡ b → bad_value msg known.values at len ≡ c
          → is_full known.repeats known.room count len ≡ d
          → (own_by at known.list count a b c d).bad ≡ 0
          → Passed msg known at len t × (own_by at known.list count a b c d ≡ stepped 0 at known.list (count + 1))
      go true b c d p q r s z = absurd (omega arith)
      go false true c d p q r s z = absurd (omega arith)
      go false false true d p q r s z = absurd (omega arith)
      go false false false true p q r s z = absurd (omega arith)
      go false false false false p q r s z = (record { copy = p; size = q; value = r; room = s }, refl)

module _ (inside : ℕ → Fault) (msg : List ℕ) (parent at len : ℕ) (t : List ℕ) where
  element-passed : ((type_under parent (get_or msg at 0)).place ≡ 26 → ⊥) → (element_with inside msg parent at len t).bad ≡ 0
      → (let known = type_under parent (get_or msg at 0) in
      Passed msg known at len t × (element_with inside msg parent at len t ≡ stepped 0 at known.list (count_of known t + 1)))
  unfolding element_with
  element-passed n z =
      go (eqb known.place 26) (not (eqb own.bad 0)) (not (is_row known.length)) (not (eqb (inside known.place).bad 0)) refl refl refl z
    where
      known : Known
      known = type_under parent (get_or msg at 0)

      count : ℕ
      count = count_of known t

      own : Step
      own = own_tests msg known at len count

      go : (a b c d : Bool) → eqb known.place 26 ≡ a → not (eqb own.bad 0) ≡ b → not (eqb (inside known.place).bad 0) ≡ d
          → (element_by own (inside known.place) at known.list count a b c d).bad ≡ 0
          → Passed msg known at len t × (element_by own (inside known.place) at known.list count a b c d ≡ stepped 0 at known.list (count + 1))
      go true b c d p q r z = absurd (n (eqb-true _ _ p))
      go false true c d p q r z = absurd (eqb-false _ _ (not-true _ q) z)
      go false false true d p q r z = own-passed msg known at len t z
      go false false false true p q r z = absurd (eqb-false _ _ (not-true _ r) z)
      go false false false false p q r z = own-passed msg known at len t z

-- ---- the top-level element

module _ (msg : List ℕ) (at : ℕ) (t : Tally) where
  counts_after : Step → Tally
  counts_after s = record { counts = noted t.counts s }

  pub tested_at-end : length msg ≤ at → tested_at msg at t ≡ record { bad = 0; off = at; next = at; tally = t }
  unfolding tested_at
  tested_at-end h = simp (head_at-end msg at (length msg) (omega arith))

  pub tested_at-placed : Placed msg (tested_at msg at t).bad (tested_at msg at t).off
  unfolding tested_at
  tested_at-placed = on (head_at msg at (length msg)) refl
    where
      on : (x : Head) → head_at msg at (length msg) ≡ x → (let f = tested x at t (λ len. element_of msg 26 at len t.counts) in Placed msg f.bad f.off)
      on End e = λ z. absurd (z refl)
      on (Refused n) e = λ z. let s = head_at_starts msg at (length msg) e in (s.0, omega (arith, s.1), s.3)
      on (Value len) e = element_of-placed msg 26 at len t.counts (omega (arith, (head_at-fits msg at (length msg) e).1))

  -- an element that is there and is not refused: its head, its place after, and what the element reader says of it
  pub record Whole : Type 0 where
    pub len : ℕ
    pub head : head_at msg at (length msg) ≡ Value len
    pub next : (tested_at msg at t).next ≡ at + 2 + len
    pub fine : (element_of msg 26 at len t.counts).bad ≡ 0
    pub tally : (tested_at msg at t).tally ≡ record { counts = noted t.counts (element_of msg 26 at len t.counts) }

  module _ (h : at < length msg) (z : (tested_at msg at t).bad ≡ 0) where
    pub tested_at-head : Whole
    unfolding tested_at
    tested_at-head = on (head_at msg at (length msg)) refl z
      where
        on : (x : Head) → head_at msg at (length msg) ≡ x → (tested x at t (λ len. element_of msg 26 at len t.counts)).bad ≡ 0 → Whole
        on End e q = absurd (omega (arith, head_at_ends msg at (length msg) e))
        on (Refused n) e q = absurd (omega (arith, (head_at_starts msg at (length msg) e).0))
        on (Value len) e q = record { len = len; head = e; next = simp e; fine = q; tally = simp e }

    pub tested_at-next : (at + 2 ≤ (tested_at msg at t).next) × ((tested_at msg at t).next ≤ length msg)
    tested_at-next =
        let fits = head_at-fits msg at (length msg) tested_at-head.head in
        (omega (arith, tested_at-head.next), omega (arith, tested_at-head.next, fits.1))

    module _ {known : Known} (e : known ≡ type_under 26 (get_or msg at 0)) where
      pub tested_at_skipped : length t.counts ≤ 8 → known.place ≡ 26 → (tested_at msg at t).tally ≡ t
      unfolding element_of element_with
      tested_at_skipped l p = tested_at-head.tally ∙ simp (← e, eq-eqb _ _ p, set_out t.counts 8 0 l)

      module _ (n : known.place ≡ 26 → ⊥) where
        pub tested_at-passed :
            Passed msg known at tested_at-head.len t.counts × ((tested_at msg at t).tally ≡ record { counts = set t.counts known.list (count_of known t.counts + 1) })
        unfolding element_of counts_after
        tested_at-passed =
            let both = element-passed _ msg 26 at tested_at-head.len t.counts (rw e at n) tested_at-head.fine in
            rw e (both.0, tested_at-head.tally ∙ ap counts_after both.1)

        pub tested_at-room : known.repeats ≡ true → count_of known t.counts < known.room
        unfolding is_full
        tested_at-room y = leb-false known.room (count_of known t.counts) (rw y at tested_at-passed.0.room)
