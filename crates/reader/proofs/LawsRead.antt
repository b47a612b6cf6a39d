-- Laws of reading (specs/Take.antt, specs/Read.antt): one for each way through a turn of the top-level loop.
--
--   next_fits, next_less                   an element that is fine: the place after it lies further on in the message
--   read_refused, read_taken, read_goes    6 to 13; 14; the element is taken up and the row goes on
--   read_ends                              at the end of the message: 15 is left
--   is_taken_rule, -classifier, -configuration, -other      whether the number at `at` is among those kept
--   with_element-rule, -classifier, -configuration, -other    what the element leaves
-- Trusts: nothing.
use Prim.Native.Nat.{ℕ, ◌+◌, ◌-◌, ◌≤◌, ◌<◌}
use mathlib.Core.Path.{◌≡◌, refl}
use mathlib.Core.Bool.{true, false}
use mathlib.Core.List.{List}
use native.Mathlib.Omega.{arith}
use borrow.Author.Tests.{eq-eqb, ne_eqb}
use lib.ListN.{length}
use Rattle.elements.specs.Elements.{Head, End, Refused, Value, head_at}
use Rattle.elements.proofs.Laws.{head_at-end, head_at_ends, head_at_starts, head_at-fits}
use Rattle.table.specs.declared.Rule.{Rule}
use Rattle.table.specs.declared.Classifier.{Classifier}
use Rattle.table.specs.declared.Table.{Table}
use Rattle.children.specs.Rows.{row_in, type_at}
use Rattle.rules.specs.Rules.{rule_at}
use Rattle.classifiers.specs.Classifiers.{classifier_at}
use Rattle.configurations.specs.Configurations.{configuration_at}
use Rattle.configurations.specs.declared.Configuration.{Configuration}
use Rattle.children.proofs.Laws.{row_in_rule}
use Rattle.rows.specs.Rows.{tested_at}
use Rattle.rows.specs.declared.Tally.{Tally}
use Rattle.rows.specs.Rows.{Tested}
use Rattle.listed.specs.Listed.{is_listed}
use Rattle.named.specs.Named.{classifier_numbers, lone_number}
use Rattle.reader.specs.Take.{with_rule, with_classifier, with_configuration, with_element, rule_numbers, is_taken}
use Rattle.reader.specs.Read.{refusal, read_lone, read_row}

module _ (msg : List ℕ) (at : ℕ) (tally : Tally) {s : Tested} (e : s ≡ tested_at msg at tally) where
  -- what the head at `at` says of the test's answer
  on-bad : {n : ℕ} → head_at msg at (length msg) ≡ Refused n → (s.bad ≡ n) × (s.off ≡ at)
  unfolding tested_at
  on-bad b = rw (e, b) (refl, refl)

  on-item : {len : ℕ} → head_at msg at (length msg) ≡ Value len → s.next ≡ at + 2 + len
  unfolding tested_at
  on-item b = rw (e, b) refl

  module _ (inside : at < length msg) where
    pub next_fits : s.bad ≡ 0 → (at < s.next) × (s.next ≤ length msg)
    next_fits fine = on (head_at msg at (length msg)) refl
      where
        on : (h : Head) → head_at msg at (length msg) ≡ h → (at < s.next) × (s.next ≤ length msg)
        on End b = let x = head_at_ends msg at (length msg) b in absurd (omega arith)
        on (Refused n) b = let x = head_at_starts msg at (length msg) b in let y = on-bad b in absurd (omega arith)
        on (Value len) b = let x = head_at-fits msg at (length msg) b in let y = on-item b in (omega arith, omega arith)

    -- what is left of the message falls
    pub next_less : s.bad ≡ 0 → length msg - s.next < length msg - at
    next_less fine = let on = next_fits fine in omega arith

    module _ (given t : Table) where
      pub read_refused : (s.bad ≡ 0 → ⊥) → refusal s.bad s.off given ≡ read_row given msg (row_in msg at (length msg)) tally t
      read_refused fault = on (head_at msg at (length msg)) refl
        where
          on : (h : Head) → head_at msg at (length msg) ≡ h → refusal s.bad s.off given ≡ read_row given msg (row_in msg at (length msg)) tally t
          on End b = let x = head_at_ends msg at (length msg) b in absurd (omega arith)
          on (Refused n) b = let y = on-bad b in simp (row_in_rule msg at (length msg), b, y.0, y.1)
          on (Value len) b = simp (row_in_rule msg at (length msg), b, ← e, ne_eqb s.bad 0 fault)

      module _ (fine : s.bad ≡ 0) where
        pub read_taken : is_taken msg at t ≡ true → refusal 14 at given ≡ read_row given msg (row_in msg at (length msg)) tally t
        read_taken taken = on (head_at msg at (length msg)) refl
          where
            on : (h : Head) → head_at msg at (length msg) ≡ h → refusal 14 at given ≡ read_row given msg (row_in msg at (length msg)) tally t
            on End b = let x = head_at_ends msg at (length msg) b in absurd (omega arith)
            on (Refused n) b = let x = head_at_starts msg at (length msg) b in let y = on-bad b in absurd (omega arith)
            on (Value len) b = simp (row_in_rule msg at (length msg), b, ← e, eq-eqb s.bad 0 fine, taken)

        pub read_goes : {u : Table} → is_taken msg at t ≡ false → u ≡ with_element msg at t
            → read_row given msg (row_in msg s.next (length msg)) s.tally u ≡ read_row given msg (row_in msg at (length msg)) tally t
        read_goes {u} free w = on (head_at msg at (length msg)) refl
          where
            on : (h : Head) → head_at msg at (length msg) ≡ h → read_row given msg (row_in msg s.next (length msg)) s.tally u ≡ read_row given msg (row_in msg at (length msg)) tally t
            on End b = let x = head_at_ends msg at (length msg) b in absurd (omega arith)
            on (Refused n) b = let x = head_at_starts msg at (length msg) b in let y = on-bad b in absurd (omega arith)
            on (Value len) b = rw (row_in_rule msg at (length msg), b, ← e, eq-eqb s.bad 0 fine, free, on-item b, w)

-- the end of the message: 15 is left
pub read_ends : (msg : List ℕ) (at : ℕ) (tally : Tally) (given t : Table) → length msg ≤ at → read_lone given t (lone_number msg t) ≡ read_row given msg (row_in msg at (length msg)) tally t
read_ends msg at tally given t past = simp (row_in_rule msg at (length msg), head_at-end msg at (length msg) (omega arith))

module _ (msg : List ℕ) (at : ℕ) (t : Table) where
  pub is_taken_rule : type_at msg at ≡ 50 → {q : Rule} → q ≡ rule_at msg at → {ids : List ℕ} → ids ≡ rule_numbers t → is_listed q.number ids ≡ is_taken msg at t
  unfolding is_taken
  is_taken_rule k e f = rw (k, e, f)

  pub is_taken_classifier : type_at msg at ≡ 23 → {q : Classifier} → q ≡ classifier_at msg at → {ids : List ℕ} → ids ≡ classifier_numbers t → is_listed q.number ids ≡ is_taken msg at t
  unfolding is_taken
  is_taken_classifier k e f = rw (k, e, f)

  pub is_taken_other : (type_at msg at ≡ 50 → ⊥) → (type_at msg at ≡ 23 → ⊥) → is_taken msg at t ≡ false
  unfolding is_taken
  is_taken_other a b = rw (ne_eqb (type_at msg at) 50 a, ne_eqb (type_at msg at) 23 b)

  pub is_taken_configuration : type_at msg at ≡ 51 → is_taken msg at t ≡ false
  is_taken_configuration k = is_taken_other (λ z. omega (arith, k)) (λ z. omega (arith, k))

  pub with_element-rule : type_at msg at ≡ 50 → {q : Rule} → q ≡ rule_at msg at → with_rule q t ≡ with_element msg at t
  unfolding with_element
  with_element-rule k e = rw (k, e)

  pub with_element-classifier : type_at msg at ≡ 23 → {q : Classifier} → q ≡ classifier_at msg at → with_classifier q t ≡ with_element msg at t
  unfolding with_element
  with_element-classifier k e = rw (k, e)

  pub with_element_configuration : type_at msg at ≡ 51 → {q : Configuration} → q ≡ configuration_at msg at → with_configuration q t ≡ with_element msg at t
  unfolding with_element
  with_element_configuration k e = rw (k, e)

  pub with_element-other : (type_at msg at ≡ 50 → ⊥) → (type_at msg at ≡ 23 → ⊥) → (type_at msg at ≡ 51 → ⊥) → t ≡ with_element msg at t
  unfolding with_element
  with_element-other a b c = rw (ne_eqb (type_at msg at) 50 a, ne_eqb (type_at msg at) 23 b, ne_eqb (type_at msg at) 51 c)
