-- Laws of with_part_child and with_classifier_child (specs/Classifiers.antt): one for each way a child is taken up, in the order of the types.
--
--   with_part_child-source, -mask, -destination, -start, -end   what the child of each type of 23.9 sets
--   with_classifier_child-number, -priority, -part              what the child of each type of 23 sets
--   with_part_child-other, with_classifier_child-other            any other type
-- Trusts: nothing.
use Prim.Native.Nat.{ℕ, ◌+◌}
use mathlib.Core.Path.{◌≡◌}
use mathlib.Core.List.{List}
use borrow.Author.Tests.{ne_eqb}
use lib.ListN.{get_or}
use Rattle.numbers.specs.Numbers.{number_at}
use Rattle.table.specs.declared.Classifier.{Classifier}
use Rattle.children.specs.Rows.{type_at}
use Rattle.classifiers.specs.Classifiers.{with_number, with_priority, with_source, with_mask, with_destination, with_start, with_end, with_part_child, with_part, with_classifier_child}

module _ (msg : List ℕ) (at len : ℕ) (q : Classifier) where
  pub with_part_child-source : type_at msg at ≡ 3 → {v : ℕ} → v ≡ number_at 4 msg (at + 2) → with_source v q ≡ with_part_child msg at len q
  unfolding with_part_child
  with_part_child-source k e = simp (k, e)

  pub with_part_child-mask : type_at msg at ≡ 4 → {v : ℕ} → v ≡ number_at 4 msg (at + 2) → with_mask v q ≡ with_part_child msg at len q
  unfolding with_part_child
  with_part_child-mask k e = simp (k, e)

  pub with_part_child-destination : type_at msg at ≡ 5 → {v : ℕ} → v ≡ number_at 4 msg (at + 2) → with_destination v q ≡ with_part_child msg at len q
  unfolding with_part_child
  with_part_child-destination k e = simp (k, e)

  pub with_part_child-start : type_at msg at ≡ 9 → {v : ℕ} → v ≡ number_at 2 msg (at + 2) → with_start v q ≡ with_part_child msg at len q
  unfolding with_part_child
  with_part_child-start k e = simp (k, e)

  pub with_part_child-end : type_at msg at ≡ 10 → {v : ℕ} → v ≡ number_at 2 msg (at + 2) → with_end v q ≡ with_part_child msg at len q
  unfolding with_part_child
  with_part_child-end k e = simp (k, e)

  pub with_part_child-other : (type_at msg at ≡ 3 → ⊥) → (type_at msg at ≡ 4 → ⊥) → (type_at msg at ≡ 5 → ⊥) → (type_at msg at ≡ 9 → ⊥) → (type_at msg at ≡ 10 → ⊥) → q ≡ with_part_child msg at len q
  unfolding with_part_child
  with_part_child-other a b c d e = simp (ne_eqb _ _ a, ne_eqb _ _ b, ne_eqb _ _ c, ne_eqb _ _ d, ne_eqb _ _ e)

  pub with_classifier_child-number : type_at msg at ≡ 2 → {v : ℕ} → v ≡ number_at 2 msg (at + 2) → with_number v q ≡ with_classifier_child msg at len q
  unfolding with_classifier_child
  with_classifier_child-number k e = simp (k, e)

  pub with_classifier_child-priority : type_at msg at ≡ 5 → {v : ℕ} → v ≡ get_or msg (at + 2) 0 → with_priority v q ≡ with_classifier_child msg at len q
  unfolding with_classifier_child
  with_classifier_child-priority k e = simp (k, e)

  pub with_classifier_child-part : type_at msg at ≡ 9 → {p : Classifier} → p ≡ with_part msg (at + 2) (at + 2 + len) q → p ≡ with_classifier_child msg at len q
  unfolding with_classifier_child
  with_classifier_child-part k e = simp (k, e)

  pub with_classifier_child-other : (type_at msg at ≡ 2 → ⊥) → (type_at msg at ≡ 5 → ⊥) → (type_at msg at ≡ 9 → ⊥) → q ≡ with_classifier_child msg at len q
  unfolding with_classifier_child
  with_classifier_child-other a b c = simp (ne_eqb _ _ a, ne_eqb _ _ b, ne_eqb _ _ c)
