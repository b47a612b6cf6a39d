-- The first match of the ordered classifiers and the best match of the table are one (specs/Judge.antt of tunnel, specs/Order.antt).
--
--   Decided t rule frame   both find a classifier, with the same number, or neither finds one
--   decided                it is always so
-- Neither of the two comes before the other, so they have the same priority and number.
-- Trusts: nothing.
use mathlib.Core.Path.{◌≡◌, refl, sym, ap, ◌∙◌}
use mathlib.Core.Bool.{Bool, true, false, ◌&&◌}
use mathlib.Core.List.Memᴰ
use mathlib.Core.List.{List, [], Memᴰ}
use mathlib.Core.Logic.{◌⊎◌, inl, inr}
use Prim.Native.Nat.{ℕ, ◌≤◌, ◌<◌}
use native.Mathlib.Nat.{le_antisymm}
use native.Mathlib.Omega.{arith}
use lib.Dec.{ltb}
use lib.ListN.{length, get_or, length-take}
use borrow.Author.Tests.{ltb-true, ltb-false}
use Rattle.table.specs.declared.Rule.{Rule}
use Rattle.table.specs.declared.Classifier.{Classifier}
use Rattle.table.specs.declared.Table.{Table}
use Rattle.table.specs.Table.{limited_to, classifiers_of, empty_classifier}
use Rattle.table.proofs.Laws.{limited_to_le}
use Rattle.order.specs.Best.{first_place}
use Rattle.order.proofs.Order.{comes_before_self, comes_before_tied}
use Rattle.order.proofs.Places.{clash, and_yes, best_place_le}
use Rattle.order.proofs.Scan.{best_place_nobody}
use Rattle.order.proofs.Chosen.{mem_at, place_of, first_place_is, first_place-before, best_place_passes, best_place_over}
use Rattle.listed.specs.Listed.{names_number}
use Rattle.matching.specs.Match.{matches_frame}
use Rattle.tunnel.specs.Judge.{match_place}
use Rattle.preparing.specs.Order.{comes_first, named_in_order}
use Rattle.preparing.proofs.Sorted.{Ordered, ordered_at, in_order_ordered, length-in_order, of_in_order, in_order_of}

module _ (t : Table) (rule : Rule) (frame : List ℕ) where
  abbrev all : List Classifier
  all = classifiers_of t

  abbrev mine : List Classifier
  mine = named_in_order t rule

  abbrev named : Classifier → Bool
  named cl = names_number rule cl.number

  abbrev ok : Classifier → Bool
  ok cl = matches_frame frame cl && named cl

  abbrev pub first : ℕ
  first = first_place (matches_frame frame) mine

  abbrev best : ℕ
  best = match_place t rule frame

  few : length all ≤ 32
  unfolding classifiers_of
  few = omega (arith, limited_to_le 32 t.classifiercount, length-take (limited_to 32 t.classifiercount) t.classifiers)

  pub less : length mine ≤ 32
  unfolding named_in_order
  less = omega (arith, few, length-in_order named [] all)

  sorted : Ordered mine
  unfolding named_in_order
  sorted = in_order_ordered named [] all tt

  -- the named ones of the table are the members of the ordered list
  of_mine : (y : Classifier) → Memᴰ y mine → Memᴰ y all × (named y ≡ true)
  unfolding named_in_order
  of_mine y m = go (of_in_order named [] all y m)
    where
      go : Memᴰ y [] ⊎ (Memᴰ y all × (named y ≡ true)) → Memᴰ y all × (named y ≡ true)
      go (inl h) = absurd (Memᴰ.not-nil h)
      go (inr h) = h

  to_mine : (y : Classifier) → Memᴰ y all → named y ≡ true → Memᴰ y mine
  unfolding named_in_order
  to_mine y m e = in_order_of named [] all y (inr (m, e))

  -- a member of the ordered list that matches does not come before the first that matches
  not_before : (y : Classifier) → Memᴰ y mine → matches_frame frame y ≡ true → comes_first y (get_or mine first empty_classifier) ≡ false
  unfolding comes_first
  not_before y m e = ap (λ (w : Classifier). comes_first w (get_or mine first empty_classifier)) (sym p.2) ∙ go (ltb p.0 first) (ltb first p.0) refl refl
    where
      p : (j : ℕ) × (j < length mine) × (get_or mine j empty_classifier ≡ y)
      p = place_of empty_classifier mine m

      go : (a b : Bool) → ltb p.0 first ≡ a → ltb first p.0 ≡ b → comes_first (get_or mine p.0 empty_classifier) (get_or mine first empty_classifier) ≡ false
      go true b ea eb = absurd (clash (ap (matches_frame frame) p.2 ∙ e) (first_place-before empty_classifier (matches_frame frame) mine p.0 (ltb-true p.0 first ea)))
      go false true ea eb = ordered_at mine empty_classifier first p.0 sorted (ltb-true first p.0 eb) p.1
      go false false ea eb =
          let same : p.0 ≡ first = le_antisymm (ltb-false first p.0 eb) (ltb-false p.0 first ea) in
          rw same (comes_before_self (get_or mine first empty_classifier).priority (get_or mine first empty_classifier).number)

pub data Decided (t : Table) (rule : Rule) (frame : List ℕ) : Type 0 where
  match : first_place (matches_frame frame) (named_in_order t rule) < length (named_in_order t rule) → match_place t rule frame < length (classifiers_of t)
      → (get_or (named_in_order t rule) (first_place (matches_frame frame) (named_in_order t rule)) empty_classifier).number ≡ (get_or (classifiers_of t) (match_place t rule frame) empty_classifier).number
      → Decided t rule frame
  nothing : length (named_in_order t rule) ≤ first_place (matches_frame frame) (named_in_order t rule) → length (classifiers_of t) ≤ match_place t rule frame → Decided t rule frame

module _ (t : Table) (rule : Rule) (frame : List ℕ) where
  abbrev pr : Classifier → ℕ
  pr cl = cl.priority

  abbrev nu : Classifier → ℕ
  nu cl = cl.number

  -- the best match of the table fits, and is a member
  module _ (h : match_place t rule frame < length (classifiers_of t)) where
    abbrev z : Classifier
    z = get_or (classifiers_of t) (match_place t rule frame) empty_classifier

    passes : ok t rule frame z ≡ true
    unfolding match_place
    passes = best_place_passes empty_classifier pr nu (ok t rule frame) (classifiers_of t) h

    over : (y : Classifier) → Memᴰ y (classifiers_of t) → ok t rule frame y ≡ true → comes_first y z ≡ false
    unfolding match_place comes_first
    over y m e =
        let p = place_of empty_classifier (classifiers_of t) m in
        rw p.2 at (best_place_over empty_classifier pr nu (ok t rule frame) (classifiers_of t) h p.0 p.1 (ap (ok t rule frame) p.2 ∙ e))

    in_mine : Memᴰ z (named_in_order t rule)
    in_mine = to_mine t rule frame z (mem_at empty_classifier (classifiers_of t) (match_place t rule frame) h) (and_yes (matches_frame frame z) (named t rule frame z) passes).1

    matches : matches_frame frame z ≡ true
    matches = (and_yes (matches_frame frame z) (named t rule frame z) passes).0

  -- the first match of the ordered list is a member of the table that passes
  of_first : first t rule frame < length (named_in_order t rule)
      → Memᴰ (get_or (named_in_order t rule) (first t rule frame) empty_classifier) (classifiers_of t) × (ok t rule frame (get_or (named_in_order t rule) (first t rule frame) empty_classifier) ≡ true)
  of_first h =
      let x = get_or (named_in_order t rule) (first t rule frame) empty_classifier in
      let o = of_mine t rule frame x (mem_at empty_classifier (named_in_order t rule) (first t rule frame) h) in
      (o.0, simp (first_place_is empty_classifier (matches_frame frame) (named_in_order t rule) h, o.1))

  nobody : length (classifiers_of t) ≤ match_place t rule frame → (y : Classifier) → Memᴰ y (classifiers_of t) → ok t rule frame y ≡ false
  unfolding match_place
  nobody h = best_place_nobody pr nu (ok t rule frame) (classifiers_of t) (le_antisymm (best_place_le pr nu (ok t rule frame) (classifiers_of t)) h)

  pub decided : Decided t rule frame
  unfolding comes_first
  decided = go (ltb (first t rule frame) (length (named_in_order t rule))) (ltb (match_place t rule frame) (length (classifiers_of t))) refl refl
    where
      go : (a b : Bool) → ltb (first t rule frame) (length (named_in_order t rule)) ≡ a → ltb (match_place t rule frame) (length (classifiers_of t)) ≡ b → Decided t rule frame
      go true true ea eb =
          let h = ltb-true (first t rule frame) (length (named_in_order t rule)) ea in
          let k = ltb-true (match_place t rule frame) (length (classifiers_of t)) eb in
          let x = get_or (named_in_order t rule) (first t rule frame) empty_classifier in
          let o = of_first h in
          match h k (comes_before_tied (pr x) (nu x) (pr (z k)) (nu (z k)) (over k x o.0 o.1) (not_before t rule frame (z k) (in_mine k) (matches k))).1
      go true false ea eb =
          let o = of_first (ltb-true (first t rule frame) (length (named_in_order t rule)) ea) in
          absurd (clash o.1 (nobody (ltb-false (match_place t rule frame) (length (classifiers_of t)) eb) (get_or (named_in_order t rule) (first t rule frame) empty_classifier) o.0))
      go false true ea eb =
          let k = ltb-true (match_place t rule frame) (length (classifiers_of t)) eb in
          let p = place_of empty_classifier (named_in_order t rule) (in_mine k) in
          let l : p.0 < first t rule frame = omega (arith, p.1, ltb-false (first t rule frame) (length (named_in_order t rule)) ea) in
          absurd (clash (ap (matches_frame frame) p.2 ∙ matches k) (first_place-before empty_classifier (matches_frame frame) (named_in_order t rule) p.0 l))
      go false false ea eb = nothing (ltb-false (first t rule frame) (length (named_in_order t rule)) ea) (ltb-false (match_place t rule frame) (length (classifiers_of t)) eb)
