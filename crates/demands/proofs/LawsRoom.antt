-- A message whose elements passed their tests keeps to the room of the lists: test 12 refuses what is too many.
--
--   named-room         a top-level 50 that is not refused has eight 50.6 at most
--   classifier-room    one turn of the count of top-level 23s, of which there are 32 at most
-- Trusts: nothing.
use Prim.Native.Nat.{ℕ, zero, suc, ◌+◌, ◌-◌, ◌≤◌}
use mathlib.Core.Path.{◌≡◌, refl, sym}
use mathlib.Core.Bool.{Bool, true, false, cond, not}
use mathlib.Core.List.{List, ◌∷◌}
use mathlib.Core.Logic.{inl, inr}
use native.Mathlib.Omega.{arith}
use borrow.Author.Tests.{eqb-true, eqb-false}
use lib.ListN.{length, get_or}
use lib.Dec.{eqb}
use Rattle.elements.specs.Elements.{Head, End, Refused, Value, head_at}
use Rattle.types.specs.Types.{known_types}
use Rattle.types.specs.Places.{child_of, under, placed, type_of, parent_in, table, line_at, place_in, known_at, type_under}
use Rattle.rows.specs.Tests.{is_row, row_end, none_counted}
use Rattle.rows.specs.Rows as rows
use Rattle.rows.specs.Rows.{element_with, noted, go_on, on_head, row_step, row_of, element_of, tested_at}
use Rattle.rows.specs.declared.Tally.{Tally}
use Rattle.element_tests.specs.Tests.{Step}
use Rattle.rows.specs.Tests.{Fault}
use Rattle.children.specs.Rows.{row_with, row_from, row_in, row_inside, type_at, places_of}
use Rattle.demands.proofs.LawsCount.{Passed, element-passed, Repeats, turn_room}

-- ---- the table on 50, 50.6 and 23: a rule is place 1, its numbers are list 5 of its row, classifiers are list 0 of the top level

rule-known : ((type_under 26 50).place ≡ 1) × (is_row (type_under 26 50).length ≡ true)
unfolding known_types child_of under placed type_of parent_in table line_at place_in known_at type_under is_row
rule-known = (refl, refl)

named-repeats : Repeats 1 6 5 8
unfolding known_types child_of under placed type_of parent_in table line_at place_in known_at type_under
named-repeats = record { listed = λ z. omega arith; counted = refl; repeats = refl; most = refl; alone = other; few = omega arith }
  where
    go : (t : ℕ) → (t ≡ 6 → ⊥) → (a b c d e f : Bool) → eqb 6 t ≡ f → (known_at (cond a 11 (cond b 12 (cond c 13 (cond d 14 (cond e 15 (cond f 16 26))))))).list ≡ 5 → ⊥
    go t n true b c d e f x z = omega arith
    go t n false true c d e f x z = omega arith
    go t n false false true d e f x z = omega arith
    go t n false false false true e f x z = omega arith
    go t n false false false false true f x z = omega arith
    go t n false false false false false true x z = n (sym (eqb-true 6 t x))
    go t n false false false false false false x z = omega arith

    other : (t : ℕ) → (t ≡ 6 → ⊥) → ((type_under 1 t).place ≡ 26 → ⊥) → (type_under 1 t).list ≡ 5 → ⊥
    other t n p = go t n (eqb 1 t) (eqb 2 t) (eqb 3 t) (eqb 4 t) (eqb 5 t) (eqb 6 t) refl

classifiers_repeat : Repeats 26 23 0 32
unfolding known_types child_of under placed type_of parent_in table line_at place_in known_at type_under
classifiers_repeat = record { listed = λ z. omega arith; counted = refl; repeats = refl; most = refl; alone = other; few = omega arith }
  where
    go : (t : ℕ) → (t ≡ 23 → ⊥) → (a b c : Bool) → eqb 23 t ≡ a → ((known_at (cond a 0 (cond b 1 (cond c 2 26)))).place ≡ 26 → ⊥) → (known_at (cond a 0 (cond b 1 (cond c 2 26)))).list ≡ 0 → ⊥
    go t n true b c x p z = n (sym (eqb-true 23 t x))
    go t n false true c x p z = omega arith
    go t n false false true x p z = omega arith
    go t n false false false x p z = p refl

    other : (t : ℕ) → (t ≡ 23 → ⊥) → ((type_under 26 t).place ≡ 26 → ⊥) → (type_under 26 t).list ≡ 0 → ⊥
    other t n = go t n (eqb 23 t) (eqb 50 t) (eqb 51 t) refl

-- ---- the 50.6 of a rule

row_room : (fuel : ℕ) (msg : List ℕ) (own at end : ℕ) (t : List ℕ) → length t ≡ 8 → get_or t 5 0 ≤ 8 → (rows.row_from fuel msg 1 own at end t).bad ≡ 0
    → get_or t 5 0 + length (places_of msg 6 (row_from fuel msg at end)) ≤ 8
unfolding rows.row_from row_step row_from
row_room zero msg own at end t eight fits z = omega arith
row_room (suc fuel) msg own at end t eight fits z = on (head_at msg at end) z (λ len. row_room fuel msg own (at + 2 + len) end)
  where
    -- the row in an element's value, and the row behind the element
    within : ℕ → ℕ → Fault
    within len k = rows.row_from fuel msg k at (at + 2) (at + 2 + len) none_counted

    behind : ℕ → List ℕ → Fault
    behind len u = rows.row_from fuel msg 1 own (at + 2 + len) end u

    on : (x : Head)
        → (on_head x (row_end 1 own t) at (λ len. go_on (element_with (within len) msg 1 at len t) (λ s. behind len (noted t s)))).bad ≡ 0
        → ((len : ℕ) (u : List ℕ) → length u ≡ 8 → get_or u 5 0 ≤ 8 → (behind len u).bad ≡ 0 → get_or u 5 0 + length (places_of msg 6 (row_from fuel msg (at + 2 + len) end)) ≤ 8)
        → get_or t 5 0 + length (places_of msg 6 (row_with (λ next. row_from fuel msg next end) at x)) ≤ 8
    on End y rest = omega arith
    on (Refused n) y rest = omega arith
    on (Value len) y rest = turn (eqb s.bad 0) refl y
      where
        inside : ℕ → Fault
        inside = within len

        s : Step
        s = element_with inside msg 1 at len t

        turn : (b : Bool) → eqb s.bad 0 ≡ b → (cond (not b) (record { bad = s.bad; off = s.off }) (behind len (noted t s))).bad ≡ 0
            → get_or t 5 0 + length (places_of msg 6 (row_with (λ next. row_from fuel msg next end) at (Value len))) ≤ 8
        turn true e y =
            turn_room 1 6 5 8 named-repeats inside msg at len t eight (eqb-true s.bad 0 e) fits (places_of msg 6 (row_from fuel msg (at + 2 + len) end)) (λ a b. rest len (noted t s) a b y)
        turn false e y = absurd (eqb-false s.bad 0 e y)

module _ (msg : List ℕ) (at len : ℕ) (tally : Tally) (e : head_at msg at (length msg) ≡ Value len) (z : (tested_at msg at tally).bad ≡ 0) where
  pub named-room : type_at msg at ≡ 50 → length (places_of msg 6 (row_inside msg at)) ≤ 8
  unfolding tested_at element_of row_of row_inside row_in
  named-room k = rw e (on (rw k at (element-passed inside msg 26 at len tally.counts (rw e at z))))
    where
      inside : ℕ → Fault
      inside i = rows.row_from (at + 2 + len - (at + 2)) msg i at (at + 2) (at + 2 + len) none_counted

      on : Passed inside (type_under 26 50) at len tally.counts (element_with inside msg 26 at len tally.counts)
          → length (places_of msg 6 (row_from (at + 2 + len - (at + 2)) msg (at + 2) (at + 2 + len))) ≤ 8
      on (inl r) = absurd (omega (arith, r.0, rule-known.0))
      on (inr r) =
          let y = rw rule-known.0 at (r.row rule-known.1) in
          omega (arith, row_room (at + 2 + len - (at + 2)) msg at (at + 2) (at + 2 + len) none_counted refl (omega arith) y)

  -- `l` are the places of the 23s behind this element
  pub classifier-room : length tally.counts ≡ 8 → get_or tally.counts 0 0 ≤ 32 → (l : List ℕ)
      → (length (tested_at msg at tally).tally.counts ≡ 8 → get_or (tested_at msg at tally).tally.counts 0 0 ≤ 32 → get_or (tested_at msg at tally).tally.counts 0 0 + length l ≤ 32)
      → get_or tally.counts 0 0 + length (cond (eqb (type_at msg at) 23) (at ∷ l) l) ≤ 32
  unfolding tested_at element_of
  classifier-room eight fits l rest =
      turn_room 26 23 0 32 classifiers_repeat (λ k. row_of msg k at (at + 2) (at + 2 + len) none_counted) msg at len tally.counts eight (rw e at z) fits l (rw e at rest)
