-- Where a refusal lies (specs/Rows.antt): it is one of 6 to 13, at a byte of the message.
--
--   Placed msg bad off    the claim, of a number and an offset
--   element_of-placed      it holds of an element, with all that is in its value
--   own_by, element_by      what an element's own tests say, and the element reader, by the answers to the four tests of each
-- Trusts: nothing.
use mathlib.Core.Path.{◌≡◌, refl}
use mathlib.Core.Bool.{Bool, true, false, cond, not}
use mathlib.Core.List.{List}
use Prim.Native.Nat.{ℕ, zero, suc, ◌+◌, ◌≤◌, ◌<◌}
use native.Mathlib.Omega.{arith}
use lib.ListN.{length, get_or}
use lib.Dec.{eqb}
use Rattle.elements.specs.Elements.{Head, End, Refused, Value, head_at}
use Rattle.types.specs.Places.{type_under}
use Rattle.musts.specs.Musts.{lacks_must}
use Rattle.elements.proofs.Laws.{head_at_starts, head_at-fits}
use Rattle.types.specs.declared.Known.{Known}
use Rattle.element_tests.specs.Tests.{stepped, second_copy, wrong_length, bad_value, is_full, own_tests}
use Rattle.rows.specs.Tests.{is_row, row_end, none_counted}
use Rattle.rows.specs.Rows.{element_with, noted, go_on, on_head, row_step, row_from, row_of, element_of}
use Rattle.element_tests.specs.Tests.{Step}
use Rattle.rows.specs.Tests.{Fault}

-- tests 9, 10, 11 and 12 of an element, in this order
abbrev pub own_by : (at list count : ℕ) (a b c d : Bool) → Step
own_by at list count a b c d =
    cond a (stepped 9 at list count)
    (cond b (stepped 10 at list count) (cond c (stepped 11 at list count) (cond d (stepped 12 at list count) (stepped 0 at list (count + 1)))))

-- its type is not listed; its own tests refuse it; its value is no row; the row inside is refused
abbrev pub element_by : (own : Step) (inner : Fault) (at list count : ℕ) (a b c d : Bool) → Step
element_by own inner at list count a b c d =
    cond a (stepped 0 at 8 0) (cond b own (cond c own (cond d (stepped inner.bad inner.off list count) own)))

-- a refusal is one of 6 to 13, at a byte of the message
abbrev pub Placed : List ℕ → ℕ → ℕ → Type 0
Placed msg bad off = (bad ≡ 0 → ⊥) → (6 ≤ bad) × (bad ≤ 13) × (off < length msg)

module _ (msg : List ℕ) where
  own-placed : (known : Known) (at len count : ℕ) → at < length msg → Placed msg (own_tests msg known at len count).bad (own_tests msg known at len count).off
  unfolding own_tests
  own-placed known at len count h =
      go (second_copy known.repeats count) (wrong_length known.length len) (bad_value msg known.values at len) (is_full known.repeats known.room count len)
    where
      go : (a b c d : Bool) → (let s = own_by at known.list count a b c d in Placed msg s.bad s.off)
      go true b c d z = (omega arith, omega arith, h)
      go false true c d z = (omega arith, omega arith, h)
      go false false true d z = (omega arith, omega arith, h)
      go false false false true z = (omega arith, omega arith, h)
      go false false false false z = absurd (z refl)

  end-placed : (parent own : ℕ) (t : List ℕ) → own < length msg → Placed msg (row_end parent own t).bad (row_end parent own t).off
  unfolding row_end
  end-placed parent own t h = go (lacks_must parent t)
    where
      go : (a : Bool) → (let f = cond {A = Fault} a (record { bad = 13; off = own }) (record { bad = 0; off = own }) in Placed msg f.bad f.off)
      go true z = (omega arith, omega arith, h)
      go false z = absurd (z refl)

  module _ (inside : ℕ → Fault) (parent at len : ℕ) (t : List ℕ) (into : (k : ℕ) → Placed msg (inside k).bad (inside k).off) (h : at < length msg) where
    element-placed : Placed msg (element_with inside msg parent at len t).bad (element_with inside msg parent at len t).off
    unfolding element_with
    element-placed =
        go (eqb known.place 26) (not (eqb own.bad 0)) (not (is_row known.length)) (not (eqb (inside known.place).bad 0))
      where
        known : Known
        known = type_under parent (get_or msg at 0)

        count : ℕ
        count = get_or t known.list 0

        own : Step
        own = own_tests msg known at len count

        go : (a b c d : Bool) → (let s = element_by own (inside known.place) at known.list count a b c d in Placed msg s.bad s.off)
        go true b c d z = absurd (z refl)
        go false true c d z = own-placed known at len count h z
        go false false true d z = own-placed known at len count h z
        go false false false true z = into known.place z
        go false false false false z = own-placed known at len count h z

  either_placed : (c : Bool) (f g : Fault) → Placed msg f.bad f.off → Placed msg g.bad g.off → Placed msg (cond c f g).bad (cond c f g).off
  either_placed true f g a b = a
  either_placed false f g a b = b

  module _ (rows : ℕ → ℕ → ℕ → ℕ → List ℕ → Fault) (parent own at end : ℕ) (t : List ℕ)
      (into : (k o a e : ℕ) (u : List ℕ) → o < length msg → Placed msg (rows k o a e u).bad (rows k o a e u).off) (h : own < length msg) where
    -- what the element at `at` comes to, and what it makes of its row
    abbrev child : ℕ → Step
    child len = element_with (λ k. rows k at (at + 2) (at + 2 + len) none_counted) msg parent at len t

    abbrev turn : ℕ → Fault
    turn len = go_on (child len) (λ s. rows parent own (at + 2 + len) end (noted t s))

    turn_placed : (len : ℕ) → at < length msg → Placed msg (turn len).bad (turn len).off
    turn_placed len i =
        let s = child len in
        either_placed (not (eqb s.bad 0)) (record { bad = s.bad; off = s.off }) (rows parent own (at + 2 + len) end (noted t s))
        (element-placed (λ k. rows k at (at + 2) (at + 2 + len) none_counted) parent at len t (λ k. into k at (at + 2) (at + 2 + len) none_counted i) i)
        (into parent own (at + 2 + len) end (noted t s) h)

    step_placed : Placed msg (row_step rows msg parent own at end t).bad (row_step rows msg parent own at end t).off
    unfolding row_step
    step_placed = on (head_at msg at end) refl
      where
        on : (x : Head) → head_at msg at end ≡ x → (let f = on_head x (row_end parent own t) at turn in Placed msg f.bad f.off)
        on End e = end-placed parent own t h
        on (Refused n) e = λ z. let s = head_at_starts msg at end e in (s.0, omega (arith, s.1), s.3)
        on (Value len) e = turn_placed len (omega (arith, (head_at-fits msg at end e).1))

  from_placed : (fuel parent own at end : ℕ) (t : List ℕ) → own < length msg
      → Placed msg (row_from fuel msg parent own at end t).bad (row_from fuel msg parent own at end t).off
  unfolding row_from
  from_placed zero parent own at end t h = end-placed parent own t h
  from_placed (suc fuel) parent own at end t h =
      step_placed (λ k o a e u. row_from fuel msg k o a e u) parent own at end t (λ k o a e u. from_placed fuel k o a e u) h

  pub element_of-placed : (parent at len : ℕ) (t : List ℕ) → at < length msg
      → Placed msg (element_of msg parent at len t).bad (element_of msg parent at len t).off
  unfolding element_of row_of
  element_of-placed parent at len t h = element-placed _ parent at len t (λ k. from_placed _ k at (at + 2) (at + 2 + len) none_counted h) h
