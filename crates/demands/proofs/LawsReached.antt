-- Where reading comes to 15: only at the end of the message, where every element has passed its tests.
--
--   Reached msg off row counts t   the search over the table that the row leaves of t finds number j of rule i, and `off` is its place; no 50 of
--                                  the row has more than eight 50.6; the 23s counted so far and those of the row are 32 at most
--   message-reached                so it is of a message that is refused with 15 at `off`
-- Trusts: nothing.
use Prim.Native.Nat.{ℕ, zero, suc, ◌+◌, ◌-◌, ◌≤◌}
use mathlib.Core.Path.{◌≡◌, refl}
use mathlib.Core.Bool.{Bool, true, false, cond, not}
use mathlib.Core.List.Memᴰ
use mathlib.Core.List.{List, ◌∷◌, Memᴰ}
use mathlib.Core.Logic.{◌⊎◌, inl, inr}
use native.Mathlib.Omega.{arith}
use borrow.Author.Tests.{eqb-true, eqb-false}
use lib.ListN.{length, get_or}
use lib.Dec.{eqb, ltb}
use Rattle.elements.specs.Elements.{Head, End, Refused, Value, head_at}
use Rattle.elements.proofs.Laws.{head_at_starts}
use Rattle.table.specs.Table.{empty_table}
use Rattle.table.specs.declared.Table.{Table}
use Rattle.children.specs.Rows.{Row, done, item, row_with, row_from, row_in, row_fold, type_at, places_of}
use Rattle.rows.specs.Tests.{none_counted, empty_tally}
use Rattle.rows.specs.Rows.{tested_at}
use Rattle.rows.specs.declared.Tally.{Tally}
use Rattle.rows.specs.Rows.{Tested}
use Rattle.rows.proofs.Laws.{tested_at-placed}
use Rattle.named.specs.Named.{Found, Nothing, Number, unanswered, named_place, placed, lone_number}
use Rattle.reader.specs.Take.{with_element, is_taken}
use Rattle.reader.specs.Read.{refusal, read_lone, read_row, read_table}
use Rattle.reader.specs.Read.{Refused as Refuses}
use Rattle.demands.proofs.LawsRoom.{named-room, classifier-room}
use Rattle.demands.proofs.LawsStand.{named_places}

-- what the walk over a row comes to; `counts` and t are what the elements before it leave
pub record Reached (msg : List ℕ) (off : ℕ) (row : Row) (counts : List ℕ) (t : Table) : Type 0 where
  pub i : ℕ
  pub j : ℕ
  pub found : unanswered (row_fold (λ at len u. with_element msg at u) row t) ≡ Number i j
  pub place : off ≡ named_place msg i j
  pub room : (p : ℕ) → Memᴰ p (places_of msg 50 row) → length (named_places msg p) ≤ 8
  pub classifiers : length counts ≡ 8 → get_or counts 0 0 ≤ 32 → get_or counts 0 0 + length (places_of msg 23 row) ≤ 32

module _ (given : Table) (msg : List ℕ) (off : ℕ) where
  -- the search over t finds a number, and its place is `off`
  abbrev Lone : Table → Type 0
  Lone t = (i : ℕ) × (j : ℕ) × (unanswered t ≡ Number i j) × (off ≡ named_place msg i j)

  -- the message from `at` on, and that reading it from such a place comes to 15 at `off`
  abbrev from : ℕ → ℕ → Row
  from left at = row_from left msg at (length msg)

  abbrev Comes : Row → Tally → Table → Type 0
  Comes row tally t = (read_row given msg row tally t).verdict ≡ Refuses 15 off

  lone_reached : (t : Table) → (read_lone given t (lone_number msg t)).verdict ≡ Refuses 15 off → Lone t
  unfolding lone_number
  lone_reached t = on (unanswered t) refl
    where
      on : (f : Found) → unanswered t ≡ f → (read_lone given t (placed msg f)).verdict ≡ Refuses 15 off → Lone t
      on Nothing e x = absurd (let z : ◌≡◌ {A = ℕ} 0 1 = cc in omega arith)
      on (Number i j) e x = let o : off ≡ named_place msg i j = cc in (i, j, e, o)

  -- a row of no element
  nothing_left : (counts : List ℕ) (t : Table) → Lone t → Reached msg off done counts t
  nothing_left counts t r =
      record { i = r.0; j = r.1; found = r.2; place = r.3; room = λ p m. absurd (Memᴰ.not-nil m); classifiers = λ a b. omega arith }

  row-reached : (left at : ℕ) (tally : Tally) (t : Table) → Comes (from left at) tally t → Reached msg off (from left at) tally.counts t
  unfolding row_from
  row-reached zero at tally t x = nothing_left tally.counts t (lone_reached t x)
  row-reached (suc left) at tally t x = on (head_at msg at (length msg)) refl x (λ len. row-reached left (at + 2 + len))
    where
      on : (h : Head) → head_at msg at (length msg) ≡ h → Comes (row_with (from left) at h) tally t
          → ((len : ℕ) (y : Tally) (u : Table) → Comes (from left (at + 2 + len)) y u → Reached msg off (from left (at + 2 + len)) y.counts u)
          → Reached msg off (row_with (from left) at h) tally.counts t
      on End e x rest = nothing_left tally.counts t (lone_reached t x)
      on (Refused n) e x rest = absurd (let s = head_at_starts msg at (length msg) e in let z : n ≡ 15 = cc in omega (arith, s.1))
      on (Value len) e x rest = turn (eqb u.bad 0) (is_taken msg at t) refl x
        where
          u : Tested
          u = tested_at msg at tally

          left_row : Row
          left_row = from left (at + 2 + len)

          fifties : List ℕ
          fifties = places_of msg 50 left_row

          roomy : u.bad ≡ 0 → ((p : ℕ) → Memᴰ p fifties → length (named_places msg p) ≤ 8)
              → (b : Bool) → eqb (type_at msg at) 50 ≡ b → (p : ℕ) → Memᴰ p (cond b (at ∷ fifties) fifties) → length (named_places msg p) ≤ 8
          roomy fine later false y p m = later p m
          roomy fine later true y p m = pick (Memᴰ.cases_cons m)
            where
              pick : (p ≡ at) ⊎ Memᴰ p fifties → length (named_places msg p) ≤ 8
              pick (inl z) = rw z (named-room msg at len tally e fine (eqb-true (type_at msg at) 50 y))
              pick (inr n) = later p n

          turn : (a b : Bool) → eqb u.bad 0 ≡ a
              → (cond (not a) (refusal u.bad u.off given) (cond b (refusal 14 at given) (read_row given msg left_row u.tally (with_element msg at t)))).verdict ≡ Refuses 15 off
              → Reached msg off (item at len left_row) tally.counts t
          turn false b y x =
              absurd (let z : u.bad ≡ 15 = cc in let p = tested_at-placed msg at tally (eqb-false u.bad 0 y) in omega (arith, p.1))
          turn true true y x = absurd (let z : ◌≡◌ {A = ℕ} 14 15 = cc in omega arith)
          turn true false y x =
              let r = rest len u.tally (with_element msg at t) x in
              let fine = eqb-true u.bad 0 y in
              record {
                i = r.i;
                j = r.j;
                found = r.found;
                place = r.place;
                room = roomy fine r.room (eqb (type_at msg at) 50) refl;
                classifiers = λ a b. classifier-room msg at len tally e fine a b (places_of msg 23 left_row) r.classifiers;
              }

  pub message-reached : (read_table given msg).verdict ≡ Refuses 15 off → Reached msg off (row_in msg 0 (length msg)) none_counted empty_table
  unfolding read_table row_in
  message-reached = on (ltb 23952 (length msg))
    where
      on : (b : Bool) → (cond b (refusal 3 0 given) (read_row given msg (row_in msg 0 (length msg)) empty_tally empty_table)).verdict ≡ Refuses 15 off
          → Reached msg off (row_in msg 0 (length msg)) none_counted empty_table
      on true x = absurd (let z : ◌≡◌ {A = ℕ} 3 15 = cc in omega arith)
      on false x = row-reached (length msg - 0) 0 empty_tally empty_table x
