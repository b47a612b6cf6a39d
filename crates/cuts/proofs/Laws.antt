-- Laws of cuts (specs/Cuts.antt): what a walk over the top-level elements may forget of those behind it.
--
--   may_in-item       a cut behind an element's start is judged by the row behind the element
--   may_in-here       a cut where the row begins is good          may_in-before     one before it is bad, in the message
--   may_in-free       behind a place where no element stands nothing is judged     may_cut_past      nor past the message's end
-- Trusts: nothing.
use Prim.Native.Nat.{ℕ, zero, suc, ◌+◌, ◌-◌, ◌≤◌, ◌<◌}
use mathlib.Core.Path.{◌≡◌, refl, sym}
use mathlib.Core.Bool.{true, false, ◌||◌, or-true}
use mathlib.Core.List.{List}
use native.Mathlib.Omega.{arith}
use borrow.Author.Tests.{eq-eqb, ne_eqb, lt-ltb, le-ltb}
use lib.ListN.{length}
use lib.Dec.{eqb, ltb}
use Rattle.elements.specs.Elements.{Head, End, Refused, Value, head_at}
use Rattle.elements.proofs.Laws.{head_at_ends, head_at-fits}
use Rattle.children.specs.Rows.{Row, item, row_with, row_in}
use Rattle.children.proofs.Laws.{row_in_rule}
use Rattle.cuts.specs.Cuts.{starts_at, judged_to, may_in, may_cut}

pub may_in-item : (at len : ℕ) (rest : Row) (end c : ℕ) → at < c → may_in (item at len rest) end c ≡ may_in rest end c
unfolding may_in starts_at judged_to
may_in-item at len rest end c l = simp (ne_eqb at c (λ e. omega arith))

pub may_in-here : (msg : List ℕ) (at : ℕ) → at ≤ length msg → may_in (row_in msg at (length msg)) (length msg) at ≡ true
unfolding may_in starts_at
may_in-here msg at fits = rw (row_in_rule msg at (length msg)) (on (head_at msg at (length msg)) refl)
  where
    on : (h : Head) → head_at msg at (length msg) ≡ h
        → (starts_at (row_with (λ next. row_in msg next (length msg)) at h) at || (eqb at (length msg) || ltb (judged_to (row_with (λ next. row_in msg next (length msg)) at h) (length msg)) at)) ≡ true
    on End e = let f = head_at_ends msg at (length msg) e in simp (eq-eqb at (length msg) (omega arith))
    on (Refused n) e = simp (eq-eqb at at refl)
    on (Value len) e = simp (eq-eqb at at refl)

-- all elements of the row start from `at` on, and the judging ends there or later, and in the message
pub record From (at end : ℕ) (row : Row) : Type 0 where
  pub none : (c : ℕ) → c < at → starts_at row c ≡ false
  pub judged : at ≤ judged_to row end
  pub inside : judged_to row end ≤ end

-- by one head, and the rows from later places on
from_head : (msg : List ℕ) (at : ℕ) (h : Head) → head_at msg at (length msg) ≡ h → at ≤ length msg
    → ((next : ℕ) → at < next → next ≤ length msg → From next (length msg) (row_in msg next (length msg)))
    → From at (length msg) (row_with (λ next. row_in msg next (length msg)) at h)
unfolding starts_at judged_to
from_head msg at End e fits i = record { none = λ c q. refl; judged = fits; inside = omega arith }
from_head msg at (Refused n) e fits i = record { none = λ c q. ne_eqb at c (λ z. omega arith); judged = omega arith; inside = fits }
from_head msg at (Value len) e fits i =
    let f = head_at-fits msg at (length msg) e in
    let r = i (at + 2 + len) (omega arith) f.0 in
    record { none = λ c q. simp (ne_eqb at c (λ z. omega arith), r.none c (omega arith)); judged = omega (arith, r.judged); inside = r.inside }

from_rest : (k : ℕ) (msg : List ℕ) (at : ℕ) → length msg - at ≤ k → at ≤ length msg → From at (length msg) (row_in msg at (length msg))
from_rest zero msg at left fits =
    rw (row_in_rule msg at (length msg)) (from_head msg at (head_at msg at (length msg)) refl fits (λ next l m. absurd (omega arith)))
from_rest (suc k) msg at left fits =
    rw (row_in_rule msg at (length msg)) (from_head msg at (head_at msg at (length msg)) refl fits (λ next l m. from_rest k msg next (omega arith) m))

pub may_in-before : (msg : List ℕ) (at c : ℕ) → c < at → at ≤ length msg → may_in (row_in msg at (length msg)) (length msg) c ≡ false
unfolding may_in
may_in-before msg at c l fits =
    let f = from_rest (length msg - at) msg at (omega arith) fits in
    let j = f.judged in
    simp (f.none c l, ne_eqb c (length msg) (λ e. omega arith), le-ltb (judged_to (row_in msg at (length msg)) (length msg)) c (omega arith))

-- where no element stands, the message ends or its head is faulty: later cuts are not judged
pub may_in-free : (msg : List ℕ) (at c : ℕ) {h : Head} → h ≡ head_at msg at (length msg) → ((len : ℕ) → h ≡ Value len → ⊥) → at < c → may_in (row_in msg at (length msg)) (length msg) c ≡ true
unfolding may_in starts_at judged_to
may_in-free msg at c {h} e never l = rw (row_in_rule msg at (length msg), ← e) (on h e never)
  where
    on : (k : Head) → k ≡ head_at msg at (length msg) → ((len : ℕ) → k ≡ Value len → ⊥)
        → (starts_at (row_with (λ next. row_in msg next (length msg)) at k) c || (eqb c (length msg) || ltb (judged_to (row_with (λ next. row_in msg next (length msg)) at k) (length msg)) c)) ≡ true
    on End f never = let z = head_at_ends msg at (length msg) (sym f) in simp (lt-ltb (length msg) c (omega arith)) (or-true (eqb c (length msg)))
    on (Refused n) f never = simp (lt-ltb at c l, ne_eqb at c (λ z. omega arith)) (or-true (eqb c (length msg)))
    on (Value len) f never = absurd (never len refl)

-- past the message's end nothing is judged
pub may_cut_past : (msg : List ℕ) (c : ℕ) → length msg < c → may_cut msg c ≡ true
unfolding may_in
may_cut_past msg c l =
    let f = from_rest (length msg) msg 0 (omega arith) (omega arith) in
    let i = f.inside in
    simp (lt-ltb (judged_to (row_in msg 0 (length msg)) (length msg)) c (omega arith), or-true (eqb c (length msg))) (or-true (starts_at (row_in msg 0 (length msg)) c))
