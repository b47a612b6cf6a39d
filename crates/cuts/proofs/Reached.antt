-- `may_cut` in the words of document 02: a cut of the message may be just where a walk over whole elements arrives (a start, or the message's end), or
-- behind the start of the element at which it stops.
--
--   may_cut_says      where a cut may be, the walk arrives there or stops before it
--   reached_may, fault_may       and only there
--   free_may, inside-never       behind a place where the walk stops a cut may be; inside an element that it reaches none may
-- Trusts: nothing.
use Prim.Native.Nat.{ℕ, zero, suc, ◌+◌, ◌-◌, ◌≤◌, ◌<◌}
use mathlib.Core.Path.{◌≡◌, refl, sym, ap, ◌∙◌}
use mathlib.Core.Bool.{Bool, true, false}
use mathlib.Core.List.{List}
use mathlib.Core.Logic.{◌⊎◌, inl, inr}
use native.Mathlib.Omega.{arith}
use borrow.Author.Tests.{eqb-true, eqb-false, ltb-true, ltb-false}
use lib.ListN.{length}
use lib.Dec.{eqb, ltb}
use Rattle.elements.specs.Elements.{Head, End, Refused, Value, head_at}
use Rattle.elements.proofs.Laws.{head_at_ends, head_at-fits}
use Rattle.children.specs.Rows.{row_in}
use Rattle.children.proofs.Laws.{row_in_item}
use Rattle.cuts.specs.Cuts.{may_in, may_cut}
use Rattle.cuts.specs.Walks.{Reached, first, next, FaultBefore}
use Rattle.cuts.proofs.Laws.{may_in-item, may_in-before, may_in-here, may_in-free}

-- where the walk is, later cuts are judged by the row from there on
agrees : (msg : List ℕ) {at : ℕ} → Reached msg at → (at ≤ length msg) × ((c : ℕ) → at ≤ c → may_cut msg c ≡ may_in (row_in msg at (length msg)) (length msg) c)
agrees msg first = (omega arith, λ c q. refl)
agrees msg (next {at} len t e) =
    let i = agrees msg t in
    let f = head_at-fits msg at (length msg) e in (
      f.1,
      λ c q. i.1 c (omega arith) ∙ ap (λ r. may_in r (length msg) c) (row_in_item msg at (length msg) (sym e) refl) ∙ may_in-item at len _ (length msg) c (omega arith),
    )

pub reached_may : (msg : List ℕ) (c : ℕ) → Reached msg c → may_cut msg c ≡ true
reached_may msg c t = let i = agrees msg t in i.1 c (omega arith) ∙ may_in-here msg c i.0

-- behind a place where no element stands, and inside an element
pub free_may : (msg : List ℕ) (at c : ℕ) → Reached msg at → {h : Head} → h ≡ head_at msg at (length msg) → ((len : ℕ) → h ≡ Value len → ⊥) → at < c → may_cut msg c ≡ true
free_may msg at c t e never l = (agrees msg t).1 c (omega arith) ∙ may_in-free msg at c e never l

pub inside-never : (msg : List ℕ) (at c : ℕ) {len : ℕ} → Reached msg at → head_at msg at (length msg) ≡ Value len → at < c → c < at + 2 + len → may_cut msg c ≡ false
inside-never msg at c {len} t e l m =
    (agrees msg t).1 c (omega arith)
    ∙ ap (λ r. may_in r (length msg) c) (row_in_item msg at (length msg) (sym e) refl)
    ∙ may_in-item at len _ (length msg) c l
    ∙ may_in-before msg (at + 2 + len) c m (head_at-fits msg at (length msg) e).1

no_len : (n len : ℕ) → Refused n ≡ Value len → ⊥
no_len n len e = let z : ◌≡◌ {A = ℕ} 0 1 = cc in omega arith

pub fault_may : (msg : List ℕ) (c : ℕ) → FaultBefore msg c → may_cut msg c ≡ true
fault_may msg c f = free_may msg f.place c f.reached (sym f.faulty) (λ len v. no_len f.number len v) f.before

-- a cut behind a place that the walk reaches: the element there is passed, or the walk stops
behind : (msg : List ℕ) (at c : ℕ) (h : Head) → head_at msg at (length msg) ≡ h → Reached msg at → at < c → c ≤ length msg
    → ((len : ℕ) → head_at msg at (length msg) ≡ Value len → may_in (row_in msg (at + 2 + len) (length msg)) (length msg) c ≡ true → Reached msg c ⊎ FaultBefore msg c)
    → may_in (row_in msg at (length msg)) (length msg) c ≡ true → Reached msg c ⊎ FaultBefore msg c
behind msg at c End e t l inside later may = absurd (omega (arith, head_at_ends msg at (length msg) e))
behind msg at c (Refused n) e t l inside later may = inr (record { place = at; number = n; reached = t; faulty = e; before = l })
behind msg at c (Value len) e t l inside later may =
    later len e (sym (ap (λ r. may_in r (length msg) c) (row_in_item msg at (length msg) (sym e) refl) ∙ may_in-item at len _ (length msg) c l) ∙ may)

-- a cut by where it stands to such a place; `on` says what is behind it
says_at : (msg : List ℕ) (at c : ℕ) → Reached msg at → (at < c → Reached msg c ⊎ FaultBefore msg c) → may_in (row_in msg at (length msg)) (length msg) c ≡ true
    → Reached msg c ⊎ FaultBefore msg c
says_at msg at c t on may = go (ltb c at) refl (eqb at c) refl where
  go : (u : Bool) → ltb c at ≡ u → (v : Bool) → eqb at c ≡ v → Reached msg c ⊎ FaultBefore msg c
  go true e v f = absurd (let z : false ≡ true = sym (may_in-before msg at c (ltb-true c at e) (agrees msg t).0) ∙ may in let y : ◌≡◌ {A = ℕ} 0 1 = cc in omega arith)
  go false e true f = inl (rw (← eqb-true at c f) t)
  go false e false f = let a = ltb-false c at e in let b = eqb-false at c f in on (omega arith)

says_from : (k : ℕ) (msg : List ℕ) (at c : ℕ) → length msg - at ≤ k → Reached msg at → c ≤ length msg
    → may_in (row_in msg at (length msg)) (length msg) c ≡ true → Reached msg c ⊎ FaultBefore msg c
says_from zero msg at c left t inside may = says_at msg at c t (λ l. absurd (omega arith)) may
says_from (suc k) msg at c left t inside may =
    says_at msg at c t (λ l. behind msg at c (head_at msg at (length msg)) refl t l inside (λ len e m. says_from k msg (at + 2 + len) c (omega (arith, head_at-fits msg at (length msg) e)) (next len t e) inside m) may) may

pub may_cut_says : (msg : List ℕ) (c : ℕ) → c ≤ length msg → may_cut msg c ≡ true → Reached msg c ⊎ FaultBefore msg c
may_cut_says msg c inside may = says_from (length msg) msg 0 c (omega arith) first inside may
