-- What a row or an element comes to is known by the answer (specs/Told.antt).
--
--   fault_of-only, tested_of-only   two answers that say the same are the same
--   fault_fine, fault_bad           an answer that is fine says no refusal; one that is a refusal does
--   next_as, tested_gives           the answer that says this of a top-level element
--   tested_fine, tested_bad         what stands after a top-level element that is fine; the refusal of one that is not
-- Trusts: nothing.
use mathlib.Core.Path.{◌≡◌, refl, sym, ap, ◌∙◌}
use Rattle.std.proofs.Common.{ℕ, cond, eqb, Result, Ok, Err}
use borrow.Author.Tests.{ne_eqb}
use Rattle.refusals.specs.Refusals.{number_of}
use Rattle.refusals.specs.declared.Fault.{Fault as Refused}
use Rattle.refusals.proofs.Only.{refusal_from, refusal_from-back, number_of-some}
use Rattle.rows.specs.Tests.{Fault}
use Rattle.rows.specs.Rows.{Tested}
use Rattle.rows.specs.Told.{fault_of, tested_of}
use Rattle.rows.specs.declared.Next.{Next}
use Rattle.rows.specs.declared.Stopped.{Stopped}

unfoldable pub row_as : Fault → Result (Unit {0}) Refused
row_as f = cond (eqb f.bad 0) (Ok tt) (Err (record { refusal = refusal_from f.bad; offset = f.off }))

row_as_back : (own : ℕ) (r : Result (Unit {0}) Refused) → row_as (fault_of own r) ≡ r
unfolding fault_of row_as
row_as_back own (Ok u) = refl
row_as_back own (Err f) = simp (ne_eqb _ _ (number_of-some f.refusal), refusal_from-back f.refusal)

pub fault_of-only : (own : ℕ) (r q : Result (Unit {0}) Refused) → fault_of own r ≡ fault_of own q → r ≡ q
fault_of-only own r q e = sym (row_as_back own r) ∙ ap row_as e ∙ row_as_back own q

pub fault_fine : (own : ℕ) {u : Unit {0}} {f : Fault} → fault_of own (Ok u) ≡ f → f.bad ≡ 0
unfolding fault_of
fault_fine own e = sym (ap (λ (f : Fault). f.bad) e)

pub fault_bad : (own : ℕ) (r : Refused) {f : Fault} → fault_of own (Err r) ≡ f → f.bad ≡ 0 → ⊥
unfolding fault_of
fault_bad own r e z = number_of-some r.refusal (ap (λ (f : Fault). f.bad) e ∙ z)

unfoldable pub next_as : Tested → Result Next Stopped
next_as t =
    let next : Next = record { place = t.next; tally = t.tally } in
    cond (eqb t.bad 0) (Ok next) (Err (record { fault = record { refusal = refusal_from t.bad; offset = t.off }; next = next }))

next_as_back : (at : ℕ) (r : Result Next Stopped) → next_as (tested_of at r) ≡ r
unfolding tested_of next_as
next_as_back at (Ok n) = refl
next_as_back at (Err s) = simp (ne_eqb _ _ (number_of-some s.fault.refusal), refusal_from-back s.fault.refusal)

pub tested_gives : (at : ℕ) (r : Result Next Stopped) {t : Tested} → tested_of at r ≡ t → r ≡ next_as t
tested_gives at r e = sym (next_as_back at r) ∙ ap next_as e

pub tested_of-only : (at : ℕ) (r q : Result Next Stopped) → tested_of at r ≡ tested_of at q → r ≡ q
tested_of-only at r q e = tested_gives at r e ∙ next_as_back at q

pub tested_fine : (at : ℕ) (n : Next) {t : Tested} → tested_of at (Ok n) ≡ t → (t.bad ≡ 0) × (n.place ≡ t.next) × (n.tally ≡ t.tally)
unfolding tested_of
tested_fine at n e = (sym (ap (λ (t : Tested). t.bad) e), ap (λ (t : Tested). t.next) e, ap (λ (t : Tested). t.tally) e)

pub tested_bad : (at : ℕ) (s : Stopped) {t : Tested} → tested_of at (Err s) ≡ t
    → (t.bad ≡ 0 → ⊥) × (number_of s.fault.refusal ≡ t.bad) × (s.fault.offset ≡ t.off)
unfolding tested_of
tested_bad at s e =
    let number = ap (λ (t : Tested). t.bad) e in
    (λ z. number_of-some s.fault.refusal (number ∙ z), number, ap (λ (t : Tested). t.off) e)
