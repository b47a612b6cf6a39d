-- What stands at a place is known by the answer (specs/Stood.antt).
--
--   stood_only    two answers of which the same stands are the same
--   answer_as, stood_gives   the answer of which this stands
--   stood_end, stood_value, stood_refused   what stands by each answer
--   value_told    the length in an answer is that of what stands
--   value_some    an element stands, and this is its value's length
--   value_none    no element stands
-- Trusts: nothing.
use mathlib.Core.Path.{◌≡◌, refl, sym, ap, ◌∙◌}
use Rattle.std.proofs.Common.{ℕ, Option, Some, None, Result, Ok, Err}
use Rattle.std.specs.Result.{result_unwrap_or}
use Rattle.refusals.specs.declared.Refusal.{Refusal}
use Rattle.refusals.specs.Refusals.{number_of}
use Rattle.refusals.proofs.Only.{refusal_from, refusal_from-back}
use Rattle.elements.specs.Elements.{Head, End, Refused, Value, value_in}
use Rattle.elements.specs.Stood.{stood}

unfoldable pub answer_as : Head → Result (Option ℕ) Refusal
answer_as End = Ok None
answer_as (Refused n) = Err (refusal_from n)
answer_as (Value len) = Ok (Some len)

answer_as_back : (r : Result (Option ℕ) Refusal) → answer_as (stood r) ≡ r
unfolding stood answer_as
answer_as_back (Ok None) = refl
answer_as_back (Ok (Some len)) = refl
answer_as_back (Err r) = ap Err (refusal_from-back r)

pub stood_gives : (r : Result (Option ℕ) Refusal) {h : Head} → stood r ≡ h → r ≡ answer_as h
stood_gives r e = sym (answer_as_back r) ∙ ap answer_as e

pub stood_only : (r q : Result (Option ℕ) Refusal) → stood r ≡ stood q → r ≡ q
stood_only r q e = stood_gives r e ∙ answer_as_back q

pub value_told : (r : Result (Option ℕ) Refusal) → result_unwrap_or r None ≡ value_in (stood r)
unfolding stood
value_told (Ok None) = refl
value_told (Ok (Some len)) = refl
value_told (Err q) = refl

pub value_some : {h : Head} {o : Option ℕ} {len : ℕ} → o ≡ value_in h → o ≡ Some len → h ≡ Value len
value_some {h = End} {o} {len} e v = let z : ◌≡◌ {A = Option ℕ} None (Some len) = sym e ∙ v in cc
value_some {h = Refused n} {o} {len} e v = let z : ◌≡◌ {A = Option ℕ} None (Some len) = sym e ∙ v in cc
value_some {h = Value n} {o} {len} e v = let z : ◌≡◌ {A = Option ℕ} (Some n) (Some len) = sym e ∙ v in cc

pub value_none : {h : Head} {o : Option ℕ} → o ≡ value_in h → ((len : ℕ) → o ≡ Some len → ⊥) → (len : ℕ) → h ≡ Value len → ⊥
value_none e n len v = n len (e ∙ ap value_in v)

module _ {r : Result (Option ℕ) Refusal} {o : Option ℕ} (e : r ≡ Ok o) where
  pub stood_end : o ≡ None → stood r ≡ End
  unfolding stood
  stood_end n = simp (e, n)

  pub stood_value : {len : ℕ} → o ≡ Some len → stood r ≡ Value len
  unfolding stood
  stood_value v = simp (e, v)

pub stood_refused : {r : Result (Option ℕ) Refusal} {q : Refusal} → r ≡ Err q → stood r ≡ Refused (number_of q)
unfolding stood
stood_refused e = simp e
