-- Laws of the tests of a body (specs/Refusals.antt).
--
--   fits_of          what a body that is not refused is like
--   refusal_of-room   the buffers are long enough, and the body's own tests are passed
--   refused_some     no refusal has the number 0
--   refused_by-ok    nothing is refused where the number is 0
--   refused_by_only   two answers of one number are the same
-- Trusts: nothing.
use Rattle.std.proofs.Common.{◌≡◌, refl, ap, ℕ, ◌≤◌, List, arith, Result, Ok, Err}
use Rattle.std.proofs.lemmas.Bool.Decides.{nat_tests}
use Rattle.refusals.specs.declared.Refusal.{Refusal}
use Rattle.refusals.specs.Refusals as refusals
use Rattle.refusals.proofs.Only.{number_of-only}
use Rattle.body_tests.specs.Refusals.{body_refusal, refusal_of, refused_by, Fits}

pub fits_of : (body : List ℕ) → body_refusal body ≡ 0 → Fits body
unfolding body_refusal
fits_of body h = record {
  head = grind (arith, nat_tests);
  most = grind (arith, nat_tests);
  first = grind (arith, nat_tests);
  last = grind (arith, nat_tests);
  few = grind (arith, nat_tests);
}

pub refusal_of-room : (slots join : ℕ) (body : List ℕ) → refusal_of slots join body ≡ 0 → (24000 ≤ slots) × (24000 ≤ join) × (body_refusal body ≡ 0)
unfolding refusal_of
refusal_of-room slots join body h = (grind (arith, nat_tests), grind (arith, nat_tests), grind (arith, nat_tests))

pub refused_some : (r : Refusal) → refusals.number_of r ≡ 0 → ⊥
unfolding refusals.number_of
refused_some r h = grind arith

pub refused_by-ok : (x : Result (Unit {0}) Refusal) → refused_by x ≡ 0 → x ≡ Ok tt
refused_by-ok (Ok x) h = refl
refused_by-ok (Err r) h = absurd (refused_some r h)

pub refused_by_only : (x y : Result (Unit {0}) Refusal) → refused_by x ≡ refused_by y → x ≡ y
refused_by_only (Ok x) (Ok y) h = refl
refused_by_only (Ok x) (Err r) h = absurd (refused_some r (cc))
refused_by_only (Err r) (Ok x) h = absurd (refused_some r h)
refused_by_only (Err r) (Err q) h = ap (λ (w : Refusal). Err w) (number_of-only r q h)
