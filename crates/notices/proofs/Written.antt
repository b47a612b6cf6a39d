-- What is written tells the answers of a listing apart (specs/Listing.antt).
--
--   written_only   two answers that are told alike are the same
-- Trusts: nothing.
use Rattle.std.proofs.Common.{◌≡◌, refl, sym, ap, ◌∙◌, ℕ, Result, Ok, Err}
use Rattle.refusals.specs.declared.Refusal.{Refusal}
use Rattle.refusals.proofs.Only.{refusal_from, refusal_from-back}
use Rattle.notices.specs.Listing.{Written, text, refused, written}

answer_from : Written → Result ℕ Refusal
answer_from (text n) = Ok n
answer_from (refused n) = Err (refusal_from n)

answer_from-back : (a : Result ℕ Refusal) → answer_from (written a) ≡ a
unfolding answer_from
answer_from-back (Ok n) = refl
answer_from-back (Err r) = ap (λ (q : Refusal). Err q) (refusal_from-back r)

pub written_only : (a b : Result ℕ Refusal) → written a ≡ written b → a ≡ b
written_only a b e = sym (answer_from-back a) ∙ ap answer_from e ∙ answer_from-back b
