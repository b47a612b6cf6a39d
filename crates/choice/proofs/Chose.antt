-- The paper's words tell answers apart (specs/Chose.antt).
--
--   chose_only   two answers that are told alike are the same
-- Trusts: nothing.
use mathlib.Core.Path.{◌≡◌, refl, sym, ap, ◌∙◌}
use Prim.Native.Nat.{ℕ}
use Rattle.std.specs.Prelude.{Result, Ok, Err}
use Rattle.refusals.specs.declared.Refusal.{Refusal}
use Rattle.refusals.proofs.Only.{refusal_from, refusal_from-back}
use Rattle.choice.specs.Chose.{Choice, Chosen, Refused, chose}

answer_as : Choice → Result ℕ Refusal
answer_as (Chosen k) = Ok k
answer_as (Refused n) = Err (refusal_from n)

answer_as_back : (c : Result ℕ Refusal) → answer_as (chose c) ≡ c
unfolding chose answer_as
answer_as_back (Ok k) = refl
answer_as_back (Err r) = ap Err (refusal_from-back r)

pub chose_only : (c d : Result ℕ Refusal) → chose c ≡ chose d → c ≡ d
chose_only c d e = sym (answer_as_back c) ∙ ap answer_as e ∙ answer_as_back d
