-- Only: a refusal is known by its number.
--
--   refusal_from n   the refusal of a number; of a number that is none's, the last
--   number_of-only   two refusals of one number are the same
--   number_of-some   no refusal has the number 0
--
-- Trusts: nothing.
use Rattle.std.proofs.Common.{◌≡◌, refl, ap, sym, ◌∙◌, ℕ, cond, eqb, arith}
use Rattle.refusals.specs.Refusals.{number_of}
use Rattle.refusals.specs.declared.Refusal.{Refusal}
use Rattle.refusals.specs.declared.Refusal.TheVariants.{ShortBuffer, ShortBody, TooLong, PieceCount, PieceNumber, CutHead, Length255, PastEnd, SecondCopy, WrongLength, BadValue, Full, MissingElement, NumberTaken, Unanswered, FrameLength, NoRule, ClockBack, CannotProduce, ShortOutput, BadCut, ShortListing}

unfoldable pub refusal_from : ℕ → Refusal
refusal_from n =
    cond (eqb n 1) ShortBuffer
    (cond (eqb n 2) ShortBody
    (cond (eqb n 3) TooLong
    (cond (eqb n 4) PieceCount
    (cond (eqb n 5) PieceNumber
    (cond (eqb n 6) CutHead
    (cond (eqb n 7) Length255
    (cond (eqb n 8) PastEnd
    (cond (eqb n 9) SecondCopy
    (cond (eqb n 10) WrongLength
    (cond (eqb n 11) BadValue
    (cond (eqb n 12) Full
    (cond (eqb n 13) MissingElement
    (cond (eqb n 14) NumberTaken
    (cond (eqb n 15) Unanswered
    (cond (eqb n 16) FrameLength
    (cond (eqb n 17) NoRule
    (cond (eqb n 18) ClockBack
    (cond (eqb n 19) CannotProduce
    (cond (eqb n 20) ShortOutput
    (cond (eqb n 21) BadCut
    ShortListing))))))))))))))))))))

pub refusal_from-back : (r : Refusal) → refusal_from (number_of r) ≡ r
unfolding number_of refusal_from
refusal_from-back ShortBuffer = refl
refusal_from-back ShortBody = refl
refusal_from-back TooLong = refl
refusal_from-back PieceCount = refl
refusal_from-back PieceNumber = refl
refusal_from-back CutHead = refl
refusal_from-back Length255 = refl
refusal_from-back PastEnd = refl
refusal_from-back SecondCopy = refl
refusal_from-back WrongLength = refl
refusal_from-back BadValue = refl
refusal_from-back Full = refl
refusal_from-back MissingElement = refl
refusal_from-back NumberTaken = refl
refusal_from-back Unanswered = refl
refusal_from-back FrameLength = refl
refusal_from-back NoRule = refl
refusal_from-back ClockBack = refl
refusal_from-back CannotProduce = refl
refusal_from-back ShortOutput = refl
refusal_from-back BadCut = refl
refusal_from-back ShortListing = refl

pub number_of-only : (r q : Refusal) → number_of r ≡ number_of q → r ≡ q
number_of-only r q e = sym (refusal_from-back r) ∙ ap refusal_from e ∙ refusal_from-back q

pub number_of-some : (r : Refusal) → number_of r ≡ 0 → ⊥
unfolding number_of refusal_from
number_of-some r e =
    let last : r ≡ ShortListing = sym (refusal_from-back r) ∙ ap refusal_from e in
    omega (arith, ap number_of last)
