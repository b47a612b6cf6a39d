-- Refusals: the numbers of the refusals (document 01, "Refusal numbers"; document 02, Req 01 and Req 04).
--
--   number_of r   the number of a refusal: 1 to 18 are document 01's, 19 to 21 document 02's, 100 is the library's own
--
-- No two have one number: the law `number_of-only` (proofs/Only.antt). Trusts: nothing.
use Rattle.std.specs.Prelude.{ℕ}
use Rattle.refusals.specs.declared.Refusal.{Refusal}
use Rattle.refusals.specs.declared.Refusal.TheVariants.{ShortBuffer, ShortBody, TooLong, PieceCount, PieceNumber, CutHead, Length255, PastEnd, SecondCopy, WrongLength, BadValue, Full, MissingElement, NumberTaken, Unanswered, FrameLength, NoRule, ClockBack, CannotProduce, ShortOutput, BadCut, ShortListing}

unfoldable pub number_of : Refusal → ℕ
number_of ShortBuffer = 1
number_of ShortBody = 2
number_of TooLong = 3
number_of PieceCount = 4
number_of PieceNumber = 5
number_of CutHead = 6
number_of Length255 = 7
number_of PastEnd = 8
number_of SecondCopy = 9
number_of WrongLength = 10
number_of BadValue = 11
number_of Full = 12
number_of MissingElement = 13
number_of NumberTaken = 14
number_of Unanswered = 15
number_of FrameLength = 16
number_of NoRule = 17
number_of ClockBack = 18
number_of CannotProduce = 19
number_of ShortOutput = 20
number_of BadCut = 21
number_of ShortListing = 100
