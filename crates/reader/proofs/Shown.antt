-- The paper's words tell readings apart (specs/Shown.antt).
--
--   shown_only               two readings that are shown alike are the same
--   answer_as, shown_gives   the reading that is shown so
-- Trusts: nothing.
use mathlib.Core.Path.{◌≡◌, refl, sym, ap, ◌∙◌}
use Rattle.std.proofs.Common.{Result, Ok, Err}
use Rattle.refusals.specs.declared.Fault.{Fault}
use Rattle.refusals.proofs.Only.{refusal_from, refusal_from-back}
use Rattle.reader.specs.declared.Reading.{Reading as Answer}
use Rattle.reader.specs.Read.{Verdict, Accepted, Refused, Reading}
use Rattle.reader.specs.Shown.{passed, shown}

unfoldable pub verdict_as : Verdict → Result (Unit {0}) Fault
verdict_as Accepted = Ok tt
verdict_as (Refused n offset) = Err (record { refusal = refusal_from n; offset = offset })

verdict_as_back : (v : Result (Unit {0}) Fault) → verdict_as (passed v) ≡ v
unfolding passed verdict_as
verdict_as_back (Ok u) = refl
verdict_as_back (Err f) = simp (refusal_from-back f.refusal)

unfoldable pub answer_as : Reading → Answer
answer_as s = record { verdict = verdict_as s.verdict; table = s.table }

answer_as_back : (r : Answer) → answer_as (shown r) ≡ r
unfolding shown answer_as
answer_as_back r = rw (verdict_as_back r.verdict)

pub shown_gives : (r : Answer) {s : Reading} → shown r ≡ s → r ≡ answer_as s
shown_gives r e = sym (answer_as_back r) ∙ ap answer_as e

pub shown_only : (r s : Answer) → shown r ≡ shown s → r ≡ s
shown_only r s e = shown_gives r e ∙ answer_as_back s
