-- The paper's words tell verdicts apart (specs/Judged.antt).
--
--   judged_only   two verdicts that are judged alike are the same
-- Trusts: nothing.
use mathlib.Core.Path.{◌≡◌, refl, sym, ap, ◌∙◌}
use Rattle.payloads.specs.declared.Verdict as answers
use Rattle.payloads.specs.declared.Verdict.TheVariants as answer
use Rattle.payloads.specs.Judged.{Verdict, Refused, Other, Forward, Filtered, judged}

verdict_as : Verdict → answers.Verdict
verdict_as (Refused n) = answer.Refused n
verdict_as Other = answer.Other
verdict_as (Forward n) = answer.Forward n
verdict_as Filtered = answer.Filtered

verdict_as_back : (v : answers.Verdict) → verdict_as (judged v) ≡ v
unfolding judged verdict_as
verdict_as_back (answer.Refused n) = refl
verdict_as_back answer.Other = refl
verdict_as_back (answer.Forward n) = refl
verdict_as_back answer.Filtered = refl

pub judged_only : (v w : answers.Verdict) → judged v ≡ judged w → v ≡ w
judged_only v w e = sym (verdict_as_back v) ∙ ap verdict_as e ∙ verdict_as_back w
