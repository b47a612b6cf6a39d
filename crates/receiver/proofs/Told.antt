-- What is told tells reports apart (specs/Receive.antt).
--
--   told_only   two reports that are told alike are the same
-- Trusts: nothing.
use mathlib.Core.Path.{◌≡◌, refl, sym, ap, ◌∙◌}
use Rattle.refusals.specs.declared.Refusal.{Refusal}
use Rattle.refusals.proofs.Only.{refusal_from, refusal_from-back}
use Rattle.receiver.specs.declared.Report.{Report}
use Rattle.receiver.specs.declared.Report.TheVariants.{BodyRefused, Repeat, Waiting, Accepted, MessageRefused, Dropped}
use Rattle.receiver.specs.Receive.{Told, body_refused, again, waiting, accepted, message_refused, dropped, told}

report_as : Told → Report
report_as (body_refused n) = BodyRefused n
report_as again = Repeat
report_as (waiting k) = Waiting k
report_as accepted = Accepted
report_as (message_refused n offset) = MessageRefused (record { refusal = refusal_from n; offset = offset })
report_as (dropped cut) = Dropped cut

report_as_back : (r : Report) → report_as (told r) ≡ r
unfolding report_as
report_as_back (BodyRefused n) = refl
report_as_back Repeat = refl
report_as_back (Waiting k) = refl
report_as_back Accepted = refl
report_as_back (MessageRefused f) = ap (λ (q : Refusal). MessageRefused (record { refusal = q; offset = f.offset })) (refusal_from-back f.refusal)
report_as_back (Dropped cut) = refl

pub told_only : (r s : Report) → told r ≡ told s → r ≡ s
told_only r s e = sym (report_as_back r) ∙ ap report_as e ∙ report_as_back s
