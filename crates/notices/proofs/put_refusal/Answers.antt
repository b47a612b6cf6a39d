-- `notices::put_refusal` writes `refusal_text`: its fields one behind the other.
-- Trusts: nothing.
use Rattle.texts.proofs.Puts.{lined-put, wrote_put, wrote_end}
use Rattle.notices.specs.Text.{refusal_text}
use Rattle.notices.proofs.Lengths.{refusal_text-short}
use Rattle.notices.proofs.put_refusal.Goals as goal

pub returns-clause-text : goal.returns-clause-text
unfolding refusal_text
returns-clause-text c =
    lined-put 36 c.requires (refusal_text-short _ _ c.ranges.number.fits c.ranges.offset.fits)
    (λ f. wrote_put _ f c.put_field.ensures.text (λ f. wrote_put _ f c.put_field-2.ensures.text (wrote_end c.put_byte.ensures.text)))
