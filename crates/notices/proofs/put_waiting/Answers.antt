-- `notices::put_waiting` writes `waiting_text`.
-- Trusts: nothing.
use Rattle.texts.proofs.Puts.{lined-put, wrote_put, wrote_end}
use Rattle.notices.specs.Text.{waiting_text}
use Rattle.notices.proofs.Lengths.{waiting_text-short}
use Rattle.notices.proofs.put_waiting.Goals as goal

pub returns-clause-text : goal.returns-clause-text
unfolding waiting_text
returns-clause-text c =
    lined-put 12 c.requires (waiting_text-short _ c.ranges.slots.fits) (λ f. wrote_put _ f c.put_field.ensures.text (wrote_end c.put_byte.ensures.text))
