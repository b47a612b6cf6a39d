-- `listing::lines::put_channel` writes `channel_line`: its field, then the line's end.
-- Trusts: nothing.
use Rattle.texts.proofs.Puts.{lined-put, wrote_put, wrote_end}
use Rattle.listing.specs.Text.{channel_line}
use Rattle.listing.proofs.Lengths.{channel_line-short}
use Rattle.listing.proofs.lines.put_channel.Goals as goal

pub returns-clause-text : goal.returns-clause-text
unfolding channel_line
returns-clause-text c =
    lined-put 19 c.requires (channel_line-short c.args.hertz c.ranges.hertz.fits) (λ f. wrote_put _ f c.put_field.ensures.text (wrote_end c.put_byte.ensures.text))
