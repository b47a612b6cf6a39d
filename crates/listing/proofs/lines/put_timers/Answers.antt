-- `listing::lines::put_timers` writes `timers_line`: its fields one behind the other.
-- Trusts: nothing.
use Rattle.std.proofs.Common.{rules}
use Rattle.texts.proofs.Puts.{lined-put, wrote_put, wrote_end}
use Rattle.listing.specs.Text.{timers_line}
use Rattle.listing.proofs.Lengths.{timers_line-short}
use Rattle.listing.proofs.lines.put_timers.Goals as goal

pub returns-clause-text : goal.returns-clause-text
unfolding timers_line
returns-clause-text c =
    lined-put 31 c.requires (timers_line-short c.args.timers (search rules) (search rules) (search rules) (search rules))
    (λ f. wrote_put _ f c.put_field.ensures.text (λ f. wrote_put _ f c.put_field-2.ensures.text (λ f. wrote_put _ f c.put_field-3.ensures.text (λ f. wrote_put _ f c.put_field-4.ensures.text (wrote_end c.put_byte.ensures.text)))))
