-- `listing::lines::put_classifier` writes `classifier_line`: its fields one behind the other.
-- Trusts: nothing.
use Rattle.std.proofs.Common.{rules}
use Rattle.texts.proofs.Puts.{lined-put, wrote_put, wrote_end}
use Rattle.listing.specs.Text.{classifier_line}
use Rattle.listing.proofs.Lengths.{classifier_line-short}
use Rattle.listing.proofs.lines.put_classifier.Goals as goal

pub returns-clause-text : goal.returns-clause-text
unfolding classifier_line
returns-clause-text c =
    lined-put 30 c.requires (classifier_line-short c.args.classifier (search rules) (search rules))
    (λ f. wrote_put _ f c.put_field.ensures.text (λ f. wrote_put _ f c.put_field-2.ensures.text (wrote_end c.put_byte.ensures.text)))
