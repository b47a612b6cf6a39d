-- `listing::lines::put_classifiers` has `put_each` write the text `classifier_line` of each entry.
-- Trusts: nothing.
use Rattle.listing.specs.Text.{classifier_line}
use Rattle.listing.proofs.lines.put_classifiers.Given as goal

abbrev pub ghost-put_each : goal.ghost-put_each
ghost-put_each a = classifier_line
