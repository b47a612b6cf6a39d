-- `listing::lines::put_rules` has `put_each` write the text `rule_line` of each entry.
-- Trusts: nothing.
use Rattle.listing.specs.Text.{rule_line}
use Rattle.listing.proofs.lines.put_rules.Given as goal

abbrev pub ghost-put_each : goal.ghost-put_each
ghost-put_each a = rule_line
