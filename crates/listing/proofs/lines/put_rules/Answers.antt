-- `listing::lines::put_rules`: the entries that are passed are those of `rules_of`, 32 at most.
-- Trusts: nothing.
use Rattle.std.proofs.Common.{◌≡◌, ℕ, take, ap}
use Rattle.table.specs.Table.{rules_of}
use Rattle.table.proofs.Laws.{length-rules_of_le}
use Rattle.listing.specs.Text.{rule_line}
use Rattle.listing.proofs.Lengths.{lined_listed}
use Rattle.listing.proofs.lines.put_rules.Goals as goal

pub returns-clause-text : goal.returns-clause-text
unfolding rules_of
returns-clause-text c =
    let same : take c.limited-n.result c.args.table.rules ≡ rules_of c.args.table = ap (λ (k : ℕ). take k c.args.table.rules) c.limited-n.ensures in
    lined_listed 66 32 rule_line same (length-rules_of_le c.args.table) c.put_each.ensures.text
