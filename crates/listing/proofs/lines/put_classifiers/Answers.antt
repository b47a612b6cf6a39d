-- `listing::lines::put_classifiers`: the entries that are passed are those of `classifiers_of`, 32 at most.
-- Trusts: nothing.
use Rattle.std.proofs.Common.{◌≡◌, ℕ, take, ap}
use Rattle.table.specs.Table.{classifiers_of}
use Rattle.table.proofs.Laws.{length-classifiers_of_le}
use Rattle.listing.specs.Text.{classifier_line}
use Rattle.listing.proofs.Lengths.{lined_listed}
use Rattle.listing.proofs.lines.put_classifiers.Goals as goal

pub returns-clause-text : goal.returns-clause-text
unfolding classifiers_of
returns-clause-text c =
    let same : take c.limited-n.result c.args.table.classifiers ≡ classifiers_of c.args.table = ap (λ (k : ℕ). take k c.args.table.classifiers) c.limited-n.ensures in
    lined_listed 30 32 classifier_line same (length-classifiers_of_le c.args.table) c.put_each.ensures.text
