-- `writing_message::put_classifiers`: the entries that are passed are those of `classifiers_of`.
-- Trusts: nothing.
use Rattle.std.proofs.Common.{◌≡◌, ℕ, take, ap}
use Rattle.table.specs.Table.{classifiers_of}
use Rattle.writing_message.proofs.Turns.{added_same}
use Rattle.writing_message.proofs.put_classifiers.Goals as goal

pub returns : goal.returns
unfolding classifiers_of
returns c =
    let same : take c.limited-n.result c.args.table.classifiers ≡ classifiers_of c.args.table = ap (λ (k : ℕ). take k c.args.table.classifiers) c.limited-n.ensures in
    added_same same c.put_entries.ensures
