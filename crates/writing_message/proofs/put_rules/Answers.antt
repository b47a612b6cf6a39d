-- `writing_message::put_rules`: the entries that are passed are those of `rules_of`.
-- Trusts: nothing.
use Rattle.std.proofs.Common.{◌≡◌, ℕ, take, ap}
use Rattle.table.specs.Table.{rules_of}
use Rattle.writing_message.proofs.Turns.{added_same}
use Rattle.writing_message.proofs.put_rules.Goals as goal

pub returns : goal.returns
unfolding rules_of
returns c =
    let same : take c.limited-n.result c.args.table.rules ≡ rules_of c.args.table = ap (λ (k : ℕ). take k c.args.table.rules) c.limited-n.ensures in
    added_same same c.put_entries.ensures
