-- `writing_clients::put_each`: the client IDs that are passed are those of `clients_of`, eight at most.
-- Trusts: nothing.
use Rattle.std.proofs.Common.{◌≡◌, ℕ, take, ap}
use Rattle.table.specs.Table.{clients_of}
use Rattle.table.proofs.Laws.{length-clients_of_le}
use Rattle.writing_numbers.proofs.Within.{lined_listed}
use Rattle.writing_elements.specs.Encode.{client_bytes}
use Rattle.writing_clients.proofs.put_each.Goals as goal

pub returns : goal.returns
unfolding clients_of
returns c =
    let same : take c.limited-n.result c.args.rule.clients ≡ clients_of c.args.rule = ap (λ (k : ℕ). take k c.args.rule.clients) c.limited-n.ensures in
    lined_listed 8 8 client_bytes same (length-clients_of_le c.args.rule) c.put_each.ensures
