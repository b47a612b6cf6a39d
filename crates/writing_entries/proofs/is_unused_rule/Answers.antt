-- `writing_entries::is_unused_rule` gives unused_rule: the numbers, the counts, the three lists and the tunnel.
-- Trusts: nothing.
use Rattle.writing_entries.proofs.Laws.{unused_rule_of}
use Rattle.writing_entries.proofs.is_unused_rule.Goals as goal

pub returns : goal.returns
returns c = unused_rule_of c.args.rule c.ucids_fit-ucids.ensures c.numbers_fit-numbers.ensures c.clients_fit-clients.ensures
