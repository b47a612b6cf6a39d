-- `writing_entries::is_sound_rule` gives sound_rule: the counts, the three lists and the tunnel.
-- Trusts: nothing.
use borrow.Author.Rules.{rules}
use Rattle.table.proofs.Laws.{length_mapped}
use Rattle.writing_entries.proofs.Laws.{sound_rule_of}
use Rattle.writing_entries.proofs.is_sound_rule.Goals as goal

pub returns : goal.returns
returns c =
    sound_rule_of c.args.rule (search (rules, length_mapped)) (search (rules, length_mapped)) c.ucids_fit-ucids.ensures c.clients_fit-clients.ensures
    c.numbers_fit-numbers.ensures
