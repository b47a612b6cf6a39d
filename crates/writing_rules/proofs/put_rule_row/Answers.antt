-- `writing_rules::put_rule_row` writes the children of a rule one behind the other (`row-all`). The number and the priority are bytes.
-- Trusts: nothing.
use Rattle.std.proofs.Common.{rules}
use Rattle.writing_rules.proofs.Row.{row-ucids, row-numbers, row-all}
use Rattle.writing_rules.proofs.put_rule_row.Goals as goal

-- the UCIDs have room
pub put_ucids-c-requires : goal.put_ucids-c-requires
put_ucids-c-requires c = row-ucids c.args.rule _ _ c.requires (search rules) (search rules) c.put_number-a.ensures c.put_number-b.ensures

-- the classifier numbers have room
pub put_numbers-requires : goal.put_numbers-requires
put_numbers-requires c =
    row-numbers c.args.rule _ _ c.requires (search rules) (search rules) c.put_number-a.ensures c.put_number-b.ensures
    c.put_ucids-c.ensures c.put_clients-d.ensures c.put_number-e.ensures

-- the row
pub returns : goal.returns
returns c =
    row-all c.args.rule _ _ c.requires (search rules) (search rules) c.put_number-a.ensures c.put_number-b.ensures
    c.put_ucids-c.ensures c.put_clients-d.ensures c.put_number-e.ensures c.put_numbers.ensures
