-- `writing_message::put_message` gives `message_in`: the three groups of elements, one behind the other (`message_in-whole`). The array has its length.
-- Trusts: nothing.
use Rattle.std.proofs.Common.{◌≡◌, length, arith, rules}
use Rattle.writing_message.proofs.Filled.{filled_none, filled_le}
use Rattle.writing_message.proofs.Whole.{configured-length, configured-filled, classified_length, message_in-whole}
use Rattle.writing_message.proofs.put_message.Goals as goal

pub add_element-cut-requires : goal.add_element-cut-requires
add_element-cut-requires c =
    let size : length c.args.held.now ≡ 5632 = search rules in
    (omega (arith, configured-length _ _ size c.put_configuration-at.ensures), filled_le (omega arith) filled_none)

pub put_classifiers-classified-requires : goal.put_classifiers-classified-requires
put_classifiers-classified-requires c =
    let size : length c.args.held.now ≡ 5632 = search rules in
    (search rules, configured-length _ _ size c.put_configuration-at.ensures, configured-filled _ _ size c.put_configuration-at.ensures c.add_element-cut.ensures)

pub put_rules-requires : goal.put_rules-requires
put_rules-requires c =
    let size : length c.args.held.now ≡ 5632 = search rules in
    let q = c.put_classifiers-classified.ensures in
    (search rules, classified_length _ _ size c.put_configuration-at.ensures c.add_element-cut.ensures q, q.filled)

pub returns : goal.returns
returns c =
    let size : length c.args.held.now ≡ 5632 = search rules in
    message_in-whole _ _ size c.put_configuration-at.ensures c.add_element-cut.ensures c.put_classifiers-classified.ensures c.put_rules.ensures
