-- `writing_classifiers::put_classifier_row` writes the children of a classifier one behind the other. The priority is a byte.
-- Trusts: nothing.
use Rattle.std.proofs.Common.{◌+◌, ◌≤◌, ◌<◌, length, arith, rules}
use Rattle.writing_numbers.proofs.Heads.{lined-room}
use Rattle.writing_numbers.proofs.Within.{number→lined, byte→lined}
use Rattle.writing_classifiers.proofs.Parts.{classifier_row-lined}
use Rattle.writing_classifiers.proofs.put_classifier_row.Goals as goal

-- what each child leaves of the room
pub put_part_row-requires : goal.put_part_row-requires
put_part_row-requires c =
    let small : c.args.classifier.priority < 256 = search rules in
    let room : c.put_number-a.result + 31 ≤ length c.put_number-a.new.out = lined-room 4 31 c.requires (number→lined 2 2 _ (omega (arith, c.requires)) c.put_number-a.ensures) in
    lined-room 3 28 room (byte→lined 5 _ (omega arith) small c.put_number-b.ensures)

pub returns : goal.returns
returns c = classifier_row-lined c.args.classifier c.requires (search rules) c.put_number-a.ensures c.put_number-b.ensures c.put_part_row.ensures
