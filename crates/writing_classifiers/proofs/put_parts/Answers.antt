-- `writing_classifiers::put_parts` writes the parts of a classifier one behind the other; what is left of the room is told from one to the next.
-- Trusts: nothing.
use Rattle.std.proofs.Common.{◌+◌, ◌≤◌, length, arith}
use Rattle.writing_numbers.proofs.Heads.{lined-room}
use Rattle.writing_numbers.proofs.Within.{number→lined}
use Rattle.writing_classifiers.proofs.Parts.{part_row-lined}
use Rattle.writing_classifiers.proofs.put_parts.Goals as goal

pub put_part-d-requires : goal.put_part-d-requires
put_part-d-requires c =
    let room-1 : c.put_part-a.result + 20 ≤ length c.put_part-a.new.out = lined-room 6 20 c.requires c.put_part-a.ensures in
    let room-2 : c.put_part-b.result + 14 ≤ length c.put_part-b.new.out = lined-room 6 14 room-1 c.put_part-b.ensures in
    let room-3 : c.put_number-c.result + 8 ≤ length c.put_number-c.new.out = lined-room 6 8 room-2 (number→lined 5 4 _ (omega arith) c.put_number-c.ensures) in
    omega arith

pub put_part-requires : goal.put_part-requires
put_part-requires c =
    let room-1 : c.put_part-a.result + 20 ≤ length c.put_part-a.new.out = lined-room 6 20 c.requires c.put_part-a.ensures in
    let room-2 : c.put_part-b.result + 14 ≤ length c.put_part-b.new.out = lined-room 6 14 room-1 c.put_part-b.ensures in
    let room-3 : c.put_number-c.result + 8 ≤ length c.put_number-c.new.out = lined-room 6 8 room-2 (number→lined 5 4 _ (omega arith) c.put_number-c.ensures) in
    lined-room 4 4 room-3 c.put_part-d.ensures

pub returns : goal.returns
returns c = part_row-lined c.args.classifier c.requires c.put_part-a.ensures c.put_part-b.ensures c.put_number-c.ensures c.put_part-d.ensures c.put_part.ensures
