-- `writing_rules::put_name` writes `number_bytes`.
-- Trusts: nothing.
use Rattle.writing_elements.specs.Encode.{number_bytes}
use Rattle.writing_numbers.proofs.Within.{number→lined}
use Rattle.writing_rules.proofs.put_name.Goals as goal

pub returns : goal.returns
unfolding number_bytes
returns c = number→lined 6 2 c.args.number c.requires c.put_number.ensures
