-- `writing_rules::put_numbers` has `writing_numbers::put_each` write `number_bytes` of each classifier number.
-- Trusts: nothing.
use Rattle.writing_elements.specs.Encode.{number_bytes}
use Rattle.writing_rules.proofs.put_numbers.Given as goal

abbrev pub ghost-put_each : goal.ghost-put_each
ghost-put_each a = number_bytes
