-- `writing_message::put_rules` has `put_entries` write `rule_bytes` of each entry, which is short.
-- Trusts: nothing.
use Rattle.writing_elements.specs.Encode.{rule_bytes}
use Rattle.writing_elements.proofs.Sizes.{rule-most}
use Rattle.writing_message.proofs.put_rules.Given as goal

abbrev pub ghost-put_entries : goal.ghost-put_entries
ghost-put_entries a = record { bytes = rule_bytes; short = rule-most }
