-- `writing_rules::put_rule` has `put_element` write the row of a rule.
-- Trusts: nothing.
use Rattle.writing_elements.specs.Encode.{rule_row}
use Rattle.writing_rules.proofs.put_rule.Given as goal

abbrev pub ghost-put_element : goal.ghost-put_element
ghost-put_element a = rule_row
