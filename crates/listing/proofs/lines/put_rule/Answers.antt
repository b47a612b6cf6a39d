-- `listing::lines::put_rule` writes `rule_line`: its fields one behind the other. The counts that are printed are those of the lists.
-- Trusts: nothing.
use Rattle.std.proofs.Common.{rules, sym, ◌∙◌}
use Rattle.table.proofs.Laws.{length-clients_of, length-numbers_of, length_mapped}
use Rattle.texts.proofs.Puts.{lined-put, wrote_put, wrote_end}
use Rattle.listing.specs.Text.{rule_line}
use Rattle.listing.proofs.Lengths.{rule_line-short, wrote_count}
use Rattle.listing.proofs.lines.put_rule.Goals as goal

pub returns-clause-text : goal.returns-clause-text
unfolding rule_line
returns-clause-text c =
    let clients = c.limited-clients.ensures ∙ sym (length-clients_of c.args.rule (search (rules, length_mapped))) in
    let numbers = c.limited-numbers.ensures ∙ sym (length-numbers_of c.args.rule (search rules)) in
    lined-put 66 c.requires (rule_line-short c.args.rule (search rules) (search rules))
    (λ f. wrote_put _ f c.put_field.ensures.text (λ f. wrote_put _ f c.put_field-2.ensures.text (λ f. wrote_put _ f c.put_address.ensures.text (λ f. wrote_count _ clients f c.put_field-3.ensures.text (λ f. wrote_count _ numbers f c.put_field-4.ensures.text (wrote_end c.put_byte.ensures.text))))))
