-- `choice::rule_at` gives `rule_at`: the rule at a used place, else an unused one.
-- Trusts: nothing.
use borrow.Author.Rules.{rules}
use mathlib.Core.Path.{◌∙◌}
use Rattle.table.proofs.Laws.{length_mapped}
use Rattle.choice.proofs.Laws.{rule_at_in, rule_at-out}
use Rattle.choice.proofs.rule_at.Goals as goal

pub returns-then-place-limited : goal.returns-then-place-limited
returns-then-place-limited c = rule_at_in _ _ _ (rw c.limited.ensures at c.if-place-limited.true) (search (rules, length_mapped))

pub returns : goal.returns
returns c = c.empty_rule.ensures ∙ rule_at-out _ _ (rw c.limited.ensures at c.if-place-limited.false) (search (rules, length_mapped))
