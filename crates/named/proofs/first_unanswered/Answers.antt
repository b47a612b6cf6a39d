-- `named::first_unanswered` gives unanswered. The loops over rules and numbers keep that the search from where they stand answers for the
-- whole; the loop over the classifiers keeps that its number is carried by those from the k-th on if it is carried at all.
-- Trusts: nothing.
use borrow.Author.Rules.{rules}
use mathlib.Core.Path.{◌≡◌, refl, sym, ◌∙◌}
use Rattle.std.proofs.Common.{length}
use Rattle.table.proofs.Laws.{length_mapped}
use Rattle.named.specs.Named.{unanswered}
use Rattle.named.specs.Sought.{found}
use Rattle.named.proofs.LawsLone.{lone_rule, lone_end, lone_answered, lone_number_lem, lone_done, carried_hit, carried_miss, carried_end}
use Rattle.named.proofs.first_unanswered.Goals as goal

pub search-init : goal.search-init
unfolding unanswered
search-init c = record { none = refl; rest = refl }

-- the numbers of the next rule
pub number-init : goal.number-init
number-init c =
    let room : length c.args.table.rules ≡ 32 = search (rules, length_mapped) in
    record { none = c.search.invariant.none; rest = lone_rule _ _ _ c.limited-rules.ensures _ room c.search-test.true ∙ c.search.invariant.rest }

-- a classifier that carries it
pub number-preserved : goal.number-preserved
number-preserved c =
    let room : length c.args.table.classifiers ≡ 32 = search (rules, length_mapped) in
    let hit = carried_hit _ _ _ c.limited-classifiers.ensures _ room c.loop-k-test.true c.if-classifier-number.true in
    record {
      none = c.number.invariant.none;
      rest = lone_answered _ _ _ _ _ c.named_count-numbers.ensures.0 c.named_count-numbers.ensures.2 c.number-test.true (sym c.loop-k.invariant ∙ hit) ∙ c.number.invariant.rest;
    }

-- one that does not
pub loop-k-preserved : goal.loop-k-preserved
loop-k-preserved c =
    let room : length c.args.table.classifiers ≡ 32 = search (rules, length_mapped) in
    carried_miss _ _ _ c.limited-classifiers.ensures _ room c.loop-k-test.true c.if-classifier-number.false ∙ c.loop-k.invariant

-- no number of this rule is left
pub search-preserved : goal.search-preserved
search-preserved c = record {
  none = c.number.invariant.none;
  rest = lone_done _ _ _ _ _ c.named_count-numbers.ensures.0 c.number-test.false ∙ c.number.invariant.rest;
}

-- no rule is left
pub returns-after-search : goal.returns-after-search
unfolding found
returns-after-search c = rw c.search.invariant.none (lone_end _ _ _ c.limited-rules.ensures c.search-test.false ∙ c.search.invariant.rest)

-- no classifier is left: a number that none carries
pub returns-after-loop-k : goal.returns-after-loop-k
unfolding found
returns-after-loop-k c =
    let none = carried_end _ _ _ c.limited-classifiers.ensures c.loop-k-test.false in
    lone_number_lem _ _ _ _ _ c.named_count-numbers.ensures.0 c.named_count-numbers.ensures.2 c.number-test.true (sym c.loop-k.invariant ∙ none) ∙ c.number.invariant.rest
