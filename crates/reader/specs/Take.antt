-- Take: what a top-level element leaves in the table, and test 14 (document 01, "Refusal numbers").
--
--   with_element msg at t   the table t with the rule, classifier or configuration at `at` taken up; another type leaves it as it is
--   table_of msg            the table that the top-level elements, taken up in byte order, leave of the empty one
--   is_taken msg at t       14: the rule or classifier at `at` has a number that one in t has already
--
-- A rule, classifier or channel beyond the room is passed over here; test 12 refuses its message.
-- Tested by: proofs/Bench.antt.
-- Trusts: nothing.
use Rattle.std.specs.Prelude.{ℕ, ◌+◌, Bool, false, cond, List, map, length, set, eqb, ltb}
use Rattle.table.specs.Table.{empty_table, rules_of}
use Rattle.table.specs.declared.Rule.{Rule}
use Rattle.table.specs.declared.Classifier.{Classifier}
use Rattle.table.specs.declared.Table.{Table}
use Rattle.children.specs.Rows.{row_in, row_fold, type_at}
use Rattle.rules.specs.Rules.{rule_at}
use Rattle.classifiers.specs.Classifiers.{classifier_at}
use Rattle.configurations.specs.Configurations.{configuration_at}
use Rattle.configurations.specs.declared.Configuration.{Configuration}
use Rattle.listed.specs.Listed.{is_listed}
use Rattle.named.specs.Named.{classifier_numbers}

unfoldable pub with_rule : Rule → Table → Table
with_rule q t =
    cond (ltb t.rulecount 32)
    (record { rulecount = t.rulecount + 1; classifiercount = t.classifiercount; channelcount = t.channelcount; timers = t.timers; channels = t.channels; classifiers = t.classifiers; rules = set t.rules t.rulecount q })
    t

unfoldable pub with_classifier : Classifier → Table → Table
with_classifier q t =
    cond (ltb t.classifiercount 32)
    (record { rulecount = t.rulecount; classifiercount = t.classifiercount + 1; channelcount = t.channelcount; timers = t.timers; channels = t.channels; classifiers = set t.classifiers t.classifiercount q; rules = t.rules })
    t

abbrev pub with_configuration : Configuration → Table → Table
with_configuration q t =
    record { rulecount = t.rulecount; classifiercount = t.classifiercount; channelcount = q.channelcount; timers = q.timers; channels = q.channels; classifiers = t.classifiers; rules = t.rules }

unfoldable pub with_element : List ℕ → ℕ → Table → Table
with_element msg at t =
    cond (eqb (type_at msg at) 50) (with_rule (rule_at msg at) t)
    (cond (eqb (type_at msg at) 23) (with_classifier (classifier_at msg at) t)
    (cond (eqb (type_at msg at) 51) (with_configuration (configuration_at msg at) t)
    t))

unfoldable pub table_of : List ℕ → Table
table_of msg = row_fold (λ at len t. with_element msg at t) (row_in msg 0 (length msg)) empty_table

-- the numbers of a table's rules
abbrev pub rule_numbers : Table → List ℕ
rule_numbers t = map (λ q. q.number) (rules_of t)

unfoldable pub is_taken : List ℕ → ℕ → Table → Bool
is_taken msg at t =
    cond (eqb (type_at msg at) 50) (is_listed (rule_at msg at).number (rule_numbers t))
    (cond (eqb (type_at msg at) 23) (is_listed (classifier_at msg at).number (classifier_numbers t))
    false)
