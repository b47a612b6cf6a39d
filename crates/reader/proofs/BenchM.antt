-- Message M of document 01 ("Listing"), by computation: its two rules and its channel.
--
--   M, table_m      the message and its table          rule_for42   a rule of M
--   read_M given   reading M gives table_m, whatever table is lent
-- Trusts: nothing.
use mathlib.Core.Path.{◌≡◌, refl, sym, ◌∙◌}
use mathlib.Core.List.{List, [], ◌∷◌}
use mathlib.Core.Bool.{false}
use Prim.Native.Nat.{ℕ}
use lib.ListN.{replicate}
use Rattle.wire.specs.Bytes.{pasted}
use Rattle.numbers.specs.Numbers.{number_at}
use Rattle.elements.specs.Elements.{head_at}
use Rattle.types.specs.Types.{known_types}
use Rattle.types.specs.Places.{child_of, under, placed, type_of, parent_in, table, line_at, place_in, known_at, type_under}
use Rattle.musts.specs.Musts.{missing_in, lacks_must}
use Rattle.element_tests.specs.Tests.{second_copy, wrong_length, no_channel, bad_value, is_full, own_tests}
use Rattle.rows.specs.Tests.{is_row, row_end, empty_tally}
use Rattle.rows.specs.Rows.{element_with, row_step, row_from as testedFrom, row_of, element_of, tested_at}
use Rattle.table.specs.Table.{rules_of, classifiers_of, numbers_of, empty_client, empty_rule, empty_classifier, default_timers, empty_table}
use Rattle.table.specs.declared.Rule.{Rule}
use Rattle.table.specs.declared.Table.{Table}
use Rattle.children.specs.Rows.{Row, done, item, row_from, row_in, row_inside}
use Rattle.clients.specs.Clients.{with_client, client_at, with_client_child, clients_in}
use Rattle.rules.specs.Rules.{with_ucids, with_named, with_rule_child, rule_at}
use Rattle.configurations.specs.Configurations.{with_channel, with_configuration_child, configuration_at}
use Rattle.named.specs.Named.{Nothing, unanswered}
use Rattle.reader.specs.Take.{with_rule, with_element, is_taken}
use Rattle.reader.specs.Read.{read_table}
use Rattle.reader.proofs.LawsRead.{is_taken_rule, is_taken_configuration, with_element-rule, with_element_configuration}
use Rattle.reader.proofs.BenchSteps.{accepted, counted, whole, goes, ends}

abbrev pub M : List ℕ
M =
    50 ∷ 20 ∷ 1 ∷ 1 ∷ 5 ∷ 2 ∷ 1 ∷ 80 ∷ 4 ∷ 4 ∷ 4 ∷ 2 ∷ 0 ∷ 42 ∷ 5 ∷ 6 ∷ 1 ∷ 0 ∷ 94 ∷ 5 ∷ 5 ∷ 5
    ∷ 50 ∷ 20 ∷ 1 ∷ 1 ∷ 6 ∷ 2 ∷ 1 ∷ 9 ∷ 4 ∷ 4 ∷ 4 ∷ 2 ∷ 0 ∷ 42 ∷ 5 ∷ 6 ∷ 1 ∷ 0 ∷ 94 ∷ 6 ∷ 6 ∷ 6
    ∷ 51 ∷ 6 ∷ 1 ∷ 4 ∷ 35 ∷ 241 ∷ 12 ∷ 192 ∷ []

-- a rule for application 42 and nobody else, that names no classifier
abbrev pub rule_for42 : ℕ → ℕ → ℕ → Rule
rule_for42 number priority tunnel =
    record {
      number = number;
      priority = priority;
      ucidcount = 0;
      clientcount = 1;
      numbercount = 0;
      ucids = replicate 16 0;
      numbers = replicate 8 0;
      tunnel = tunnel;
      clients = record { kind = 4; value = 42 } ∷ replicate 7 empty_client;
    }

-- a table with these rules and channels only
abbrev table_of : ℕ → List Rule → ℕ → List ℕ → Table
table_of n rules m channels =
    record { rulecount = n; classifiercount = 0; channelcount = m; timers = default_timers; channels = channels; classifiers = replicate 32 empty_classifier; rules = rules }

abbrev rule_one : Rule
rule_one = rule_for42 5 80 1101089015045

abbrev rule_two : Rule
rule_two = rule_for42 6 9 1101089080838

-- M's table after its first rule, after its second, and after its configuration
abbrev table_one : Table
table_one = table_of 1 (rule_one ∷ replicate 31 empty_rule) 0 (replicate 32 0)

abbrev table_two : Table
table_two = table_of 2 (rule_one ∷ rule_two ∷ replicate 30 empty_rule) 0 (replicate 32 0)

abbrev pub table_m : Table
table_m = table_of 2 (rule_one ∷ rule_two ∷ replicate 30 empty_rule) 1 (603000000 ∷ replicate 31 0)

tested : (tested_at M 0 (counted 0 0) ≡ (record { bad = 0; off = 0; next = 22; tally = counted 1 0 }))
    × (tested_at M 22 (counted 1 0) ≡ (record { bad = 0; off = 22; next = 44; tally = counted 2 0 }))
    × (tested_at M 44 (counted 2 0) ≡ (record { bad = 0; off = 44; next = 52; tally = counted 2 1 }))
unfolding number_at head_at known_types child_of under placed type_of parent_in table line_at place_in known_at type_under missing_in lacks_must second_copy wrong_length no_channel bad_value is_full own_tests is_row row_end element_with row_step testedFrom row_of element_of tested_at
tested = (refl, refl, refl)

abbrev row : Row
row = item 0 20 (item 22 20 (item 44 6 done))

row_is : row_in M 0 52 ≡ row
unfolding head_at row_from row_in
row_is = refl

rules_are : (rule_at M 0 ≡ rule_one) × (rule_at M 22 ≡ rule_two)
unfolding number_at pasted head_at row_from row_in row_inside with_client client_at with_client_child clients_in with_ucids with_named with_rule_child rule_at
rules_are = (refl, refl)

configured : configuration_at M 44 ≡ record { channelcount = 1; channels = 603000000 ∷ replicate 31 0; timers = default_timers }
unfolding number_at head_at row_from row_in row_inside with_channel with_configuration_child configuration_at
configured = refl

-- what each element leaves, and that its number is free
taken : (with_element M 0 empty_table ≡ table_one) × (with_element M 22 table_one ≡ table_two) × (with_element M 44 table_two ≡ table_m)
unfolding with_rule
taken = (
  sym (with_element-rule M 0 empty_table refl (sym rules_are.0)),
  sym (with_element-rule M 22 table_one refl (sym rules_are.1)),
  sym (with_element_configuration M 44 table_two refl (sym configured)),
)

free : (is_taken M 0 empty_table ≡ false) × (is_taken M 22 table_one ≡ false) × (is_taken M 44 table_two ≡ false)
unfolding rules_of
free = (
  sym (is_taken_rule M 0 empty_table refl (sym rules_are.0) refl),
  sym (is_taken_rule M 22 table_one refl (sym rules_are.1) refl),
  is_taken_configuration M 44 table_two refl,
)

all-answered : unanswered table_m ≡ Nothing
unfolding unanswered rules_of classifiers_of numbers_of
all-answered = refl

pub read_M : (given : Table) → read_table given M ≡ accepted table_m
read_M given =
    whole given M row refl row_is
    ∙ goes given M 0 20 (item 22 20 (item 44 6 done)) empty_tally empty_table tested.0 refl free.0 taken.0
    ∙ goes given M 22 20 (item 44 6 done) (counted 1 0) table_one tested.1 refl free.1 taken.1
    ∙ goes given M 44 6 done (counted 2 0) table_two tested.2 refl free.2 taken.2
    ∙ ends given M (counted 2 1) table_m all-answered
