-- Parts: what the public functions give that reading a message stands on (numbers, wire, compare, table, types, musts, elements,
-- children, element_tests, rows, clients, rules, classifiers, configurations, listed, named): each its definition, for every input. PartsPieces has
-- the other lower crates.
--
-- It says nothing of what the definitions mean; docs/MAP.md says where they stand. `met` of each function, in its own crate, says that the
-- compiled function meets the contract cited here.
-- Trusts: nothing.
use contract.Lifetimes.{Lfts}
use Rattle.demands.proofs.Contract.{Gives, GivesBy, answer}
use Rattle.refusals.specs.Refusals.{number_of}
use Rattle.refusals.proofs.Refusal.number.Reads as refusal_number_contract
use Rattle.numbers.specs.Numbers.{number_at}
use Rattle.wire.specs.Bytes.{pasted}
use Rattle.compare.specs.Compare.{same_bytes}
use Rattle.numbers.proofs.number1.Reads as number1_contract
use Rattle.numbers.proofs.number2.Reads as number2_contract
use Rattle.numbers.proofs.number4.Reads as number4_contract
use Rattle.numbers.proofs.number6.Reads as number6_contract
use Rattle.wire.proofs.copy_at.Reads as copy_at_contract
use Rattle.compare.proofs.same_bytes.Reads as same_bytes_contract
use Rattle.table.specs.Table.{limited_to, empty_client, empty_rule, empty_classifier, empty_table}
use Rattle.table.proofs.limited.Reads as limited_contract
use Rattle.table.proofs.empty_client.Reads as empty_client_contract
use Rattle.table.proofs.empty_rule.Reads as empty_rule_contract
use Rattle.table.proofs.empty_classifier.Reads as empty_classifier_contract
use Rattle.table.proofs.empty_table.Reads as empty_table_contract
use Rattle.elements.specs.Elements.{Head, value_in, head_at}
use Rattle.elements.specs.Stood.{stood}
use Rattle.elements.proofs.Stood.{answer_as, stood_gives}
use Rattle.elements.proofs.read_head.Reads as read_head_contract
use Rattle.elements.proofs.value_at.Reads as value_at_contract
use Rattle.children.specs.Rows.{row_in, row_inside}
use Rattle.children.specs.Children.{children_in, left}
use Rattle.children.proofs.children_of.Reads as children_of_contract
use Rattle.children.proofs.inside.Reads as inside_contract
use Rattle.types.specs.Places.{type_under}
use Rattle.musts.specs.Musts.{lacks_must}
use Rattle.types.specs.Columns.{listed}
use Rattle.types.proofs.Columns.{found_only}
use Rattle.types.proofs.find_type.Reads as find_type_contract
use Rattle.musts.proofs.lacks_must.Reads as lacks_must_contract
use Rattle.element_tests.specs.Tests.{Step, own_tests}
use Rattle.element_tests.specs.Stepped.{step_of}
use Rattle.element_tests.proofs.Stepped.{count_as, step_gives}
use Rattle.element_tests.proofs.own_tests.Reads as own_tests_contract
use Rattle.rows.specs.Tests.{empty_tally}
use Rattle.rows.specs.Rows.{Tested, tested_at}
use Rattle.rows.specs.Told.{tested_of}
use Rattle.rows.proofs.Told.{next_as, tested_gives}
use Rattle.rows.proofs.empty_tally.Reads as empty_tally_contract
use Rattle.rows.proofs.test_element.Reads as test_element_contract
use Rattle.clients.specs.Clients.{clients_in}
use Rattle.rules.specs.Rules.{rule_at}
use Rattle.classifiers.specs.Classifiers.{classifier_at}
use Rattle.configurations.specs.Configurations.{configuration_at}
use Rattle.clients.proofs.read_clients.Reads as read_clients_contract
use Rattle.rules.proofs.rule_at.Reads as rule_at_contract
use Rattle.classifiers.proofs.classifier_at.Reads as classifier_at_contract
use Rattle.configurations.proofs.configuration_at.Reads as configuration_at_contract
use Rattle.listed.specs.Listed.{is_among, names_number}
use Rattle.named.specs.Named.{lone_number}
use Rattle.listed.proofs.is_listed.Reads as is_listed_contract
use Rattle.listed.proofs.names_number.Reads as names_number_contract
use Rattle.named.specs.Sought.{Sought, in_words, sought}
use Rattle.named.proofs.lone_number.Reads as lone_number_contract

-- ---- numbers

pub refusal_number_gives : (κs : Lfts 0) → Gives answer (refusal_number_contract.Post κs) (λ a. number_of a.0)
refusal_number_gives κs a x s h = h

pub number1_gives : (κs : Lfts 1) → Gives answer (number1_contract.Post κs) (λ a. number_at 1 a.0.now a.1.0)
number1_gives κs a x s h = h

pub number2_gives : (κs : Lfts 1) → Gives answer (number2_contract.Post κs) (λ a. number_at 2 a.0.now a.1.0)
number2_gives κs a x s h = h

pub number4_gives : (κs : Lfts 1) → Gives answer (number4_contract.Post κs) (λ a. number_at 4 a.0.now a.1.0)
number4_gives κs a x s h = h

pub number6_gives : (κs : Lfts 1) → Gives answer (number6_contract.Post κs) (λ a. number_at 6 a.0.now a.1.0)
number6_gives κs a x s h = h

-- ---- wire

pub copy_at_gives : (κs : Lfts 2) → Gives (λ x s. s.0.now) (copy_at_contract.Post κs) (λ a. pasted a.0.now a.1.0 a.1.1.0.now)
copy_at_gives κs a x s h = h

-- ---- compare

pub same_bytes_gives : (κs : Lfts 2) → Gives answer (same_bytes_contract.Post κs) (λ a. same_bytes a.0.now a.1.0.now)
same_bytes_gives κs a x s h = h

-- ---- table

pub limited_gives : (κs : Lfts 0) → Gives answer (limited_contract.Post κs) (λ a. limited_to a.1.0 a.0)
limited_gives κs a x s h = h

pub empty_client_gives : (κs : Lfts 0) → Gives answer (empty_client_contract.Post κs) (λ a. empty_client)
empty_client_gives κs a x s h = h

pub empty_rule_gives : (κs : Lfts 0) → Gives answer (empty_rule_contract.Post κs) (λ a. empty_rule)
empty_rule_gives κs a x s h = h

pub empty_classifier_gives : (κs : Lfts 0) → Gives answer (empty_classifier_contract.Post κs) (λ a. empty_classifier)
empty_classifier_gives κs a x s h = h

pub empty_table_gives : (κs : Lfts 0) → Gives answer (empty_table_contract.Post κs) (λ a. empty_table)
empty_table_gives κs a x s h = h

-- ---- types

pub find_type_gives : (κs : Lfts 0) → Gives answer (find_type_contract.Post κs) (λ a. listed (type_under a.0 a.1.0))
find_type_gives κs a x s h = found_only _ _ h

-- ---- musts

pub lacks_must_gives : (κs : Lfts 1) → Gives answer (lacks_must_contract.Post κs) (λ a. lacks_must a.0 a.1.0.now)
lacks_must_gives κs a x s h = h

-- ---- elements

pub read_head_gives : (κs : Lfts 1) → Gives {L = Head} (λ x s. stood x) (read_head_contract.Post κs) (λ a. head_at a.0.now a.1.0 a.1.1.0)
read_head_gives κs a x s h = h

-- the `Result` itself
pub read_head_result : (κs : Lfts 1) → Gives answer (read_head_contract.Post κs) (λ a. answer_as (head_at a.0.now a.1.0 a.1.1.0))
read_head_result κs a x s h = stood_gives _ h

pub value_at_gives : (κs : Lfts 1) → Gives answer (value_at_contract.Post κs) (λ a. value_in (head_at a.0.now a.1.0 a.1.1.0))
value_at_gives κs a x s h = h

-- ---- children

pub children_of_gives : (κs : Lfts 1) → Gives (λ x s. left x) (children_of_contract.Post κs) (λ a. children_in a.0.now (row_in a.0.now a.1.0 a.1.1.0))
children_of_gives κs a x s h = h

pub inside_gives : (κs : Lfts 1) → Gives (λ x s. left x) (inside_contract.Post κs) (λ a. children_in a.0.now (row_inside a.0.now a.1.0))
inside_gives κs a x s h = h

-- ---- element_tests

pub own_tests_gives : (κs : Lfts 1) → GivesBy {L = Step} (λ a x s. step_of a.1.1.0 a.1.0.list a.1.1.1.1.0 x) (own_tests_contract.Post κs)
    (λ a. own_tests a.0.now a.1.0 a.1.1.0 a.1.1.1.0 a.1.1.1.1.0)
own_tests_gives κs a x s h = h

-- the `Result` itself
pub own_tests_result : (κs : Lfts 1) → Gives answer (own_tests_contract.Post κs) (λ a. count_as (own_tests a.0.now a.1.0 a.1.1.0 a.1.1.1.0 a.1.1.1.1.0))
own_tests_result κs a x s h = step_gives _ _ _ _ h

-- ---- rows

pub empty_tally_gives : (κs : Lfts 0) → Gives answer (empty_tally_contract.Post κs) (λ a. empty_tally)
empty_tally_gives κs a x s h = h

pub test_element_gives : (κs : Lfts 1) → GivesBy {L = Tested} (λ a x s. tested_of a.1.0 x) (test_element_contract.Post κs) (λ a. tested_at a.0.now a.1.0 a.1.1.0)
test_element_gives κs a x s h = h

-- the `Result` itself
pub test_element_result : (κs : Lfts 1) → Gives answer (test_element_contract.Post κs) (λ a. next_as (tested_at a.0.now a.1.0 a.1.1.0))
test_element_result κs a x s h = tested_gives _ _ h

-- ---- clients, rules, classifiers, configurations

pub read_clients_gives : (κs : Lfts 1) → Gives answer (read_clients_contract.Post κs) (λ a. clients_in a.0.now a.1.0 a.1.1.0)
read_clients_gives κs a x s h = h

pub rule_at_gives : (κs : Lfts 1) → Gives answer (rule_at_contract.Post κs) (λ a. rule_at a.0.now a.1.0)
rule_at_gives κs a x s h = h

pub classifier_at_gives : (κs : Lfts 1) → Gives answer (classifier_at_contract.Post κs) (λ a. classifier_at a.0.now a.1.0)
classifier_at_gives κs a x s h = h

pub configuration_at_gives : (κs : Lfts 1) → Gives answer (configuration_at_contract.Post κs) (λ a. configuration_at a.0.now a.1.0)
configuration_at_gives κs a x s h = h

-- ---- listed

pub is_listed_gives : (κs : Lfts 1) → Gives answer (is_listed_contract.Post κs) (λ a. is_among a.1.1.0 (limited_to 32 a.1.0) a.0.now)
is_listed_gives κs a x s h = h

pub names_number_gives : (κs : Lfts 0) → Gives answer (names_number_contract.Post κs) (λ a. names_number a.0 a.1.0)
names_number_gives κs a x s h = h

-- ---- named

pub lone_number_gives : (κs : Lfts 1) → Gives {L = Sought} (λ x s. in_words (sought x)) (lone_number_contract.Post κs) (λ a. in_words (lone_number a.0.now a.1.0))
lone_number_gives κs a x s h = h
