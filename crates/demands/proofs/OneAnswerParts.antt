-- OneAnswerParts: the contract of every public function that reading a message stands on (those of Parts) admits one answer only, as
-- OneAnswer says it of the entries. OneAnswerPieces has the other lower crates.
--
-- One law, `only` of proofs/Contract.antt, and a line for each function.
-- Trusts: nothing.
use mathlib.Core.Path.{sym, ◌∙◌}
use contract.Lifetimes.{Lfts}
use Rattle.demands.proofs.Contract.{One, only, answer}
use Rattle.demands.proofs.Parts as parts
use Rattle.refusals.proofs.Refusal.number.Reads as refusal_number_contract
use Rattle.numbers.proofs.number1.Reads as number1_contract
use Rattle.numbers.proofs.number2.Reads as number2_contract
use Rattle.numbers.proofs.number4.Reads as number4_contract
use Rattle.numbers.proofs.number6.Reads as number6_contract
use Rattle.wire.proofs.copy_at.Reads as copy_at_contract
use Rattle.compare.proofs.same_bytes.Reads as same_bytes_contract
use Rattle.table.proofs.limited.Reads as limited_contract
use Rattle.table.proofs.empty_client.Reads as empty_client_contract
use Rattle.table.proofs.empty_rule.Reads as empty_rule_contract
use Rattle.table.proofs.empty_classifier.Reads as empty_classifier_contract
use Rattle.table.proofs.empty_table.Reads as empty_table_contract
use Rattle.elements.proofs.Stood.{stood_only}
use Rattle.elements.proofs.read_head.Reads as read_head_contract
use Rattle.elements.proofs.value_at.Reads as value_at_contract
use Rattle.children.specs.Children.{left}
use Rattle.children.proofs.children_of.Reads as children_of_contract
use Rattle.children.proofs.inside.Reads as inside_contract
use Rattle.types.proofs.find_type.Reads as find_type_contract
use Rattle.musts.proofs.lacks_must.Reads as lacks_must_contract
use Rattle.element_tests.proofs.Stepped.{step_of-only}
use Rattle.element_tests.proofs.own_tests.Reads as own_tests_contract
use Rattle.rows.proofs.Told.{tested_of-only}
use Rattle.rows.proofs.empty_tally.Reads as empty_tally_contract
use Rattle.rows.proofs.test_element.Reads as test_element_contract
use Rattle.clients.proofs.read_clients.Reads as read_clients_contract
use Rattle.rules.proofs.rule_at.Reads as rule_at_contract
use Rattle.classifiers.proofs.classifier_at.Reads as classifier_at_contract
use Rattle.configurations.proofs.configuration_at.Reads as configuration_at_contract
use Rattle.listed.proofs.is_listed.Reads as is_listed_contract
use Rattle.listed.proofs.names_number.Reads as names_number_contract
use Rattle.named.proofs.Sought.{in_words_only, sought_only}
use Rattle.named.proofs.lone_number.Reads as lone_number_contract

-- ---- numbers

pub refusal_number_one : (κs : Lfts 0) → One answer (refusal_number_contract.Post κs)
refusal_number_one κs = only (parts.refusal_number_gives κs)

pub number1_one : (κs : Lfts 1) → One answer (number1_contract.Post κs)
number1_one κs = only (parts.number1_gives κs)

pub number2_one : (κs : Lfts 1) → One answer (number2_contract.Post κs)
number2_one κs = only (parts.number2_gives κs)

pub number4_one : (κs : Lfts 1) → One answer (number4_contract.Post κs)
number4_one κs = only (parts.number4_gives κs)

pub number6_one : (κs : Lfts 1) → One answer (number6_contract.Post κs)
number6_one κs = only (parts.number6_gives κs)

-- ---- wire

pub copy_at_one : (κs : Lfts 2) → One (λ x s. s.0.now) (copy_at_contract.Post κs)
copy_at_one κs = only (parts.copy_at_gives κs)

-- ---- compare

pub same_bytes_one : (κs : Lfts 2) → One answer (same_bytes_contract.Post κs)
same_bytes_one κs = only (parts.same_bytes_gives κs)

-- ---- table

pub limited_one : (κs : Lfts 0) → One answer (limited_contract.Post κs)
limited_one κs = only (parts.limited_gives κs)

pub empty_client_one : (κs : Lfts 0) → One answer (empty_client_contract.Post κs)
empty_client_one κs = only (parts.empty_client_gives κs)

pub empty_rule_one : (κs : Lfts 0) → One answer (empty_rule_contract.Post κs)
empty_rule_one κs = only (parts.empty_rule_gives κs)

pub empty_classifier_one : (κs : Lfts 0) → One answer (empty_classifier_contract.Post κs)
empty_classifier_one κs = only (parts.empty_classifier_gives κs)

pub empty_table_one : (κs : Lfts 0) → One answer (empty_table_contract.Post κs)
empty_table_one κs = only (parts.empty_table_gives κs)

-- ---- types

pub find_type_one : (κs : Lfts 0) → One answer (find_type_contract.Post κs)
find_type_one κs = only (parts.find_type_gives κs)

-- ---- musts

pub lacks_must_one : (κs : Lfts 1) → One answer (lacks_must_contract.Post κs)
lacks_must_one κs = only (parts.lacks_must_gives κs)

-- ---- elements

pub read_head_one : (κs : Lfts 1) → One answer (read_head_contract.Post κs)
read_head_one κs a x y s t h g = stood_only x y (only (parts.read_head_gives κs) a x y s t h g)

pub value_at_one : (κs : Lfts 1) → One answer (value_at_contract.Post κs)
value_at_one κs = only (parts.value_at_gives κs)

-- ---- children

pub children_of_one : (κs : Lfts 1) → One (λ x s. left x) (children_of_contract.Post κs)
children_of_one κs = only (parts.children_of_gives κs)

pub inside_one : (κs : Lfts 1) → One (λ x s. left x) (inside_contract.Post κs)
inside_one κs = only (parts.inside_gives κs)

-- ---- element_tests

pub own_tests_one : (κs : Lfts 1) → One answer (own_tests_contract.Post κs)
own_tests_one κs a x y s t h g = step_of-only _ _ _ x y (parts.own_tests_gives κs a x s h ∙ sym (parts.own_tests_gives κs a y t g))

-- ---- rows

pub empty_tally_one : (κs : Lfts 0) → One answer (empty_tally_contract.Post κs)
empty_tally_one κs = only (parts.empty_tally_gives κs)

pub test_element_one : (κs : Lfts 1) → One answer (test_element_contract.Post κs)
test_element_one κs a x y s t h g = tested_of-only _ x y (parts.test_element_gives κs a x s h ∙ sym (parts.test_element_gives κs a y t g))

-- ---- clients, rules, classifiers, configurations

pub read_clients_one : (κs : Lfts 1) → One answer (read_clients_contract.Post κs)
read_clients_one κs = only (parts.read_clients_gives κs)

pub rule_at_one : (κs : Lfts 1) → One answer (rule_at_contract.Post κs)
rule_at_one κs = only (parts.rule_at_gives κs)

pub classifier_at_one : (κs : Lfts 1) → One answer (classifier_at_contract.Post κs)
classifier_at_one κs = only (parts.classifier_at_gives κs)

pub configuration_at_one : (κs : Lfts 1) → One answer (configuration_at_contract.Post κs)
configuration_at_one κs = only (parts.configuration_at_gives κs)

-- ---- listed

pub is_listed_one : (κs : Lfts 1) → One answer (is_listed_contract.Post κs)
is_listed_one κs = only (parts.is_listed_gives κs)

pub names_number_one : (κs : Lfts 0) → One answer (names_number_contract.Post κs)
names_number_one κs = only (parts.names_number_gives κs)

-- ---- named

pub lone_number_one : (κs : Lfts 1) → One answer (lone_number_contract.Post κs)
lone_number_one κs a x y s t h g = sought_only x y (in_words_only _ _ (h ∙ sym g))
