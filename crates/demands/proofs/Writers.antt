-- Writers: what the public functions of writing give (the crates whose names begin with writing_, and element_tests::no_channel): each its definition, for every
-- input; and that each contract admits one answer only, as OneAnswer says it.
-- Trusts: nothing.
use Prim.Native.Nat.{ℕ, ◌+◌}
use mathlib.Core.Path.{◌≡◌, ap, sym, ◌∙◌}
use Rattle.std.specs.Prelude.{List, Result}
use contract.Lifetimes.{Lfts}
use lib.ListN.{take}
use lib.Dec.{leb}
use Rattle.demands.proofs.Contract.{Gives, One, only, answer}
use Rattle.wire.specs.Bytes.{concat}
use Rattle.table.specs.Table.{limited_to, clients_of}
use Rattle.texts.specs.Text.{each}
use Rattle.texts.specs.Put.{Put, put}
use Rattle.element_tests.specs.Tests.{no_channel}
use Rattle.element_tests.proofs.no_channel.Reads as no_channel_contract
use Rattle.writing_elements.specs.Encode.{big_endian, element, client_bytes, rule_bytes, classifier_bytes, configuration_row, configured}
use Rattle.writing_numbers.specs.Within.{put_within}
use Rattle.writing_numbers.proofs.has_room.Reads as has_room_contract
use Rattle.writing_numbers.proofs.put_number.Reads as put_number_contract
use Rattle.writing_clients.proofs.put_clients.Reads as put_clients_contract
use Rattle.writing_rules.proofs.put_rule.Reads as put_rule_contract
use Rattle.writing_classifiers.proofs.put_classifier.Reads as put_classifier_contract
use Rattle.writing_configurations.proofs.put_configuration.Reads as put_configuration_contract
use Rattle.writing_bodies.specs.Bodies.{laid, cut_by}
use Rattle.writing_bodies.proofs.lay_all.Reads as lay_all_contract
use Rattle.writing_message.specs.Message.{Held, message_in}
use Rattle.writing_message.proofs.put_message.Reads as put_message_contract
use Rattle.writing_entries.specs.Entries.{sound_rule, unused_rule, sound_classifier, unused_classifier}
use Rattle.writing_entries.proofs.is_sound_rule.Reads as is_sound_rule_contract
use Rattle.writing_entries.proofs.is_unused_rule.Reads as is_unused_rule_contract
use Rattle.writing_entries.proofs.is_sound_classifier.Reads as is_sound_classifier_contract
use Rattle.writing_entries.proofs.is_unused_classifier.Reads as is_unused_classifier_contract
use Rattle.writing_check.specs.Producible.{producible}
use Rattle.writing_check.proofs.is_producible.Reads as is_producible_contract
use Rattle.refusals.specs.declared.Refusal.{Refusal}
use Rattle.writing_table.specs.declared.Written.{Written as Bodies}
use Rattle.writing_table.specs.Writing.{Writing, as_written, writing}
use Rattle.writing_table.proofs.Only.{as_written-only}
use Rattle.writing_table.proofs.write_table.Reads as write_table_contract

-- ---- the test of 19: the answer

pub no_channel_gives : (κs : Lfts 0) → Gives answer (no_channel_contract.Post κs) (λ a. no_channel a.0)
no_channel_gives κs a x s h = h

pub no_channel_one : (κs : Lfts 0) → One answer (no_channel_contract.Post κs)
no_channel_one κs = only (no_channel_gives κs)

pub is_sound_rule_gives : (κs : Lfts 0) → Gives answer (is_sound_rule_contract.Post κs) (λ a. sound_rule a.0)
is_sound_rule_gives κs a x s h = h

pub is_sound_rule_one : (κs : Lfts 0) → One answer (is_sound_rule_contract.Post κs)
is_sound_rule_one κs = only (is_sound_rule_gives κs)

pub is_unused_rule_gives : (κs : Lfts 0) → Gives answer (is_unused_rule_contract.Post κs) (λ a. unused_rule a.0)
is_unused_rule_gives κs a x s h = h

pub is_unused_rule_one : (κs : Lfts 0) → One answer (is_unused_rule_contract.Post κs)
is_unused_rule_one κs = only (is_unused_rule_gives κs)

pub is_sound_classifier_gives : (κs : Lfts 0) → Gives answer (is_sound_classifier_contract.Post κs) (λ a. sound_classifier a.0)
is_sound_classifier_gives κs a x s h = h

pub is_sound_classifier_one : (κs : Lfts 0) → One answer (is_sound_classifier_contract.Post κs)
is_sound_classifier_one κs = only (is_sound_classifier_gives κs)

pub is_unused_classifier_gives : (κs : Lfts 0) → Gives answer (is_unused_classifier_contract.Post κs) (λ a. unused_classifier a.0)
is_unused_classifier_gives κs a x s h = h

pub is_unused_classifier_one : (κs : Lfts 0) → One answer (is_unused_classifier_contract.Post κs)
is_unused_classifier_one κs = only (is_unused_classifier_gives κs)

pub is_producible_gives : (κs : Lfts 0) → Gives answer (is_producible_contract.Post κs) (λ a. producible a.0)
is_producible_gives κs a x s h = h

pub is_producible_one : (κs : Lfts 0) → One answer (is_producible_contract.Post κs)
is_producible_one κs = only (is_producible_gives κs)

-- ---- elements: the place behind, and the lent buffer

pub has_room_gives : (κs : Lfts 0) → Gives answer (has_room_contract.Post κs) (λ a. leb (a.1.0 + a.1.1.0) a.0)
has_room_gives κs a x s h = h

pub has_room_one : (κs : Lfts 0) → One answer (has_room_contract.Post κs)
has_room_one κs = only (has_room_gives κs)

pub put_number_gives : (κs : Lfts 1) → Gives {L = Put} (λ x s. record { next = x; out = s.1.1.1.0.now }) (put_number_contract.Post κs)
    (λ a. (put) (element a.0 (big_endian a.1.0 a.1.1.0)) a.1.1.1.0.now a.1.1.1.1.0)
put_number_gives κs a x s h = h

pub put_number_one : (κs : Lfts 1) → One {L = Put} (λ x s. record { next = x; out = s.1.1.1.0.now }) (put_number_contract.Post κs)
put_number_one κs = only (put_number_gives κs)

pub put_clients_gives : (κs : Lfts 1) → Gives {L = Put} (λ x s. record { next = x; out = s.1.0.now }) (put_clients_contract.Post κs)
    (λ a. put_within 66 (element 4 (each client_bytes (clients_of a.0))) a.1.0.now a.1.1.0)
put_clients_gives κs a x s h = h

pub put_clients_one : (κs : Lfts 1) → One {L = Put} (λ x s. record { next = x; out = s.1.0.now }) (put_clients_contract.Post κs)
put_clients_one κs = only (put_clients_gives κs)

pub put_rule_gives : (κs : Lfts 1) → Gives {L = Put} (λ x s. record { next = x; out = s.1.0.now }) (put_rule_contract.Post κs) (λ a. put_within 132 (rule_bytes a.0) a.1.0.now a.1.1.0)
put_rule_gives κs a x s h = h

pub put_rule_one : (κs : Lfts 1) → One {L = Put} (λ x s. record { next = x; out = s.1.0.now }) (put_rule_contract.Post κs)
put_rule_one κs = only (put_rule_gives κs)

pub put_classifier_gives : (κs : Lfts 1) → Gives {L = Put} (λ x s. record { next = x; out = s.1.0.now }) (put_classifier_contract.Post κs)
    (λ a. put_within 37 (classifier_bytes a.0) a.1.0.now a.1.1.0)
put_classifier_gives κs a x s h = h

pub put_classifier_one : (κs : Lfts 1) → One {L = Put} (λ x s. record { next = x; out = s.1.0.now }) (put_classifier_contract.Post κs)
put_classifier_one κs = only (put_classifier_gives κs)

pub put_configuration_gives : (κs : Lfts 1) → Gives {L = Put} (λ x s. record { next = x; out = s.1.0.now }) (put_configuration_contract.Post κs)
    (λ a. put_within 210 (concat (configured (configuration_row a.0))) a.1.0.now a.1.1.0)
put_configuration_gives κs a x s h = h

pub put_configuration_one : (κs : Lfts 1) → One {L = Put} (λ x s. record { next = x; out = s.1.0.now }) (put_configuration_contract.Post κs)
put_configuration_one κs = only (put_configuration_gives κs)

-- ---- the message, its bodies and the table: the answer, and the lent array or buffer

pub put_message_gives : (κs : Lfts 1) → Gives {L = Held} (λ x s. record { message = x; held = s.1.0.now }) (put_message_contract.Post κs) (λ a. message_in a.0 a.1.0.now)
put_message_gives κs a x s h = h

pub put_message_one : (κs : Lfts 1) → One {L = Held} (λ x s. record { message = x; held = s.1.0.now }) (put_message_contract.Post κs)
put_message_one κs = only (put_message_gives κs)

pub lay_all_gives : (κs : Lfts 2) → Gives (λ x s. s.1.1.1.1.0.now) (lay_all_contract.Post κs)
    (λ a. laid a.0 a.1.0 0 (cut_by (take (limited_to 16 a.1.0) a.1.1.0) a.1.1.1.0.now) a.1.1.1.1.0.now)
lay_all_gives κs a x s h = h

pub lay_all_one : (κs : Lfts 2) → One (λ x s. s.1.1.1.1.0.now) (lay_all_contract.Post κs)
lay_all_one κs = only (lay_all_gives κs)

pub write_table_gives : (κs : Lfts 1) → Gives {L = Writing} (λ x s. record { answer = as_written x; out = s.1.1.0.now }) (write_table_contract.Post κs) (λ a. writing a.0 a.1.0 a.1.1.0.now)
write_table_gives κs a x s h = h

pub write_table_one : (κs : Lfts 1) → One {L = Result Bodies Refusal × List ℕ} (λ x s. (x, s.1.1.0.now)) (write_table_contract.Post κs)
write_table_one κs a x y s t h g =
    let e = h ∙ sym g in
    ap (λ (z : Result Bodies Refusal). (z, s.1.1.0.now)) (as_written-only x y (ap (λ (w : Writing). w.answer) e))
    ∙ ap (λ (o : List ℕ). (y, o)) (ap (λ (w : Writing). w.out) e)
