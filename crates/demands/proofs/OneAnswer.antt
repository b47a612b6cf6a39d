-- OneAnswer: the contract of every public function admits one answer only: two results that meet it on the same arguments show the
-- same answer, and leave the same in everything that was lent to be written. Here: the entries that demand 2 names.
--
-- One law, `only` of proofs/Contract.antt, and a line for each function. Of a result that is a lent part its contents are meant and where it
-- stands; of an answer of the collector what it says: `said_only` of crate collector_demands, proofs/Controls.antt, is that this is the
-- answer; of a report of the receiver what it tells (`told_only` of crate receiver, proofs/Told.antt); of a message's place its three numbers
-- (`placed_only` of crate messages, proofs/Laws.antt).
-- The functions of the lower crates are in OneAnswerParts and OneAnswerPieces, those that a C host calls in OneAnswerC. Not here: `main` of
-- dcdlist, whose contract can say nothing of what is read or written (docs/CONTRACTS.md).
-- Trusts: nothing.
use contract.Lifetimes.{Lfts}
use Rattle.std.specs.Prelude.{Result, Some}
use Rattle.refusals.specs.declared.Refusal.{Refusal}
use Rattle.demands.proofs.Contract.{One, only, answer}
use Rattle.demands.proofs.Demand2 as demand2
use Rattle.demands.proofs.Demand2Frames as frames
use Rattle.collector.specs.Answers.{said}
use Rattle.collector.specs.Step.{After}
use Rattle.reader.proofs.Shown.{shown_only}
use Rattle.reader.proofs.read_table.Reads as read_table_contract
use Rattle.collection.proofs.empty_collection.Reads as empty_collection_contract
use Rattle.collector.proofs.collect.Reads as collect_contract
use Rattle.wire.specs.Parts.{Part, part}
use Rattle.messages.specs.Place.{placed}
use Rattle.messages.proofs.place_message.Reads as place_message_contract
use Rattle.messages.proofs.find_message.Reads as find_message_contract
use Rattle.messages.proofs.own_part.Reads as own_part_contract
use Rattle.messages.proofs.joined_part.Reads as joined_part_contract
use Rattle.order.proofs.is_better.Reads as is_better_contract
use Rattle.choice.proofs.Chose.{chose_only}
use Rattle.choice.proofs.rule_at.Reads as choice_rule_at_contract
use Rattle.choice.proofs.choose_rule.Reads as choose_rule_contract
use Rattle.tunnel.proofs.judge_frame.Reads as judge_frame_contract
use Rattle.payloads.proofs.Judged.{judged_only}
use Rattle.payloads.proofs.payload_range.Reads as payload_range_contract
use Rattle.payloads.proofs.payload.Reads as payload_contract
use Rattle.preparing.proofs.prepare_tunnel.Reads as prepare_tunnel_contract
use Rattle.prepared.proofs.judge_prepared.Reads as judge_prepared_contract
use Rattle.tunnel_parts.proofs.judge_lent.Reads as judge_lent_contract
use Rattle.modem_record.proofs.empty_modem.Reads as empty_modem_contract
use Rattle.modem_record.proofs.counts_idle.Reads as counts_idle_contract
use Rattle.modem_record.specs.declared.Modem.{Modem}
use Rattle.modem_record.proofs.Modem.is_sending.Reads as is_sending_contract
use Rattle.modem_record.proofs.Modem.is_forwarding.Reads as is_forwarding_contract
use Rattle.modem_record.proofs.Modem.is_four.Reads as is_four_contract
use Rattle.modem_rows.proofs.act.Reads as act_contract
use Rattle.modem.proofs.step_modem.Reads as step_modem_contract
use Rattle.modem_step.proofs.step_numbered.Reads as step_numbered_contract
use Rattle.modem_asked.proofs.transmits.Reads as transmits_contract
use Rattle.modem_asked.proofs.forwards.Reads as forwards_contract
use Rattle.receiver.specs.Receive.{told, Had}
use Rattle.receiver.proofs.receive.Reads as receive_contract

-- ---- collector

pub empty_collection_one : (κs : Lfts 0) → One answer (empty_collection_contract.Post κs)
empty_collection_one κs = only (demand2.empty_collection_gives κs)

pub collect_one : (κs : Lfts 3) → One {L = After} (λ x s. record { answer = said x.answer; held = x.held; slots = s.1.0.now; join = s.1.1.0.now }) (collect_contract.Post κs)
collect_one κs = only (demand2.collect_gives κs)

pub place_message_one : (κs : Lfts 0) → One (λ x s. placed (Some x)) (place_message_contract.Post κs)
place_message_one κs = only (demand2.place_message_gives κs)

pub find_message_one : (κs : Lfts 0) → One (λ x s. placed x) (find_message_contract.Post κs)
find_message_one κs = only (demand2.find_message_gives κs)

pub own_part_one : (κs : Lfts 1) → One {L = Part} (λ x s. part x.ref_ptr x.now) (own_part_contract.Post κs)
own_part_one κs = only (demand2.own_part_gives κs)

pub joined_part_one : (κs : Lfts 1) → One {L = Part} (λ x s. part x.ref_ptr x.now) (joined_part_contract.Post κs)
joined_part_one κs = only (demand2.joined_part_gives κs)

pub collect_lent_one : (κs : Lfts 3) → One (demand2.LentSeen κs) (demand2.CollectLent κs)
collect_lent_one κs = only (demand2.collect_lent_gives κs)

-- ---- reader

pub read_table_one : (κs : Lfts 1) → One answer (read_table_contract.Post κs)
read_table_one κs a x y s t h g = shown_only x y (only (demand2.read_table_gives κs) a x y s t h g)

-- ---- receiver

pub receive_one : (κs : Lfts 3) → One {L = Had} (λ x s. record { report = told x.report; held = x.held; table = x.table; slots = s.1.1.0.now; join = s.1.1.1.0.now }) (receive_contract.Post κs)
receive_one κs = only (demand2.receive_gives κs)

-- ---- choice

pub is_better_one : (κs : Lfts 0) → One answer (is_better_contract.Post κs)
is_better_one κs = only (frames.is_better_gives κs)

pub choose_rule_one : (κs : Lfts 0) → One answer (choose_rule_contract.Post κs)
choose_rule_one κs a x y s t h g = chose_only x y (only (frames.choose_rule_gives κs) a x y s t h g)

pub choice_rule_at_one : (κs : Lfts 0) → One answer (choice_rule_at_contract.Post κs)
choice_rule_at_one κs = only (frames.choice_rule_at_gives κs)

-- ---- tunnel

pub judge_frame_one : (κs : Lfts 1) → One answer (judge_frame_contract.Post κs)
judge_frame_one κs a x y s t h g = judged_only x y (only (frames.judge_frame_gives κs) a x y s t h g)

pub payload_range_one : (κs : Lfts 0) → One answer (payload_range_contract.Post κs)
payload_range_one κs = only (frames.payload_range_gives κs)

pub payload_one : (κs : Lfts 1) → One {L = Part} (λ x s. part x.ref_ptr x.now) (payload_contract.Post κs)
payload_one κs = only (frames.payload_gives κs)

-- ---- preparing, prepared, tunnel_parts

pub prepare_tunnel_one : (κs : Lfts 0) → One answer (prepare_tunnel_contract.Post κs)
prepare_tunnel_one κs = only (frames.prepare_tunnel_gives κs)

pub judge_prepared_one : (κs : Lfts 1) → One answer (judge_prepared_contract.Post κs)
judge_prepared_one κs a x y s t h g = judged_only x y (only (frames.judge_prepared_gives κs) a x y s t h g)

pub judge_lent_one : (κs : Lfts 2) → One answer (judge_lent_contract.Post κs)
judge_lent_one κs a x y s t h g = judged_only x y (only (frames.judge_lent_gives κs) a x y s t h g)

-- ---- modem

pub empty_modem_one : (κs : Lfts 0) → One answer (empty_modem_contract.Post κs)
empty_modem_one κs = only (frames.empty_modem_gives κs)

pub counts_idle_one : (κs : Lfts 0) → One answer (counts_idle_contract.Post κs)
counts_idle_one κs = only (frames.counts_idle_gives κs)

pub is_sending_one : (κs : Lfts 0) → One answer (is_sending_contract.Post κs)
is_sending_one κs = only (frames.is_sending_gives κs)

pub is_forwarding_one : (κs : Lfts 0) → One answer (is_forwarding_contract.Post κs)
is_forwarding_one κs = only (frames.is_forwarding_gives κs)

pub is_four_one : (κs : Lfts 0) → One answer (is_four_contract.Post κs)
is_four_one κs = only (frames.is_four_gives κs)

pub act_one : (κs : Lfts 0) → One answer (act_contract.Post κs)
act_one κs = only (frames.act_gives κs)

pub step_modem_one : (κs : Lfts 0) → One answer (step_modem_contract.Post κs)
step_modem_one κs = only (frames.step_modem_result κs)

pub step_numbered_one : (κs : Lfts 0) → One answer (step_numbered_contract.Post κs)
step_numbered_one κs = only (frames.step_numbered_result κs)

pub transmits_one : (κs : Lfts 0) → One answer (transmits_contract.Post κs)
transmits_one κs = only (frames.transmits_gives κs)

pub forwards_one : (κs : Lfts 0) → One answer (forwards_contract.Post κs)
forwards_one κs = only (frames.forwards_gives κs)

pub on_event_one : (κs : Lfts 1) → One {L = Result Unit Refusal × Modem} (λ x s. (x, s.0.now)) (frames.OnEvent κs)
on_event_one κs = only (frames.on_event_result κs)
