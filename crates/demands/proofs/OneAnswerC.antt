-- OneAnswerC: the contract of every function that a C host calls (crate dsg) admits one answer only, as OneAnswer says it of the others.
--
-- `WalkedOne` (proofs/Contract.antt): the contract is a plain fact, and two results that meet it on the same arguments show the same answer
-- and leave the same record, table and bytes.
-- Trusts: nothing.
use contract.Lifetimes.{Lfts}
use Rattle.demands.proofs.Contract.{One, WalkedOne, only, only_walked, answer}
use Rattle.demands.proofs.Exported as exported
use Rattle.dsg_pieces.specs.Bodies.{CollectAfter, ReceiveAfter}
use Rattle.dsg_tables.specs.declared.ReadStepped.{ReadStepped}
use Rattle.dsg_tables.specs.Tables.{ListAfter}
use Rattle.dsg_events.specs.declared.EventStepped.{EventStepped}
use Rattle.dsg.specs.contracts.pieces.dsg_collect as dsg_collect
use Rattle.dsg.specs.contracts.pieces.dsg_receive as dsg_receive
use Rattle.dsg.proofs.pieces.dsg_empty_collection.Reads as dsg_empty_collection_contract
use Rattle.dsg.specs.contracts.tables.dsg_read as dsg_read
use Rattle.dsg.specs.contracts.tables.dsg_list_table as dsg_list_table
use Rattle.dsg.proofs.tables.dsg_list_body.Reads as dsg_list_body_contract
use Rattle.dsg.proofs.tables.dsg_empty_table.Reads as dsg_empty_table_contract
use Rattle.dsg.specs.contracts.frames.dsg_choose as dsg_choose
use Rattle.dsg.specs.contracts.frames.dsg_judge as dsg_judge
use Rattle.dsg.specs.contracts.frames.dsg_prepare as dsg_prepare
use Rattle.dsg.specs.contracts.frames.dsg_judge_prepared as dsg_judge_prepared
use Rattle.dsg.specs.contracts.events.dsg_event as dsg_event
use Rattle.dsg.specs.contracts.events.dsg_transmits as dsg_transmits
use Rattle.dsg.specs.contracts.events.dsg_forwards as dsg_forwards
use Rattle.dsg.proofs.events.dsg_empty_modem.Reads as dsg_empty_modem_contract

-- ---- bodies

pub dsg_collect_one : WalkedOne dsg_collect.ended (λ M 𝓤 𝓛. dsg_collect.clauses 𝓛) {L = CollectAfter}
    (λ κs x s. record { answer = x; held = s.0.now; slots = s.1.0.now; join = s.1.1.0.now })
dsg_collect_one = only_walked exported.dsg_collect_gives

pub dsg_receive_one : WalkedOne dsg_receive.ended (λ M 𝓤 𝓛. dsg_receive.clauses 𝓛) {L = ReceiveAfter}
    (λ κs x s. record { answer = x; held = s.0.now; table = s.1.0.now; slots = s.1.1.0.now; join = s.1.1.1.0.now })
dsg_receive_one = only_walked exported.dsg_receive_gives

pub dsg_empty_collection_one : (κs : Lfts 0) → One answer (dsg_empty_collection_contract.Post κs)
dsg_empty_collection_one κs = only (exported.dsg_empty_collection_gives κs)

-- ---- tables

pub dsg_read_one : WalkedOne dsg_read.ended (λ M 𝓤 𝓛. dsg_read.clauses 𝓛) {L = ReadStepped} (λ κs x s. record { answer = x; table = s.0.now })
dsg_read_one = only_walked exported.dsg_read_gives

pub dsg_list_table_one : WalkedOne dsg_list_table.ended (λ M 𝓤 𝓛. dsg_list_table.clauses 𝓛) {L = ListAfter} (λ κs x s. record { answer = x; out = s.1.1.0.now })
dsg_list_table_one = only_walked exported.dsg_list_table_gives

pub dsg_list_body_one : (κs : Lfts 2) → One {L = ListAfter} (λ x s. record { answer = x; out = s.1.0.now }) (dsg_list_body_contract.Post κs)
dsg_list_body_one κs = only (exported.dsg_list_body_gives κs)

pub dsg_empty_table_one : (κs : Lfts 0) → One answer (dsg_empty_table_contract.Post κs)
dsg_empty_table_one κs = only (exported.dsg_empty_table_gives κs)

-- ---- frames

pub dsg_choose_one : WalkedOne dsg_choose.ended (λ M 𝓤 𝓛. dsg_choose.clauses 𝓛) (λ κs. answer)
dsg_choose_one = only_walked exported.dsg_choose_gives

pub dsg_judge_one : WalkedOne dsg_judge.ended (λ M 𝓤 𝓛. dsg_judge.clauses 𝓛) (λ κs. answer)
dsg_judge_one = only_walked exported.dsg_judge_gives

pub dsg_prepare_one : WalkedOne dsg_prepare.ended (λ M 𝓤 𝓛. dsg_prepare.clauses 𝓛) (λ κs. answer)
dsg_prepare_one = only_walked exported.dsg_prepare_gives

pub dsg_judge_prepared_one : WalkedOne dsg_judge_prepared.ended (λ M 𝓤 𝓛. dsg_judge_prepared.clauses 𝓛) (λ κs. answer)
dsg_judge_prepared_one = only_walked exported.dsg_judge_prepared_gives

-- ---- events

pub dsg_event_one : WalkedOne dsg_event.ended (λ M 𝓤 𝓛. dsg_event.clauses 𝓛) {L = EventStepped} (λ κs x s. record { number = x; modem = s.0.now })
dsg_event_one = only_walked exported.dsg_event_gives

pub dsg_transmits_one : WalkedOne dsg_transmits.ended (λ M 𝓤 𝓛. dsg_transmits.clauses 𝓛) (λ κs. answer)
dsg_transmits_one = only_walked exported.dsg_transmits_gives

pub dsg_forwards_one : WalkedOne dsg_forwards.ended (λ M 𝓤 𝓛. dsg_forwards.clauses 𝓛) (λ κs. answer)
dsg_forwards_one = only_walked exported.dsg_forwards_gives

pub dsg_empty_modem_one : (κs : Lfts 0) → One answer (dsg_empty_modem_contract.Post κs)
dsg_empty_modem_one κs = only (exported.dsg_empty_modem_gives κs)
