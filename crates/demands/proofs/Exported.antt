-- Exported: what the functions that a C host calls give (crate dsg): each its definition, for every input and whatever is lent.
--
-- Of a function that takes a record behind a reference, `WalkedGives` (proofs/Contract.antt) says that its contract as it is written is a plain
-- fact, here one equation, and what the fact gives. For the others the toolchain reads the fact out, as in Parts. `met` of each function, in
-- its own crate, says that the compiled function meets the contract cited here.
-- Trusts: nothing.
use mathlib.Core.Path.{refl}
use lib.ListN.{length}
use contract.Lifetimes.{Lfts}
use Rattle.demands.proofs.Contract.{Gives, WalkedGives, fixed, answer}
use Rattle.table.specs.Table.{empty_table}
use Rattle.collection.specs.Record.{empty_collection}
use Rattle.tunnel_parts.specs.Prepared.{prepared_verdict}
use Rattle.preparing.specs.Preparing.{prepared_tunnel}
use Rattle.modem_record.specs.Record.{empty_modem}
use Rattle.modem_asked.specs.Asked.{transmits, forwards}
use Rattle.dsg_pieces.specs.Bodies.{CollectAfter, collect_after, ReceiveAfter, receive_after}
use Rattle.dsg_tables.specs.declared.ReadStepped.{ReadStepped}
use Rattle.dsg_tables.specs.Tables.{read_stepped, ListAfter, list_after, body_after}
use Rattle.dsg_frames.specs.Frames.{client_of, ucid_of, choice_for, verdict_as, verdict_for}
use Rattle.dsg_events.specs.declared.EventStepped.{EventStepped}
use Rattle.dsg_events.specs.Events.{event_stepped}
use Rattle.dsg.specs.contracts.pieces.dsg_collect as dsg_collect
use Rattle.dsg.specs.contracts.pieces.dsg_receive as dsg_receive
use Rattle.dsg.proofs.pieces.dsg_empty_collection.Reads as dsg_empty_collection_contract
use Rattle.dsg.specs.contracts.tables.dsg_read as dsg_read
use Rattle.dsg.specs.contracts.tables.dsg_list_table as dsg_list_table
use Rattle.dsg.proofs.tables.dsg_list_body.Reads as dsg_list_body_contract
use Rattle.dsg.proofs.tables.dsg_empty_table.Reads as dsg_empty_table_contract
use Rattle.dsg.specs.contracts.frames.dsg_choose as dsg_choose
use Rattle.dsg.specs.contracts.frames.dsg_judge as dsg_judge
use Rattle.dsg.specs.contracts.frames.dsg_prepare as dsg_prepare
use Rattle.dsg.specs.contracts.frames.dsg_judge_prepared as dsg_judge_prepared
use Rattle.dsg.specs.contracts.events.dsg_event as dsg_event
use Rattle.dsg.specs.contracts.events.dsg_transmits as dsg_transmits
use Rattle.dsg.specs.contracts.events.dsg_forwards as dsg_forwards
use Rattle.dsg.proofs.events.dsg_empty_modem.Reads as dsg_empty_modem_contract

-- ---- bodies: the answer, the record, the table and both buffers

pub dsg_collect_gives : WalkedGives dsg_collect.ended (λ M 𝓤 𝓛. dsg_collect.clauses 𝓛) {L = CollectAfter}
    (λ κs x s. record { answer = x; held = s.0.now; slots = s.1.0.now; join = s.1.1.0.now })
    (λ κs a. collect_after a.0.now a.1.0.now a.1.1.0.now a.1.1.1.0.now)
dsg_collect_gives = fixed (λ M 𝓤 𝓛 mem run κs a g x s. refl)

pub dsg_receive_gives : WalkedGives dsg_receive.ended (λ M 𝓤 𝓛. dsg_receive.clauses 𝓛) {L = ReceiveAfter}
    (λ κs x s. record { answer = x; held = s.0.now; table = s.1.0.now; slots = s.1.1.0.now; join = s.1.1.1.0.now })
    (λ κs a. receive_after a.0.now a.1.0.now a.1.1.0.now a.1.1.1.0.now a.1.1.1.1.0.now)
dsg_receive_gives = fixed (λ M 𝓤 𝓛 mem run κs a g x s. refl)

pub dsg_empty_collection_gives : (κs : Lfts 0) → Gives answer (dsg_empty_collection_contract.Post κs) (λ a. empty_collection a.0 0 0)
dsg_empty_collection_gives κs a x s h = h

-- ---- tables: the answer, and the table or the buffer

pub dsg_read_gives : WalkedGives dsg_read.ended (λ M 𝓤 𝓛. dsg_read.clauses 𝓛) {L = ReadStepped} (λ κs x s. record { answer = x; table = s.0.now })
    (λ κs a. read_stepped a.0.now a.1.0.now)
dsg_read_gives = fixed (λ M 𝓤 𝓛 mem run κs a g x s. refl)

pub dsg_list_table_gives : WalkedGives dsg_list_table.ended (λ M 𝓤 𝓛. dsg_list_table.clauses 𝓛) {L = ListAfter} (λ κs x s. record { answer = x; out = s.1.1.0.now })
    (λ κs a. list_after a.0.now a.1.0 a.1.1.0.now)
dsg_list_table_gives = fixed (λ M 𝓤 𝓛 mem run κs a g x s. refl)

pub dsg_list_body_gives : (κs : Lfts 2) → Gives {L = ListAfter} (λ x s. record { answer = x; out = s.1.0.now }) (dsg_list_body_contract.Post κs) (λ a. body_after a.0.now a.1.0.now)
dsg_list_body_gives κs a x s h = h

pub dsg_empty_table_gives : (κs : Lfts 0) → Gives answer (dsg_empty_table_contract.Post κs) (λ a. empty_table)
dsg_empty_table_gives κs a x s h = h

-- ---- frames: the answer

pub dsg_choose_gives : WalkedGives dsg_choose.ended (λ M 𝓤 𝓛. dsg_choose.clauses 𝓛) (λ κs. answer)
    (λ κs a. choice_for a.0.now a.1.0 a.1.1.0 a.1.1.1.0 a.1.1.1.1.0)
dsg_choose_gives = fixed (λ M 𝓤 𝓛 mem run κs a g x s. refl)

pub dsg_judge_gives : WalkedGives dsg_judge.ended (λ M 𝓤 𝓛. dsg_judge.clauses 𝓛) (λ κs. answer)
    (λ κs a. verdict_for a.0.now a.1.0 a.1.1.0 a.1.1.1.0 a.1.1.1.1.0 a.1.1.1.1.1.0.now)
dsg_judge_gives = fixed (λ M 𝓤 𝓛 mem run κs a g x s. refl)

pub dsg_prepare_gives : WalkedGives dsg_prepare.ended (λ M 𝓤 𝓛. dsg_prepare.clauses 𝓛) (λ κs. answer)
    (λ κs a. prepared_tunnel a.0.now (client_of a.1.0 a.1.1.0) (ucid_of a.1.1.1.0 a.1.1.1.1.0))
dsg_prepare_gives = fixed (λ M 𝓤 𝓛 mem run κs a g x s. refl)

pub dsg_judge_prepared_gives : WalkedGives dsg_judge_prepared.ended (λ M 𝓤 𝓛. dsg_judge_prepared.clauses 𝓛) (λ κs. answer)
    (λ κs a. verdict_as (prepared_verdict a.0.now a.1.0.now) (length a.1.0.now))
dsg_judge_prepared_gives = fixed (λ M 𝓤 𝓛 mem run κs a g x s. refl)

-- ---- events: the answer and the record

pub dsg_event_gives : WalkedGives dsg_event.ended (λ M 𝓤 𝓛. dsg_event.clauses 𝓛) {L = EventStepped} (λ κs x s. record { number = x; modem = s.0.now })
    (λ κs a. event_stepped a.0.now a.1.0 a.1.1.0 a.1.1.1.0 a.1.1.1.1.0 a.1.1.1.1.1.0 a.1.1.1.1.1.1.0)
dsg_event_gives = fixed (λ M 𝓤 𝓛 mem run κs a g x s. refl)

pub dsg_transmits_gives : WalkedGives dsg_transmits.ended (λ M 𝓤 𝓛. dsg_transmits.clauses 𝓛) (λ κs. answer)
    (λ κs a. transmits a.0.now)
dsg_transmits_gives = fixed (λ M 𝓤 𝓛 mem run κs a g x s. refl)

pub dsg_forwards_gives : WalkedGives dsg_forwards.ended (λ M 𝓤 𝓛. dsg_forwards.clauses 𝓛) (λ κs. answer)
    (λ κs a. forwards a.0.now)
dsg_forwards_gives = fixed (λ M 𝓤 𝓛 mem run κs a g x s. refl)

pub dsg_empty_modem_gives : (κs : Lfts 0) → Gives answer (dsg_empty_modem_contract.Post κs) (λ a. empty_modem)
dsg_empty_modem_gives κs a x s h = h
