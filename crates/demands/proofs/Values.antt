-- Values: what the functions under the C interface give, which have records by value and answers as numbers (crates dsg_pieces, dsg_tables,
-- dsg_frames, dsg_events): each its definition, for every input; and that each contract admits one answer only, as OneAnswer says it.
-- Trusts: nothing.
use lib.ListN.{length}
use contract.Lifetimes.{Lfts}
use Rattle.demands.proofs.Contract.{Gives, One, only, answer}
use Rattle.tunnel_parts.specs.Prepared.{prepared_verdict}
use Rattle.preparing.specs.Preparing.{prepared_tunnel}
use Rattle.dsg_pieces.specs.Bodies.{CollectAfter, collect_after, ReceiveAfter, receive_after}
use Rattle.dsg_tables.specs.Tables.{read_stepped, ListAfter, list_after, body_after}
use Rattle.dsg_frames.specs.Frames.{client_of, ucid_of, choice_for, verdict_as, verdict_for}
use Rattle.dsg_events.specs.Events.{event_stepped}
use Rattle.dsg_pieces.proofs.collect_value.Reads as collect_value_contract
use Rattle.dsg_pieces.proofs.receive_value.Reads as receive_value_contract
use Rattle.dsg_tables.proofs.read_value.Reads as read_value_contract
use Rattle.dsg_tables.proofs.list_value.Reads as list_value_contract
use Rattle.dsg_tables.proofs.list_body_value.Reads as list_body_value_contract
use Rattle.dsg_frames.proofs.choose_value.Reads as choose_value_contract
use Rattle.dsg_frames.proofs.judge_value.Reads as judge_value_contract
use Rattle.dsg_frames.proofs.prepare_value.Reads as prepare_value_contract
use Rattle.dsg_frames.proofs.judge_parts.Reads as judge_parts_contract
use Rattle.dsg_events.proofs.event_value.Reads as event_value_contract

-- ---- bodies: the answer, the record, the table and both buffers

pub collect_value_gives : (κs : Lfts 3) → Gives {L = CollectAfter} (λ x s. record { answer = x.answer; held = x.held; slots = s.1.0.now; join = s.1.1.0.now }) (collect_value_contract.Post κs)
    (λ a. collect_after a.0 a.1.0.now a.1.1.0.now a.1.1.1.0.now)
collect_value_gives κs a x s h = h

pub collect_value_one : (κs : Lfts 3) → One {L = CollectAfter} (λ x s. record { answer = x.answer; held = x.held; slots = s.1.0.now; join = s.1.1.0.now }) (collect_value_contract.Post κs)
collect_value_one κs = only (collect_value_gives κs)

pub receive_value_gives : (κs : Lfts 3) → Gives {L = ReceiveAfter}
    (λ x s. record { answer = x.answer; held = x.held; table = x.table; slots = s.1.1.0.now; join = s.1.1.1.0.now }) (receive_value_contract.Post κs)
    (λ a. receive_after a.0 a.1.0 a.1.1.0.now a.1.1.1.0.now a.1.1.1.1.0.now)
receive_value_gives κs a x s h = h

pub receive_value_one : (κs : Lfts 3) → One {L = ReceiveAfter}
    (λ x s. record { answer = x.answer; held = x.held; table = x.table; slots = s.1.1.0.now; join = s.1.1.1.0.now }) (receive_value_contract.Post κs)
receive_value_one κs = only (receive_value_gives κs)

-- ---- tables: the answer, and the table or the buffer

pub read_value_gives : (κs : Lfts 1) → Gives answer (read_value_contract.Post κs) (λ a. read_stepped a.0 a.1.0.now)
read_value_gives κs a x s h = h

pub read_value_one : (κs : Lfts 1) → One answer (read_value_contract.Post κs)
read_value_one κs = only (read_value_gives κs)

pub list_value_gives : (κs : Lfts 1) → Gives {L = ListAfter} (λ x s. record { answer = x; out = s.1.1.0.now }) (list_value_contract.Post κs) (λ a. list_after a.0 a.1.0 a.1.1.0.now)
list_value_gives κs a x s h = h

pub list_value_one : (κs : Lfts 1) → One {L = ListAfter} (λ x s. record { answer = x; out = s.1.1.0.now }) (list_value_contract.Post κs)
list_value_one κs = only (list_value_gives κs)

pub list_body_value_gives : (κs : Lfts 2) → Gives {L = ListAfter} (λ x s. record { answer = x; out = s.1.0.now }) (list_body_value_contract.Post κs) (λ a. body_after a.0.now a.1.0.now)
list_body_value_gives κs a x s h = h

pub list_body_value_one : (κs : Lfts 2) → One {L = ListAfter} (λ x s. record { answer = x; out = s.1.0.now }) (list_body_value_contract.Post κs)
list_body_value_one κs = only (list_body_value_gives κs)

-- ---- frames: the answer

pub choose_value_gives : (κs : Lfts 0) → Gives answer (choose_value_contract.Post κs) (λ a. choice_for a.0 a.1.0 a.1.1.0 a.1.1.1.0 a.1.1.1.1.0)
choose_value_gives κs a x s h = h

pub choose_value_one : (κs : Lfts 0) → One answer (choose_value_contract.Post κs)
choose_value_one κs = only (choose_value_gives κs)

pub judge_value_gives : (κs : Lfts 1) → Gives answer (judge_value_contract.Post κs)
    (λ a. verdict_for a.0 a.1.0 a.1.1.0 a.1.1.1.0 a.1.1.1.1.0 a.1.1.1.1.1.0.now)
judge_value_gives κs a x s h = h

pub judge_value_one : (κs : Lfts 1) → One answer (judge_value_contract.Post κs)
judge_value_one κs = only (judge_value_gives κs)

pub prepare_value_gives : (κs : Lfts 0) → Gives answer (prepare_value_contract.Post κs)
    (λ a. prepared_tunnel a.0 (client_of a.1.0 a.1.1.0) (ucid_of a.1.1.1.0 a.1.1.1.1.0))
prepare_value_gives κs a x s h = h

pub prepare_value_one : (κs : Lfts 0) → One answer (prepare_value_contract.Post κs)
prepare_value_one κs = only (prepare_value_gives κs)

-- by a tunnel that is lent
pub judge_parts_gives : (κs : Lfts 2) → Gives answer (judge_parts_contract.Post κs)
    (λ a. verdict_as (prepared_verdict a.0.now a.1.0.now) (length a.1.0.now))
judge_parts_gives κs a x s h = h

pub judge_parts_one : (κs : Lfts 2) → One answer (judge_parts_contract.Post κs)
judge_parts_one κs = only (judge_parts_gives κs)

-- ---- events: the answer and the record

pub event_value_gives : (κs : Lfts 0) → Gives answer (event_value_contract.Post κs)
    (λ a. event_stepped a.0 a.1.0 a.1.1.0 a.1.1.1.0 a.1.1.1.1.0 a.1.1.1.1.1.0 a.1.1.1.1.1.1.0)
event_value_gives κs a x s h = h

pub event_value_one : (κs : Lfts 0) → One answer (event_value_contract.Post κs)
event_value_one κs = only (event_value_gives κs)
