-- Demand2: collecting pieces, reading a table and one body all the way give exactly their definitions. Demand2Frames has choosing the tunnel,
-- judging a frame and stepping the modem.
--
-- For each entry, NAME-met: the compiled function meets its contract, as its own crate proves; and NAME-gives: whatever meets that contract
-- gives, for every input, the definition. read_table_result says of the record itself what read_table_gives says by `shown`. What the
-- definitions mean is for a reader to see (docs/MAP.md).
-- Trusts: nothing.
use mathlib.Core.Path.{◌≡◌, refl, subst⁻¹}
use lib.ListN.{length, take}
use Rattle.std.specs.Prelude.{Some}
use contract.Lifetimes.{Lfts}
use denote.Triple.Entry.{Args, Res}
use denote.Triple.Clauses.{AtExit}
use Rattle.demands.proofs.Contract.{Gives, Says, answer}
use Rattle.collector.specs.Answers.{said, complete, place_of}
use Rattle.collection.specs.Record.{empty_collection}
use Rattle.collector.specs.Step.{After, collect_step}
use Rattle.lending.specs.Lent.{LentAt, lent_at}
use Rattle.lending.proofs.Laws.{lent_at_front}
use Rattle.collection.proofs.empty_collection.Reads as empty_collection_contract
use Rattle.collector.proofs.collect.Reads as collect_contract
use Rattle.collector.proofs.collect.Statement as collect'
use Rattle.collector.proofs.collect.Met as collect''
use Rattle.wire.specs.Parts.{Part, part}
use Rattle.messages.specs.Place.{placed, own_part, joined_part}
use Rattle.messages.proofs.place_message.Reads as place_message_contract
use Rattle.messages.proofs.find_message.Reads as find_message_contract
use Rattle.messages.proofs.own_part.Reads as own_part_contract
use Rattle.messages.proofs.joined_part.Reads as joined_part_contract
use Rattle.lending.specs.contracts.collect_lent as collect_lent
use Rattle.lending.proofs.collect_lent.Statement as collect_lent'
use Rattle.lending.proofs.collect_lent.Met as collect_lent''
use Rattle.reader.specs.Read.{Reading, read_table}
use Rattle.reader.specs.Shown.{shown}
use Rattle.reader.proofs.Shown.{answer_as, shown_gives}
use Rattle.reader.proofs.read_table.Reads as read-table
use Rattle.reader.proofs.read_table.Statement as read_table'
use Rattle.reader.proofs.read_table.Met as read_table''
use Rattle.receiver.specs.Receive.{told, Had, receive_step}
use Rattle.receiver.proofs.receive.Reads as receive_contract
use Rattle.receiver.proofs.receive.Statement as receive'
use Rattle.receiver.proofs.receive.Met as receive''

-- ---- collecting pieces: the answer, the record and both buffers; where the message stands, and its two parts

pub collect_met : {M : Type 1} → collect'.statement M
collect_met = collect''.met

pub collect_gives : (κs : Lfts 3) → Gives {L = After} (λ x s. record { answer = said x.answer; held = x.held; slots = s.1.0.now; join = s.1.1.0.now }) (collect_contract.Post κs)
    (λ a. collect_step a.0 a.1.0.now a.1.1.0.now a.1.1.1.0.now)
collect_gives κs a x s h = h

pub place_message_gives : (κs : Lfts 0) → Gives (λ x s. placed (Some x)) (place_message_contract.Post κs) (λ a. place_of (complete a.0) a.1.0)
place_message_gives κs a x s h = h

pub find_message_gives : (κs : Lfts 0) → Gives (λ x s. placed x) (find_message_contract.Post κs) (λ a. place_of (said a.0) a.1.0)
find_message_gives κs a x s h = h

pub own_part_gives : (κs : Lfts 1) → Gives {L = Part} (λ x s. part x.ref_ptr x.now) (own_part_contract.Post κs)
    (λ a. own_part (said a.0.answer) a.0.held.number (part a.1.0.ref_ptr a.1.0.now))
own_part_gives κs a x s h = h

pub joined_part_gives : (κs : Lfts 1) → Gives {L = Part} (λ x s. part x.ref_ptr x.now) (joined_part_contract.Post κs)
    (λ a. joined_part (said a.0.answer) a.0.held.number (part a.1.0.ref_ptr a.1.0.now))
joined_part_gives κs a x s h = h

pub empty_collection_gives : (κs : Lfts 0) → Gives answer (empty_collection_contract.Post κs) (λ a. empty_collection a.0 0 0)
empty_collection_gives κs a x s h = h

-- the same with the message lent as a part, and the join buffer whole: what is seen of it, and where the parts and the buffer stand
abbrev pub LentSeen : (κs : Lfts 3) → Res collect_lent.signature κs → AtExit collect_lent.ended κs → LentAt
LentSeen κs x s = record {
  after = record { answer = said x.outcome.answer; held = x.outcome.held; slots = s.1.0.now; own = x.own.now; joined = x.joined.now; join = x.join.now };
  own = x.own.ref_ptr;
  joined = x.joined.ref_ptr;
  join = x.join.ref_ptr;
}

abbrev pub lent_for : (κs : Lfts 3) → Args collect_lent.signature κs → LentAt
lent_for κs a = lent_at a.0 a.1.0.now (part a.1.1.0.ref_ptr a.1.1.0.now) (part a.1.1.1.0.ref_ptr a.1.1.1.0.now)

-- its plain fact is written out, and `collect_lent_says` is that this is the contract
abbrev pub CollectLent : (κs : Lfts 3) → Args collect_lent.signature κs → Res collect_lent.signature κs → AtExit collect_lent.ended κs → Type 0
CollectLent κs a x s = LentSeen κs x s ≡ lent_for κs a

pub collect_lent_met : {M : Type 1} → collect_lent'.statement M
collect_lent_met = collect_lent''.met

pub collect_lent_says : Says collect_lent.ended (λ M 𝓤 𝓛. collect_lent.clauses 𝓛) CollectLent
collect_lent_says M 𝓤 𝓛 mem run κs a g x s = refl

pub collect_lent_gives : (κs : Lfts 3) → Gives (LentSeen κs) (CollectLent κs) (lent_for κs)
collect_lent_gives κs a x s h = h

-- so the message's part stands at the start of the buffer that is lent back, and nowhere else
pub collect_lent-front : (κs : Lfts 3) (a : Args collect_lent.signature κs) (x : Res collect_lent.signature κs) (s : AtExit collect_lent.ended κs)
    → CollectLent κs a x s → (x.joined.ref_ptr ≡ x.join.ref_ptr) × (take (length x.joined.now) x.join.now ≡ x.joined.now)
collect_lent-front κs a x s h =
    subst⁻¹ (λ (r : LentAt). (r.joined ≡ r.join) × (take (length r.after.joined) r.after.join ≡ r.after.joined)) h
    (lent_at_front a.0 a.1.0.now (part a.1.1.0.ref_ptr a.1.1.0.now) (part a.1.1.1.0.ref_ptr a.1.1.1.0.now))

-- ---- reading a table: the verdict and the table

pub read_table_met : {M : Type 1} → read_table'.statement M
read_table_met = read_table''.met

pub read_table_gives : (κs : Lfts 1) → Gives {L = Reading} (λ x s. shown x) (read-table.Post κs) (λ a. read_table a.0 a.1.0.now)
read_table_gives κs a x s h = h

-- the record itself
pub read_table_result : (κs : Lfts 1) → Gives answer (read-table.Post κs) (λ a. answer_as (read_table a.0 a.1.0.now))
read_table_result κs a x s h = shown_gives _ h

-- ---- one body all the way: the report, the record, the table and both buffers

pub receive_met : {M : Type 1} → receive'.statement M
receive_met = receive''.met

pub receive_gives : (κs : Lfts 3) → Gives {L = Had}
    (λ x s. record { report = told x.report; held = x.held; table = x.table; slots = s.1.1.0.now; join = s.1.1.1.0.now }) (receive_contract.Post κs)
    (λ a. receive_step a.0 a.1.0 a.1.1.0.now a.1.1.1.0.now a.1.1.1.1.0.now)
receive_gives κs a x s h = h
