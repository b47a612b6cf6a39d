-- Demand3: one message in 1 to 16 pieces, in any order, with repeats and refused bodies between: completion is reported exactly once, at the
-- arrival of the last piece missing, and what is read then is what the uncut message gives.
--
--   EndToEnd     the collector's part (crate collector_demands, specs/Demand.antt: silent, once, last), and what reading gives at completion
--   demand_3     it holds from any lent record that holds nothing, or a collection under another count or number, with buffers long enough; under
--                the strict setting for a message that is cut where it may be (Passes; document 02, Req 04), and so all that follow
--   demand_3_there      Complete is reported at a position if and only if it is the arrival of the last piece missing
--   demand_3_lent       the same over what is lent (`lent_step`): there Complete is answered and the part of the body or of the join buffer is the
--                       uncut message; elsewhere it is not, and both parts are empty
--   demand_3_seen       the same as a C host sees it (`collect_after`, of `dsg_collect`): kind 3 or 4 is answered once, there, `length` is the
--                       uncut message's, and `start` and `length` name it, all inside the body (3) or the join buffer after the call (4)
--   demand_3_received   the same of `receive_step`: read once, with the report and the table of the uncut message
--   uncut_short  such a message has at most 23,952 bytes, so reading does not refuse it for its length
--
-- Whether the record and the buffers come back untouched between the calls is the host's part; here they are what the last call left.
-- Trusts: nothing.
use Prim.Native.Nat.{ℕ, ◌≤◌, ◌<◌}
use mathlib.Core.Path.{◌≡◌, ap}
use mathlib.Core.List.{List}
use mathlib.Core.Bool.{true}
use Rattle.collection.specs.Record.{is_strict}
use lib.ListN.{length}
use Rattle.table.specs.declared.Table.{Table}
use Rattle.reader.specs.Read.{read_table}
use Rattle.collector_demands.specs.Runs.{Reply}
use Rattle.collector_demands.specs.Demand as collected
use Rattle.collector_demands.specs.Demand.{Lent, reply_to, Cutting, body_of, Arrived, Came, Passes, Apart}
use Rattle.collector_demands.specs.Last.{OnlyThere}
use Rattle.collector_demands.proofs.Last.{only_there}
use Rattle.collector_lent.specs.Lent.{LentOnce}
use Rattle.collector_lent.specs.Host.{HostOnce}
use Rattle.collector_lent.proofs.Lent.{demand_3_parts}
use Rattle.collector_lent.proofs.Host.{demand_3_host}
use Rattle.receiver_demands.specs.EndToEnd.{Kept, ReadOnce}
use Rattle.receiver_demands.proofs.Demands.{demand_3_read}
use Rattle.collector_demands.proofs.Kept.{length_cut}
use Rattle.collector_demands.proofs.Demands as collected-proved

pub record EndToEnd (s : Lent) (count : ℕ) (message : List ℕ) (pieces : List (List ℕ)) : Type 0 where
  -- completion: never while a piece is missing, once when all came, at the last piece missing, with the message
  pub completed : collected.Demand3 s count message pieces
  -- the message that is lent at the arrival of the last piece missing is read as the uncut one, whatever table is given
  pub read : {h : List (List ℕ)} (t : Arrived count pieces h) (k : ℕ) → k < length pieces → (Came k t → ⊥)
      → ((j : ℕ) → j < length pieces → (j ≡ k → ⊥) → Came j t) → (given : Table) → read_table given (reply_to s h (body_of count pieces k)).lent ≡ read_table given message

pub demand_3 : (s : Lent) → 24000 ≤ length s.slots → 24000 ≤ length s.join → (count : ℕ) (message : List ℕ) (pieces : List (List ℕ)) → Cutting message pieces
    → (is_strict s.held ≡ true → Passes message pieces) → Apart s.held count (length pieces) → EndToEnd s count message pieces
demand_3 s room space count message pieces cut passes apart =
    let d = collected-proved.demand_3 s room space count message pieces cut passes apart in
    record { completed = d; read = λ t k l missing others given. ap (λ (r : Reply). read_table given r.lent) (d.last t k l missing others) }

pub demand_3_there : (s : Lent) → 24000 ≤ length s.slots → 24000 ≤ length s.join → (count : ℕ) (message : List ℕ) (pieces : List (List ℕ)) → Cutting message pieces
    → (is_strict s.held ≡ true → Passes message pieces) → Apart s.held count (length pieces) → OnlyThere s count pieces
demand_3_there s room space count message pieces cut passes apart =
    only_there s count message pieces (collected-proved.demand_3 s room space count message pieces cut passes apart)

-- over what is lent, and over what a C host is told: crate collector_lent
pub demand_3_lent : (s : Lent) → 24000 ≤ length s.slots → 24000 ≤ length s.join → (count : ℕ) (message : List ℕ) (pieces : List (List ℕ)) → Cutting message pieces
    → (is_strict s.held ≡ true → Passes message pieces) → Apart s.held count (length pieces) → LentOnce s count message pieces
demand_3_lent = demand_3_parts

pub demand_3_seen : (s : Lent) → 24000 ≤ length s.slots → 24000 ≤ length s.join → (count : ℕ) (message : List ℕ) (pieces : List (List ℕ)) → Cutting message pieces
    → (is_strict s.held ≡ true → Passes message pieces) → Apart s.held count (length pieces) → HostOnce s count message pieces
demand_3_seen = demand_3_host

pub uncut_short : (message : List ℕ) (pieces : List (List ℕ)) → Cutting message pieces → length message ≤ 23952
uncut_short = length_cut

-- the same of the receiver's own step, over the whole history: crate receiver_demands
pub demand_3_received : (s : Kept) → 24000 ≤ length s.slots → 24000 ≤ length s.join → (count : ℕ) (message : List ℕ) (pieces : List (List ℕ)) → Cutting message pieces
    → (is_strict s.held ≡ true → Passes message pieces) → Apart s.held count (length pieces) → ReadOnce s count message pieces
demand_3_received = demand_3_read
