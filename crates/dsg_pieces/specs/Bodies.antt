-- Bodies: the numbers by which what is answered to a body crosses to C (include/dsg.h).
--
--   collected_of a number      an answer of the collector; number is that of the record after it
--   collect_after r slots join body   what a host has after `dsg_collect`: the answer, the record and both buffers
--
--   received_of a              a report of the receiver
--   receive_after r t slots join body   what a host has after `dsg_receive`: the answer, the record, the table and both buffers
--
-- Kinds of a collected body: 0 refused, 1 repeat, 2 waiting, 3 complete and lent from the body, 4 complete and lent from the join buffer, 5 dropped.
-- Kinds of a received one: 0 refused, 1 repeat, 2 waiting, 3 the table accepted, 4 the message refused, 5 dropped.
-- What a kind does not use is 0. Trusts: nothing.
use Rattle.std.specs.Prelude.{ℕ, cond, List, eqb}
use Rattle.collector.specs.Answers.{Said, refused, again, waiting, complete, dropped, Place, in_body, place_of}
use Rattle.collector.specs.Step.{After, collect_step}
use Rattle.collection.specs.declared.Collection.{Collection}
use Rattle.table.specs.declared.Table.{Table}
use Rattle.receiver.specs.Receive as receiver
use Rattle.receiver.specs.Receive.{Told, Had, receive_step}
use Rattle.dsg_pieces.specs.declared.Collected.{Collected}
use Rattle.dsg_pieces.specs.declared.Received.{Received}

-- a message that is complete, by where it stands
abbrev pub complete_at : Place → Collected
complete_at p = record { kind = cond (eqb p.source in_body) 3 4; number = 0; empty = 0; start = p.start; length = p.length; offset = 0 }

abbrev pub complete_of : ℕ → ℕ → Collected
complete_of n number = complete_at (place_of (complete n) number)

abbrev pub collected_of : Said → ℕ → Collected
collected_of (refused n) number = record { kind = 0; number = n; empty = 0; start = 0; length = 0; offset = 0 }
collected_of again number = record { kind = 1; number = 0; empty = 0; start = 0; length = 0; offset = 0 }
collected_of (waiting k) number = record { kind = 2; number = 0; empty = k; start = 0; length = 0; offset = 0 }
collected_of (complete n) number = complete_of n number
collected_of (dropped cut) number = record { kind = 5; number = 21; empty = 0; start = 0; length = 0; offset = cut }

pub record CollectAfter : Type 0 where
  pub answer : Collected
  pub held : Collection
  pub slots : List ℕ
  pub join : List ℕ

abbrev pub collected_as : After → CollectAfter
collected_as s = record { answer = collected_of s.answer s.held.number; held = s.held; slots = s.slots; join = s.join }

abbrev pub collect_after : Collection → List ℕ → List ℕ → List ℕ → CollectAfter
collect_after r slots join body = collected_as (collect_step r slots join body)

abbrev pub received_of : Told → Received
received_of (receiver.body_refused n) = record { kind = 0; number = n; empty = 0; offset = 0 }
received_of receiver.again = record { kind = 1; number = 0; empty = 0; offset = 0 }
received_of (receiver.waiting k) = record { kind = 2; number = 0; empty = k; offset = 0 }
received_of receiver.accepted = record { kind = 3; number = 0; empty = 0; offset = 0 }
received_of (receiver.message_refused n offset) = record { kind = 4; number = n; empty = 0; offset = offset }
received_of (receiver.dropped cut) = record { kind = 5; number = 21; empty = 0; offset = cut }

pub record ReceiveAfter : Type 0 where
  pub answer : Received
  pub held : Collection
  pub table : Table
  pub slots : List ℕ
  pub join : List ℕ

abbrev pub received_as : Had → ReceiveAfter
received_as s = record { answer = received_of s.report; held = s.held; table = s.table; slots = s.slots; join = s.join }

abbrev pub receive_after : Collection → Table → List ℕ → List ℕ → List ℕ → ReceiveAfter
receive_after r t slots join body = received_as (receive_step r t slots join body)
