-- `bodies::receive_alone` gives what `received` says of the report and the table.
-- Trusts: nothing.
use mathlib.Core.Path.{ap}
use Rattle.receiver.specs.Receive.{Had}
use Rattle.bodies.proofs.Laws.{received_from}
use Rattle.bodies.proofs.receive_alone.Goals as goal

pub returns : goal.returns
returns c =
    let had = received_from _ c.empty_collection-held.ensures c.empty_table-table.ensures
    c.zero_buffer-slots.ensures c.zero_buffer-join.ensures
    c.receive.ensures in
    (ap (λ (h : Had). h.report) had, ap (λ (h : Had). h.table) had)
