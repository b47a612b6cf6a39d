-- `clients::read_clients` gives clients_in: every turn is one more step of the fold.
-- Trusts: nothing.
use Rattle.children.specs.Rows.{row_in}
use Rattle.children.specs.Children.{left}
use Rattle.children.proofs.Walked.{Walked}
use Rattle.clients.specs.Clients.{no_clients, with_client_child}
use Rattle.clients.proofs.read_clients.Given as goal

abbrev pub invariant-loop-child : goal.invariant-loop-child
invariant-loop-child l = Walked (with_client_child l.message) l.message (row_in l.message l.from l.end) no_clients (left l.child-iterator) l.clients
