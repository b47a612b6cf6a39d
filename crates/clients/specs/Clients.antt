-- Clients: the client IDs that a 50.4 holds (document 01, "Elements", 50.4).
--
--   no_clients                no client ID
--   is_client kind            whether a child is a client ID (for a private test, which no public promise cites)
--   client_at msg at len      the client ID of the child at `at`, of len bytes
--   with_client_child at len so   the client IDs so with the child at `at`, of len bytes, taken up
--   clients_in msg at end     the client IDs of the row from `at` to `end`, in byte order
--
-- A child of an unlisted type is passed over, as document 01 has it. No test is made here: a ninth client ID is passed over too, and a byte
-- beyond the message counts as 0; messages with these are refused by tests 6 to 13.
-- Tested by: proofs/Bench.antt of the crate reader.
-- Trusts: nothing.
use Rattle.std.specs.Prelude.{ℕ, ◌+◌, Bool, cond, not, ◌&&◌, List, set, replicate, eqb, ltb}
use Rattle.numbers.specs.Numbers.{number_at}
use Rattle.table.specs.Table.{empty_client}
use Rattle.table.specs.declared.Client.{Client}
use Rattle.children.specs.Rows.{row_in, row_fold, type_at}
use Rattle.clients.specs.declared.Clients.{Clients}

abbrev pub no_clients : Clients
no_clients = record { count = 0; list = replicate 8 empty_client }

-- one more client ID; a full list stays
unfoldable pub with_client : Client → Clients → Clients
with_client one so = cond (ltb so.count 8) (record { count = so.count + 1; list = set so.list so.count one }) so

-- 50.4.1: a broadcast, of length 0 the kind of its own; 50.4.2: a MAC; 50.4.3 and .4: a CA system, an application
unfoldable pub client_at : List ℕ → ℕ → ℕ → Client
client_at msg at len =
    cond (eqb (type_at msg at) 2) (record { kind = 2; value = number_at 6 msg (at + 2) })
    (cond (eqb (type_at msg at) 1)
    (cond (eqb len 0) (record { kind = 0; value = 0 }) (record { kind = 1; value = number_at 2 msg (at + 2) }))
    (record { kind = type_at msg at; value = number_at 2 msg (at + 2) }))

-- 50.4.1 to 50.4.4
unfoldable pub is_client : ℕ → Bool
is_client kind = not (ltb 4 kind) && not (eqb kind 0)

unfoldable pub with_client_child : List ℕ → ℕ → ℕ → Clients → Clients
with_client_child msg at len so =
    cond (ltb 4 (type_at msg at)) so
    (cond (eqb (type_at msg at) 0) so
    (with_client (client_at msg at len) so))

unfoldable pub clients_in : List ℕ → ℕ → ℕ → Clients
clients_in msg at end = row_fold (with_client_child msg) (row_in msg at end) no_clients
