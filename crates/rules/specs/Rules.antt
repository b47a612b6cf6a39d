-- Rules: what the row of a rule leaves (document 01, "Elements", 50).
--
--   with_rule_child at len q   the rule q with the child at `at`, of len bytes, taken up
--   rule_at msg at        the rule of the element at `at`: its children, in byte order, taken up into an empty rule
--
-- A child of an unlisted type is passed over, as document 01 has it. No test is made here: a ninth number and a 50.3 over 16 bytes are
-- passed over too, a second copy takes the first one's place, and a byte beyond the message counts as 0; messages with these are
-- refused by tests 6 to 13. What a 50.4 holds is said in the crate clients.
-- Tested by: proofs/Bench.antt of the crate reader.
-- Trusts: nothing.
use Rattle.std.specs.Prelude.{ℕ, ◌+◌, cond, List, get_or, set, take, drop, replicate, eqb, ltb, leb}
use Rattle.numbers.specs.Numbers.{number_at}
use Rattle.wire.specs.Bytes.{pasted}
use Rattle.table.specs.Table.{empty_rule}
use Rattle.table.specs.declared.Rule.{Rule}
use Rattle.children.specs.Rows.{row_inside, row_fold, type_at}
use Rattle.clients.specs.Clients.{clients_in}
use Rattle.clients.specs.declared.Clients.{Clients}

abbrev pub with_number : ℕ → Rule → Rule
with_number v q =
    record { number = v; priority = q.priority; ucidcount = q.ucidcount; clientcount = q.clientcount; numbercount = q.numbercount; ucids = q.ucids; numbers = q.numbers; tunnel = q.tunnel; clients = q.clients }

abbrev pub with_priority : ℕ → Rule → Rule
with_priority v q =
    record { number = q.number; priority = v; ucidcount = q.ucidcount; clientcount = q.clientcount; numbercount = q.numbercount; ucids = q.ucids; numbers = q.numbers; tunnel = q.tunnel; clients = q.clients }

-- as many UCIDs as the value has bytes, and 0 behind them; a list that is too long is passed over
unfoldable pub with_ucids : List ℕ → ℕ → Rule → Rule
with_ucids value len q =
    cond (leb len 16)
    (record { number = q.number; priority = q.priority; ucidcount = len; clientcount = q.clientcount; numbercount = q.numbercount; ucids = pasted (replicate 16 0) 0 value; numbers = q.numbers; tunnel = q.tunnel; clients = q.clients })
    q

abbrev pub with_clients : Clients → Rule → Rule
with_clients so q =
    record { number = q.number; priority = q.priority; ucidcount = q.ucidcount; clientcount = so.count; numbercount = q.numbercount; ucids = q.ucids; numbers = q.numbers; tunnel = q.tunnel; clients = so.list }

abbrev pub with_tunnel : ℕ → Rule → Rule
with_tunnel v q =
    record { number = q.number; priority = q.priority; ucidcount = q.ucidcount; clientcount = q.clientcount; numbercount = q.numbercount; ucids = q.ucids; numbers = q.numbers; tunnel = v; clients = q.clients }

-- one more classifier number; a full list stays
unfoldable pub with_named : ℕ → Rule → Rule
with_named v q =
    cond (ltb q.numbercount 8)
    (record { number = q.number; priority = q.priority; ucidcount = q.ucidcount; clientcount = q.clientcount; numbercount = q.numbercount + 1; ucids = q.ucids; numbers = set q.numbers q.numbercount v; tunnel = q.tunnel; clients = q.clients })
    q

unfoldable pub with_rule_child : List ℕ → ℕ → ℕ → Rule → Rule
with_rule_child msg at len q =
    cond (eqb (type_at msg at) 1) (with_number (get_or msg (at + 2) 0) q)
    (cond (eqb (type_at msg at) 2) (with_priority (get_or msg (at + 2) 0) q)
    (cond (eqb (type_at msg at) 3) (with_ucids (take len (drop (at + 2) msg)) len q)
    (cond (eqb (type_at msg at) 4) (with_clients (clients_in msg (at + 2) (at + 2 + len)) q)
    (cond (eqb (type_at msg at) 5) (with_tunnel (number_at 6 msg (at + 2)) q)
    (cond (eqb (type_at msg at) 6) (with_named (number_at 2 msg (at + 2)) q)
    q)))))

unfoldable pub rule_at : List ℕ → ℕ → Rule
rule_at msg at = row_fold (with_rule_child msg) (row_inside msg at) empty_rule
