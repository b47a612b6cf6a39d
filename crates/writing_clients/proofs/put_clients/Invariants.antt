-- `writing_clients::put_clients` has `put_element` write the client IDs of a rule.
-- Trusts: nothing.
use Rattle.table.specs.Table.{clients_of}
use Rattle.table.specs.declared.Rule.{Rule}
use Rattle.texts.specs.Text.{each}
use Rattle.writing_elements.specs.Encode.{client_bytes}
use Rattle.writing_clients.proofs.put_clients.Given as goal

abbrev pub ghost-put_element : goal.ghost-put_element
ghost-put_element a = λ (q : Rule). each client_bytes (clients_of q)
