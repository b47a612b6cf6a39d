-- `writing_clients::put_each` has `writing_numbers::put_each` write `client_bytes` of each client ID.
-- Trusts: nothing.
use Rattle.writing_elements.specs.Encode.{client_bytes}
use Rattle.writing_clients.proofs.put_each.Given as goal

abbrev pub ghost-put_each : goal.ghost-put_each
ghost-put_each a = client_bytes
