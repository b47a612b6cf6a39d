-- `writing_clients::put_client` writes a client ID: each return is one of its forms.
-- Trusts: nothing.
use Rattle.std.proofs.Common.{arith}
use Rattle.writing_clients.proofs.Clients.{client-all, client-mac, client-other}
use Rattle.writing_clients.proofs.put_client.Goals as goal

-- a broadcast of length 0
pub returns-in-0 : goal.returns-in-0
returns-in-0 c = client-all _ c.requires c.in-0.is c.put_number.ensures

-- a MAC
pub returns-in-2 : goal.returns-in-2
returns-in-2 c = client-mac _ c.requires c.in-2.is c.put_number-in-2.ensures

-- any other kind
pub returns-in_default : goal.returns-in_default
returns-in_default c = client-other _ c.requires (λ z. omega arith) (λ z. omega arith) c.put_number-in_default.ensures
