-- `clients::is_client` gives is_client.
-- Trusts: nothing.
use borrow.Author.Tests.{lt-ltb, le-ltb, lt-leb}
use Rattle.clients.specs.Clients.{is_client}
use Rattle.clients.proofs.is_client.Goals as goal

pub returns-then-kind-le4 : goal.returns-then-kind-le4
unfolding is_client
returns-then-kind-le4 c = simp (le-ltb _ _ c.if-kind-le4.true)

pub returns-else-kind-le4 : goal.returns-else-kind-le4
unfolding is_client
returns-else-kind-le4 c = simp (lt-ltb _ _ c.if-kind-le4.false, lt-leb _ _ c.if-kind-le4.false)
