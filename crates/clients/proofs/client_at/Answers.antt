-- `clients::client_at` gives client_at: each return is one way through its tests.
-- Trusts: nothing.
use borrow.Author.Tests.{eq-eqb, ne_eqb}
use Rattle.clients.specs.Clients.{client_at}
use Rattle.clients.proofs.client_at.Goals.{else-kind-eq1-via-then-kind-eq1+else-len-eq0, else-kind-eq1-via-else-kind-eq1}
use Rattle.clients.proofs.client_at.Goals as goal

pub returns-then-kind-eq2 : goal.returns-then-kind-eq2
unfolding client_at
returns-then-kind-eq2 c = simp (eq-eqb _ _ c.if-kind-eq2.true, c.number6-mac.ensures)

pub returns-then-len-eq0 : goal.returns-then-len-eq0
unfolding client_at
returns-then-len-eq0 c = simp (ne_eqb _ _ c.if-kind-eq2.false, eq-eqb _ _ c.if-kind-eq1.true, c.if-len-eq0.true)

-- a broadcast of two bytes, or another kind
pub returns : goal.returns
unfolding client_at
returns c =
    elim c.else-kind-eq1.branch [
      | else-kind-eq1-via-then-kind-eq1+else-len-eq0 w ↦ simp (w.if-kind-eq1.true, ne_eqb _ _ w.if-len-eq0.false, c.number2-number.ensures)
      | else-kind-eq1-via-else-kind-eq1 w ↦ simp (ne_eqb _ _ c.if-kind-eq2.false, ne_eqb _ _ w.if-kind-eq1.false, c.number2-number.ensures)
    ]
