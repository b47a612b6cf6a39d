-- `choice::admits_ucid` gives `admits_ucid`: no known UCID, no list, then the list.
-- Trusts: nothing.
use borrow.Author.Tests.{eq-eqb, ne_eqb}
use Rattle.choice.specs.Choose.{admits_ucid}
use Rattle.choice.proofs.admits_ucid.Goals as goal

pub returns-in-None : goal.returns-in-None
unfolding admits_ucid
returns-in-None c = rw c.in-None.is

pub returns-then-rule-eq0 : goal.returns-then-rule-eq0
unfolding admits_ucid
returns-then-rule-eq0 c = rw (c.in-Some.is, eq-eqb _ _ c.if-rule-eq0.true)

pub returns-else-rule-eq0 : goal.returns-else-rule-eq0
unfolding admits_ucid
returns-else-rule-eq0 c = rw (c.in-Some.is, ne_eqb _ _ c.if-rule-eq0.false) c.lists_ucid.ensures
