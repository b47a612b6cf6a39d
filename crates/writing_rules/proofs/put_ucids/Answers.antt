-- `writing_rules::put_ucids` writes the list of UCIDs, or nothing where there is none. The array has its length.
-- Trusts: nothing.
use Rattle.std.proofs.Common.{rules}
use Rattle.table.proofs.Laws.{length_mapped}
use Rattle.writing_rules.proofs.Ucids.{ucids-none, ucids-some}
use Rattle.writing_rules.proofs.put_ucids.Goals as goal

-- none
pub returns-then-n-eq0 : goal.returns-then-n-eq0
returns-then-n-eq0 c = ucids-none c.args.rule c.limited-n.ensures (search (rules, length_mapped)) _ _ c.if-n-eq0.true

-- the list
pub returns : goal.returns
returns c = ucids-some c.args.rule c.limited-n.ensures (search (rules, length_mapped)) _ _ c.if-n-eq0.false c.requires c.copy_at.ensures
