-- `writing_classifiers::put_part` writes `part`: nothing where the mark is 0, else an element with a number.
-- Trusts: nothing.
use Rattle.writing_classifiers.proofs.Parts.{part-absent, part-present}
use Rattle.writing_classifiers.proofs.put_part.Goals as goal

-- absent
pub returns-then-mark-eq0 : goal.returns-then-mark-eq0
returns-then-mark-eq0 c = let a = c.args in part-absent a.mark a.kind a.width a.n c.if-mark-eq0.true

-- present
pub returns : goal.returns
returns c = let a = c.args in part-present a.mark a.kind a.width a.n c.if-mark-eq0.false c.requires c.put_number.ensures
