-- `writing_entries::is_sound_part` gives sound_part: absent, or present.
-- Trusts: nothing.
use borrow.Author.Tests.{eq-eqb, ne_eqb}
use Rattle.writing_entries.specs.Entries.{sound_part}
use Rattle.writing_entries.proofs.is_sound_part.Goals as goal

pub returns-then-mark-eq0 : goal.returns-then-mark-eq0
unfolding sound_part
returns-then-mark-eq0 c = simp (eq-eqb _ _ c.if-mark-eq0.true)

pub returns : goal.returns
unfolding sound_part
returns c = simp (ne_eqb _ _ c.if-mark-eq0.false)
