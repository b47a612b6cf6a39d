-- `writing_lists::entries_fit` goes over the used places, and keeps Used; then over the others, and keeps Unused.
-- Trusts: nothing.
use Rattle.std.proofs.Common.{◌+◌}
use Rattle.writing_lists.proofs.Numbered.{Used, Unused}
use Rattle.writing_lists.proofs.entries_fit.Given as goal

abbrev pub invariant-loop-i : goal.invariant-loop-i
invariant-loop-i g l = Used g.E.Entry.sound g.E.Entry.number_of l.n l.entries l.ids l.fit l.i

abbrev pub invariant-loop-entry : goal.invariant-loop-entry
invariant-loop-entry g l = Unused g.E.Entry.sound g.E.Entry.unused g.E.Entry.number_of l.n l.entries l.fit (l.n + l.entry-index)
