-- `writing_entries::is_unused_classifier` gives unused_classifier.
-- Trusts: nothing.
use mathlib.Core.Path.{refl}
use Rattle.writing_entries.specs.Entries.{unused_classifier}
use Rattle.writing_entries.proofs.is_unused_classifier.Goals as goal

pub returns : goal.returns
unfolding unused_classifier
returns c = refl
