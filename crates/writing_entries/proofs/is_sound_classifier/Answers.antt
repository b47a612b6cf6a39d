-- `writing_entries::is_sound_classifier` gives sound_classifier: the number, and each of the four parts.
-- Trusts: nothing.
use Rattle.writing_entries.specs.Entries.{sound_classifier}
use Rattle.writing_entries.proofs.is_sound_classifier.Goals as goal

pub returns : goal.returns
unfolding sound_classifier
returns c =
    simp (c.is_sound_part-end.ensures, c.is_sound_part-start.ensures, c.is_sound_part-mask.ensures, c.is_sound_part-source.ensures)
