-- `writing_entries::places_fit` goes over all places, and keeps Passed.
-- Trusts: nothing.
use Rattle.std.proofs.Common.{refl}
use Rattle.writing_entries.proofs.Places.{passed_none}
use Rattle.writing_entries.proofs.places_fit.Goals as goal

pub loop-j-init : goal.loop-j-init
loop-j-init g c = λ sound unused h. passed_none refl
