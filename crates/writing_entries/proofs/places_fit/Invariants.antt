-- `writing_entries::places_fit` goes over all places, and keeps Passed.
-- Trusts: nothing.
use Rattle.std.proofs.Common.{◌≡◌, Bool, cond, length}
use Rattle.writing_entries.proofs.Places.{Passed}
use Rattle.writing_entries.proofs.places_fit.Given as goal

abbrev pub invariant-loop-j : goal.invariant-loop-j
invariant-loop-j g l =
    (sound : _ → Bool) (unused : _ → Bool) → ((is_used : Bool) (x : _) (r : Bool) → goal.F-post g l.fits is_used x r → r ≡ cond is_used (sound x) (unused x))
    → Passed sound unused (length l.places) l.used l.places l.fit l.j
