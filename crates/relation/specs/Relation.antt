-- Relation: how a piece stands to what is held (document 01, "Collecting pieces").
--
--   goes_on, repeats, anew      the three answers
--   related answer              which of them an answer is
--   relation_to r slots count number k piece    the answer for a piece of a message of this count and number that belongs in slot k:
--                              goes_on where the record holds that collection and the slot is empty, repeats where the slot has these
--                              bytes, else anew
--
-- Any record, buffer and slot have a meaning: what a record holds is said in specs/ of held, and a slot beyond the sixteenth is empty.
-- Tested by: the bench example in proofs/Bench.antt of collector_demands; runs of bodies against the other program in host/.
-- Trusts: nothing.
use Rattle.std.specs.Prelude.{ℕ, cond, List, get_or}
use Rattle.compare.specs.Compare.{same_bytes}
use Rattle.collection.specs.declared.Collection.{Collection}
use Rattle.held.specs.Held.{is_filled, is_of}
use Rattle.joining.specs.Pieces.{piece_at}
use Rattle.relation.specs.declared.Relation.{Relation}
use Rattle.relation.specs.declared.Relation.TheVariants.{GoesOn, Repeats, Anew}

abbrev pub goes_on : ℕ
goes_on = 0

abbrev pub repeats : ℕ
repeats = 1

abbrev pub anew : ℕ
anew = 2

abbrev pub related : Relation → ℕ
related GoesOn = goes_on
related Repeats = repeats
related Anew = anew

unfoldable pub relation_to : Collection → List ℕ → ℕ → ℕ → ℕ → List ℕ → ℕ
relation_to r slots count number k piece =
    cond (is_of r count number)
    (cond (is_filled (get_or r.filled k 0))
    (cond (same_bytes (piece_at slots r.lengths k) piece) repeats anew) goes_on) anew
