-- `types::place_between` gives the first place with this row and type. The loop keeps that the search from `place` finds what the search from
-- `from` finds.
-- Trusts: nothing.
use Rattle.std.proofs.Common.{◌≡◌, ◌-◌}
use Rattle.types.specs.Places.{place_in}
use Rattle.types.proofs.place_between.Given as goal

abbrev pub invariant-loop-place : goal.invariant-loop-place
invariant-loop-place l = place_in l.place (l.after - l.place) l.parent l.kind ≡ place_in l.from (l.after - l.from) l.parent l.kind
