-- `musts::lacks_between` says whether a must is missing. The loop keeps that from `place` on one is missing where one is from `from` on.
-- Trusts: nothing.
use Rattle.std.proofs.Common.{◌≡◌, ◌-◌}
use Rattle.musts.specs.Musts.{lacks_in}
use Rattle.musts.proofs.lacks_between.Given as goal

abbrev pub invariant-loop-place : goal.invariant-loop-place
invariant-loop-place l = lacks_in l.from l.place (l.after - l.place) l.counts ≡ lacks_in l.from l.from (l.after - l.from) l.counts
