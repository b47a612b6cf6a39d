-- `listed::is_listed` gives is_among. The loop keeps that its mark says whether the number is among the places passed.
-- Trusts: nothing.
use Rattle.std.proofs.Common.{◌≡◌, ◌≤◌}
use Rattle.listed.specs.Listed.{is_among}
use Rattle.listed.proofs.is_listed.Given as goal

abbrev pub invariant-loop-i : goal.invariant-loop-i
invariant-loop-i l = (l.end ≤ 32) × (l.listed ≡ is_among l.number l.i l.list)
