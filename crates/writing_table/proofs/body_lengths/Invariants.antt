-- `writing_table::body_lengths` gives the lengths with their heads. The loop's invariant: the first k places hold those of the first k pieces,
-- the others 0.
-- Trusts: nothing.
use Prim.Native.Nat.{◌≤◌}
use mathlib.Core.Path.{◌≡◌}
use mathlib.Core.List.{map}
use lib.ListN.{take}
use Rattle.table.specs.Table.{padded}
use Rattle.writing_table.proofs.Parts.{with_head}
use Rattle.writing_table.proofs.body_lengths.Given as goal

abbrev pub invariant-loop-k : goal.invariant-loop-k
invariant-loop-k l = (l.k ≤ l.number) × (l.lengths ≡ padded 16 0 (map with_head (take l.k l.pieces)))
