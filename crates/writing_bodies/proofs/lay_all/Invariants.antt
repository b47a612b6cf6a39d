-- `writing_bodies::lay_all` lays every body (`Laying`).
-- Trusts: nothing.
use Rattle.std.proofs.Common.{take}
use Rattle.table.specs.Table.{limited_to}
use Rattle.writing_bodies.proofs.Turn.{Laying}
use Rattle.writing_bodies.proofs.lay_all.Given as goal

abbrev pub invariant-loop-k : goal.invariant-loop-k
invariant-loop-k l = Laying l.count l.number (take (limited_to 16 l.number) l.fn.lengths) l.message l.initial.out l.out l.from l.k
