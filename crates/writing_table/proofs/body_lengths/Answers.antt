-- `writing_table::body_lengths` gives the lengths with their heads. The loop's invariant: the first k places hold those of the first k pieces,
-- the others 0.
-- Trusts: nothing.
use Prim.Native.Nat.{◌+◌}
use mathlib.Core.Path.{◌≡◌, refl, ap, ◌∙◌}
use native.Mathlib.Omega.{arith}
use borrow.Author.Rules.{rules}
use lib.ListN.{length, set, get_or}
use Rattle.table.specs.Table.{padded}
use Rattle.writing_table.proofs.Parts.{lengths-more}
use Rattle.writing_table.proofs.body_lengths.Goals as goal

pub loop-k-init : goal.loop-k-init
unfolding padded
loop-k-init c = (omega arith, refl)

pub loop-k-preserved : goal.loop-k-preserved
loop-k-preserved c =
    let a = c.args in
    let k = c.loop-k.k in
    let size : length a.pieces ≡ 16 = search rules in
    (omega arith, ap (λ l. set l k (get_or a.pieces k 0 + 3)) c.loop-k.invariant.1 ∙ lengths-more a.pieces k size (omega (arith, c.requires.0)))
