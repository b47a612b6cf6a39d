-- `named::named_place` gives named_place: the j-th 50.6 in the row of the i-th 50, or 0 where no element stands.
-- Trusts: nothing.
use mathlib.Core.Path.{refl}
use Rattle.std.proofs.Common.{length}
use Rattle.children.specs.Rows.{row_in, row_inside}
use Rattle.children.proofs.LawsChildren.{places_same}
use Rattle.named.specs.Named.{named_place}
use Rattle.named.proofs.named_place.Goals as goal

pub returns : goal.returns
unfolding named_place
returns c =
    let msg = c.args.message.now in
    rw
    (c.nth_place.ensures, c.inside.ensures, places_same msg 6 (row_inside msg c.nth_place-rule.result), c.nth_place-rule.ensures, c.children_of-rules.ensures, places_same msg 50 (row_in msg 0 (length msg)))
    refl
