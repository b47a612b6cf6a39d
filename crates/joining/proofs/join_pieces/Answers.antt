-- `joining::join_pieces` gives `join_step`: a turn joins one piece more.
-- Trusts: nothing.
use Rattle.std.proofs.Common.{◌≡◌, min, length, get_or, refl, ap, ◌∙◌, add-one, arith, rules}
use mir.Syntax.{w16}
use mir.Val.{Fits}
use Rattle.joining.specs.Pieces.{piece_at, joined, joined_into}
use Rattle.joining.proofs.Laws.{piece_lent, length_piece_at_le, joined-more, joined_into-more, join_step-most}
use Rattle.joining.proofs.join_pieces.Goals as goal

pub loop-k-init : goal.loop-k-init
unfolding joined joined_into
loop-k-init c = record { few = omega arith; size = refl; bytes = refl }

pub loop-k-preserved : goal.loop-k-preserved
loop-k-preserved c =
    let a = c.args in
    let k = c.loop-k.k in
    let inv = c.loop-k.invariant in
    let piece : c.piece_in-piece.result.now ≡ piece_at a.slots.now a.lengths k = piece_lent a.slots.now a.lengths k _ c.piece_in-piece.ensures in
    let short : Fits w16 (get_or a.lengths k 0) = search rules in
    record {
      few = omega (arith, short, inv.few, ap length piece, length_piece_at_le a.slots.now a.lengths k);
      size = rw add-one (joined-more a.slots.now a.lengths a.join.now k _ piece _ inv.size);
      bytes = rw add-one (c.copy_at.ensures ∙ joined_into-more a.slots.now a.lengths a.join.now k _ piece _ _ inv.bytes inv.size);
    }

pub returns : goal.returns
returns c =
    let a = c.args in
    let inv = c.loop-k.invariant in
    let long : length a.lengths ≡ 16 = search rules in
    let past : c.loop-k.k ≡ min a.n 16 = omega (arith, c.min-k-end.ensures) in
    rw (inv.size, inv.bytes, past) (join_step-most a.slots.now a.join.now a.lengths a.n long)
