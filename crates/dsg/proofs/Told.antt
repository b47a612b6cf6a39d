-- Told: the part that a host finds by the start and the length of an answer is the part that is lent back in Rattle.
--
--   payload-told   the payload of a verdict on a frame
--   body_told, join-told   the message that a body completes: from the body, whose piece is all of it, and from the join buffer
-- Trusts: nothing.
use Prim.Native.Nat.{ℕ, ◌-◌}
use mathlib.Core.Path.{◌≡◌, refl}
use mathlib.Core.Bool.{false}
use mathlib.Core.List.{List}
use lib.ListN.{length, take, drop}
use lib.Dec.{eqb}
use Rattle.wire.proofs.Laws.{rest_all}
use Rattle.collector.specs.Answers.{complete, lent_of}
use Rattle.payloads.specs.Judged.{Verdict, Refused, Other, Forward, Filtered}
use Rattle.payloads.specs.Payload.{payload_range, payload_of}
use Rattle.dsg_pieces.specs.Bodies.{collected_of}
use Rattle.dsg_frames.specs.Frames.{verdict_as}

pub payload-told : (v : Verdict) (frame : List ℕ) → take (verdict_as v (length frame)).length (drop (verdict_as v (length frame)).start frame) ≡ payload_of v frame
unfolding payload_range
payload-told (Refused k) frame = refl
payload-told Other frame = refl
payload-told (Forward k) frame = refl
payload-told Filtered frame = refl

pub body_told : (body join : List ℕ)
    → take (collected_of (complete (length body - 3)) 1).length (drop (collected_of (complete (length body - 3)) 1).start body) ≡ lent_of (complete (length body - 3)) 1 body join
unfolding lent_of
body_told body join = rest_all body 3

pub join-told : (n number : ℕ) (body join : List ℕ) → eqb number 1 ≡ false
    → take (collected_of (complete n) number).length (drop (collected_of (complete n) number).start join) ≡ lent_of (complete n) number body join
unfolding lent_of
join-told n number body join e = rw e
