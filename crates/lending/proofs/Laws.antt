-- Laws of the step with the message lent (specs/Lent.antt).
--
--   step_lent        what the code lends, as the step has it
--   lent_at_front     the lent part of the join buffer stands at the start of the buffer that is lent back
-- Trusts: nothing.
use Prim.Native.Nat.{ℕ}
use mathlib.Core.Path.{◌≡◌, refl}
use mathlib.Core.List.{List}
use lib.ListN.{length, take}
use Rattle.collector.specs.Step.{After, collect_step}
use Rattle.collection.specs.declared.Collection.{Collection}
use Rattle.wire.specs.Parts.{Part, part}
use Rattle.messages.specs.Place.{own_part, joined_part}
use Rattle.messages.proofs.Laws.{own_part-bytes, joined_part-bytes, joined_of-front, joined_part-at}
use Rattle.lending.specs.Lent.{lent_step, LentAt, lent_at}

pub step_lent : (r : Collection) (slots : List ℕ) (join body : Part) (R : After) (own x whole : Part) → R ≡ collect_step r slots join.bytes body.bytes
    → own ≡ own_part R.answer R.held.number body → x ≡ joined_part R.answer R.held.number (part join.at R.join) → whole ≡ part join.at R.join
    → ◌≡◌ {A = LentAt} (record {
      after = record { answer = R.answer; held = R.held; slots = R.slots; own = own.bytes; joined = x.bytes; join = whole.bytes };
      own = own.at;
      joined = x.at;
      join = whole.at;
    }) (lent_at r slots join body)
unfolding lent_at lent_step
step_lent r slots join body R own x whole e f g h =
    rw (← e, f, g, h, own_part-bytes R.answer R.held.number body, joined_part-bytes R.answer R.held.number (part join.at R.join)) refl

pub lent_at_front : (r : Collection) (slots : List ℕ) (join body : Part)
    → (let x = lent_at r slots join body in (x.joined ≡ x.join) × (take (length x.after.joined) x.after.join ≡ x.after.joined))
unfolding lent_at lent_step
lent_at_front r slots join body =
    let a = collect_step r slots join.bytes body.bytes in
    (joined_part-at a.answer a.held.number (part join.at a.join), joined_of-front a.answer a.held.number a.join)
