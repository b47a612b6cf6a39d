-- `collector::collect` gives `collect_step`: what its callees ensure is put together by the laws of LawsStep.
-- Trusts: nothing.
use Rattle.std.proofs.Common.{◌≡◌, ℕ, sym, ◌∙◌, arith, Result, Ok}
use lib.ListN.{length-drop}
use Rattle.refusals.specs.declared.Refusal.{Refusal}
use Rattle.relation.specs.Relation.{repeats}
use Rattle.body_tests.specs.Refusals.{refused_by}
use Rattle.body_tests.proofs.Laws.{fits_of, refusal_of-room, refused_some}
use Rattle.collector.specs.Step.{relation_of}
use Rattle.collector.proofs.LawsStep.{base, relation_by, base_goes_on, base-anew, base_of_number, base_of_short, step_refused, step_again, step_stored}
use Rattle.collector.proofs.collect.Goals as goal
use Rattle.collector.proofs.collect.Goals.{in-GoesOn, in-Anew}

-- nothing is refused
passed : {x : Result (Unit {0}) Refusal} {n : ℕ} (y : Unit {0}) → x ≡ Ok y → refused_by x ≡ n → n ≡ 0
passed y e g = rw e at (sym g)

pub returns-in-Err : goal.returns-in-Err
returns-in-Err c = step_refused _ _ _ _ _ (omega (arith, c.in-Err.ensures)) (λ z. refused_some c.in-Err.refusal (omega arith))

pub read_parts-piece-requires : goal.read_parts-piece-requires
read_parts-piece-requires c = fits_of _ (refusal_of-room _ _ _ (passed _ c.in_default.is c.refuse.ensures)).2

pub returns-in-Repeats : goal.returns-in-Repeats
returns-in-Repeats c =
    step_again _ _ _ _ (passed _ c.in_default.is c.refuse.ensures) (relation_by _ _ _ c.read_parts-piece.ensures c.in-Repeats.ensures)

pub accept-requires : goal.accept-requires
accept-requires c =
    let a = c.args in
    let ok = passed _ c.in_default.is c.refuse.ensures in
    let room = refusal_of-room _ _ _ ok in
    let fits = fits_of _ room.2 in
    let of' = c.read_parts-piece.ensures in
    let begun : c.match-relate.begun ≡ base a.held a.slots.now a.body.now = elim c.match-relate.branch [
      | in-GoesOn w ↦ w.begun-is ∙ base_goes_on _ _ _ of' w.in-GoesOn.ensures
      | in-Anew w ↦ w.begun-is ∙ w.begin-begun.ensures ∙ base-anew _ _ _ of' w.in-Anew.ensures
    ] in
    record {
      slot = (omega arith, rw of'.rest (omega (arith, length-drop 3 a.body.now)));
      room = (rw begun (omega (arith, fits, base_of_number a.held a.slots.now a.body.now)), room.1);
      short = rw begun (base_of_short a.held a.slots.now a.body.now);
    }

pub returns : goal.returns
returns c =
    let a = c.args in
    let of' = c.read_parts-piece.ensures in
    let begun : c.match-relate.begun ≡ base a.held a.slots.now a.body.now = elim c.match-relate.branch [
      | in-GoesOn w ↦ w.begun-is ∙ base_goes_on _ _ _ of' w.in-GoesOn.ensures
      | in-Anew w ↦ w.begun-is ∙ w.begin-begun.ensures ∙ base-anew _ _ _ of' w.in-Anew.ensures
    ] in
    let other : relation_of a.held a.slots.now a.body.now ≡ repeats → ⊥ = λ e. elim c.match-relate.branch [
      | in-GoesOn w ↦ omega (arith, relation_by _ _ _ of' w.in-GoesOn.ensures)
      | in-Anew w ↦ omega (arith, relation_by _ _ _ of' w.in-Anew.ensures)
    ] in
    rw (begun, of'.slotted, of'.rest) at c.accept.ensures ∙ step_stored _ _ _ _ (passed _ c.in_default.is c.refuse.ensures) other
