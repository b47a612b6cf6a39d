-- The cycle of calls {element, row_from}, whose measures and loop are in Invariants.antt. Each return is one law of Ways.
-- Trusts: nothing.
use Rattle.std.proofs.Common.{arith, length, refl, sym, ap, ◌∙◌}
use Rattle.std.proofs.lemmas.List.{set-get_or}
use Rattle.std.proofs.lemmas.Result.{err_from_is_err_and}
use lib.ListN.{length-set}
use lib.Seq.{set_out}
use Rattle.refusals.specs.Refusals.{number_of}
use Rattle.refusals.proofs.Only.{number_of-some}
use Rattle.types.proofs.Columns.{found_listed, found_unlisted}
use Rattle.types.proofs.LawsTypes.{type_under-list}
use Rattle.elements.proofs.Laws.{head_at-fits}
use Rattle.elements.proofs.Stood.{stood_value, stood_end, stood_refused}
use Rattle.element_tests.specs.Tests.{stepped}
use Rattle.element_tests.specs.Stepped.{step_of}
use Rattle.rows.specs.Rows.{noted}
use Rattle.rows.specs.Told.{fault_of, fault_in}
use Rattle.rows.proofs.Told.{fault_fine}
use Rattle.rows.proofs.Ways.{row_ends, row-bad, row-stops, row_goes, elem_unlisted, elem_own, elem_leaf, elem_inner, elem_row}
use Rattle.rows.proofs.+element_row_from.Goals as goal
use Rattle.rows.proofs.+element_row_from.Goals.{element-then-is_row+in_ok-row_from, element-else-is_row}

-- the type is not listed
pub element-returns-in_default-clause-fault : goal.element-returns-in_default-clause-fault
unfolding fault_of
element-returns-in_default-clause-fault t c = ap fault_in (elem_unlisted _ _ _ _ _ (found_unlisted _ c.in_default.ensures))

pub element-returns-in_default-clause-counted : goal.element-returns-in_default-clause-counted
element-returns-in_default-clause-counted t c =
    sym (set_out _ 8 0 (omega arith)) ∙ ap (noted c.args.counts.now) (elem_unlisted _ _ _ _ _ (found_unlisted _ c.in_default.ensures))

pub element-bounds-counts-list : goal.element-bounds-counts-list
element-bounds-counts-list t c = type_under-list _ _ (found_listed _ _ c.in-Some.ensures).0

-- its own tests refuse it
pub element-returns-in-Err-clause-fault : goal.element-returns-in-Err-clause-fault
unfolding fault_of step_of
element-returns-in-Err-clause-fault t c =
    let found = found_listed _ _ c.in-Some.ensures in
    ap fault_in (elem_own _ _ _ _ _ {known = c.in-Some.known} {own = stepped (number_of c.in-Err.refusal) _ c.in-Some.known.list _}
    (record { typed = found.0; listed = found.1; tests = c.in-Err.ensures }) (number_of-some _))

pub element-returns-in-Err-clause-counted : goal.element-returns-in-Err-clause-counted
unfolding step_of
element-returns-in-Err-clause-counted t c =
    let found = found_listed _ _ c.in-Some.ensures in
    sym (set-get_or c.args.counts.now c.in-Some.known.list 0)
    ∙ ap (noted c.args.counts.now) (elem_own _ _ _ _ _ {known = c.in-Some.known} {own = stepped (number_of c.in-Err.refusal) _ c.in-Some.known.list _}
    (record { typed = found.0; listed = found.1; tests = c.in-Err.ensures }) (number_of-some _))

pub element-row_from-requires : goal.element-row_from-requires
element-row_from-requires t c = omega arith

-- the row in it is refused
pub element-returns-in_err-row_from-clause-fault : goal.element-returns-in_err-row_from-clause-fault
unfolding fault_of step_of
element-returns-in_err-row_from-clause-fault t c =
    let found = found_listed _ _ c.in-Some.ensures in
    let p = err_from_is_err_and c.from_residual.result c.from_residual.ensures.1 in
    rw (p.1, p.2) (ap fault_in (elem_inner _ _ _ _ _ {known = c.in-Some.known} {own = stepped 0 _ c.in-Some.known.list c.in-Ok.count}
    (record { typed = found.0; listed = found.1; tests = c.in-Ok.ensures }) refl c.is_row.ensures c.if-is_row.true c.in_err-row_from.ensures (number_of-some _)))

pub element-returns-in_err-row_from-clause-counted : goal.element-returns-in_err-row_from-clause-counted
unfolding fault_of step_of
element-returns-in_err-row_from-clause-counted t c =
    let found = found_listed _ _ c.in-Some.ensures in
    sym (set-get_or c.args.counts.now c.in-Some.known.list 0)
    ∙ ap (noted c.args.counts.now) (elem_inner _ _ _ _ _ {known = c.in-Some.known} {own = stepped 0 _ c.in-Some.known.list c.in-Ok.count}
    (record { typed = found.0; listed = found.1; tests = c.in-Ok.ensures }) refl c.is_row.ensures c.if-is_row.true c.in_err-row_from.ensures (number_of-some _))

pub element-bounds-counts-list-2 : goal.element-bounds-counts-list-2
element-bounds-counts-list-2 t c = type_under-list _ _ (found_listed _ _ c.in-Some.ensures).0

-- it is fine
pub element-returns-clause-fault : goal.element-returns-clause-fault
unfolding fault_of step_of
element-returns-clause-fault t c =
    let found = found_listed _ _ c.in-Some.ensures in
    ap fault_in (elim c.if-is_row.branch [
      | element-then-is_row+in_ok-row_from w ↦
          elem_row _ _ _ _ _ {known = c.in-Some.known} {own = stepped 0 _ c.in-Some.known.list c.in-Ok.count}
          (record { typed = found.0; listed = found.1; tests = c.in-Ok.ensures }) refl c.is_row.ensures w.if-is_row.true w.in_ok-row_from.ensures refl
      | element-else-is_row w ↦
          elem_leaf _ _ _ _ _ {known = c.in-Some.known} {own = stepped 0 _ c.in-Some.known.list c.in-Ok.count}
          (record { typed = found.0; listed = found.1; tests = c.in-Ok.ensures }) refl c.is_row.ensures w.if-is_row.false
    ])

pub element-returns-clause-counted : goal.element-returns-clause-counted
unfolding fault_of step_of
element-returns-clause-counted t c =
    let found = found_listed _ _ c.in-Some.ensures in
    ap (noted c.args.counts.now) (elim c.if-is_row.branch [
      | element-then-is_row+in_ok-row_from w ↦
          elem_row _ _ _ _ _ {known = c.in-Some.known} {own = stepped 0 _ c.in-Some.known.list c.in-Ok.count}
          (record { typed = found.0; listed = found.1; tests = c.in-Ok.ensures }) refl c.is_row.ensures w.if-is_row.true w.in_ok-row_from.ensures refl
      | element-else-is_row w ↦
          elem_leaf _ _ _ _ _ {known = c.in-Some.known} {own = stepped 0 _ c.in-Some.known.list c.in-Ok.count}
          (record { typed = found.0; listed = found.1; tests = c.in-Ok.ensures }) refl c.is_row.ensures w.if-is_row.false
    ])

pub row_from-loop-counts-init : goal.row_from-loop-counts-init
row_from-loop-counts-init t c = record { begun = omega arith; lists = refl; rest = refl }

pub row_from-returns-in-Ok-None : goal.row_from-returns-in-Ok-None
row_from-returns-in-Ok-None t c =
    row_ends _ _ _ _ _ _ c.read_head.ensures (stood_end c.in-Ok-None.is c.in-Ok-None.field-0-is) c.row_end.ensures ∙ c.loop-counts.invariant.rest

pub row_from-returns-in-Err : goal.row_from-returns-in-Err
unfolding fault_of
row_from-returns-in-Err t c =
    row-bad _ _ _ _ _ _ c.read_head.ensures (stood_refused c.in-Err.is) ∙ c.loop-counts.invariant.rest

-- the value lies in the row and in the message
pub row_from-element-requires : goal.row_from-element-requires
row_from-element-requires t c =
    let fits = head_at-fits _ _ _ (sym c.read_head.ensures ∙ stood_value c.in-Ok-Some.is c.in-Ok-Some.field-0-is) in
    (omega (arith, fits, c.loop-counts.invariant.begun), fits.1)

-- a child that is refused
pub row_from-returns-in-Err-element : goal.row_from-returns-in-Err-element
row_from-returns-in-Err-element t c =
    row-stops _ _ _ _ _ _ c.read_head.ensures (stood_value c.in-Ok-Some.is c.in-Ok-Some.field-0-is) refl _ c.in-Err-element.ensures.fault
    ∙ c.loop-counts.invariant.rest

pub row_from-overflow_add-at : goal.row_from-overflow_add-at
row_from-overflow_add-at t c =
    let fits = head_at-fits _ _ _ (sym c.read_head.ensures ∙ stood_value c.in-Ok-Some.is c.in-Ok-Some.field-0-is) in
    omega (arith, fits)

pub row_from-overflow_add-at-in-Ok-Some : goal.row_from-overflow_add-at-in-Ok-Some
row_from-overflow_add-at-in-Ok-Some t c =
    let fits = head_at-fits _ _ _ (sym c.read_head.ensures ∙ stood_value c.in-Ok-Some.is c.in-Ok-Some.field-0-is) in
    omega (arith, fits)

pub row_from-loop-counts-smaller : goal.row_from-loop-counts-smaller
row_from-loop-counts-smaller t c =
    let fits = head_at-fits _ _ _ (sym c.read_head.ensures ∙ stood_value c.in-Ok-Some.is c.in-Ok-Some.field-0-is) in
    omega (arith, fits)

pub row_from-loop-counts-preserved : goal.row_from-loop-counts-preserved
row_from-loop-counts-preserved t c = record {
  begun = omega (arith, c.loop-counts.invariant.begun);
  lists = ap length c.in_default.ensures.counted ∙ simp length-set c.loop-counts.invariant.lists;
  rest = row_goes _ _ _ _ _ _ c.read_head.ensures (stood_value c.in-Ok-Some.is c.in-Ok-Some.field-0-is) refl
      (fault_fine _ c.in_default.ensures.fault)
      c.in_default.ensures.counted
      ∙ c.loop-counts.invariant.rest;
}
