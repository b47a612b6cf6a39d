-- `reader::take_up`: its answer is a refusal of the message or a table of which 15 is left. What the loop keeps is in Invariants.antt; each arm
-- of its turn is a law of LawsArms.
-- Trusts: nothing.
use Rattle.std.proofs.lemmas.Result.{err_from_is_err_and}
use native.Mathlib.Omega.{arith}
use Rattle.reader.proofs.LawsTaking.{taking_empty, takes_all}
use Rattle.reader.proofs.LawsTurn.{turn_refused, turn_less}
use Rattle.reader.proofs.LawsArms.{rule_taken, rule-put, rule_left, classifier_taken, classifier-put, classifier_left, taking_configuration, taking_other}
use Rattle.reader.proofs.take_up.Goals as goal
use Rattle.reader.proofs.take_up.Goals.{in-50+in_ok-place-in-50+in-Some, in-50+in_ok-place-in-50+in_default-place, in-23+in_ok-place-in-23+in-Some-place, in-23+in_ok-place-in-23+in_default-place-2, in-51, in_default}

pub loop-here-init : goal.loop-here-init
loop-here-init c = taking_empty _ c.empty_table-table.ensures c.empty_tally-tally.ensures

-- a refusal of 6 to 13
pub returns-in_err-next : goal.returns-in_err-next
returns-in_err-next c =
    let p = err_from_is_err_and c.from_residual.result c.from_residual.ensures.1 in
    rw (p.1, p.2) (turn_refused c.loop-here.invariant c.loop-here-test.true _ c.in_err-next.ensures)

-- the number of a rule or of a classifier is taken, 14
pub returns-in_err-place-in-50 : goal.returns-in_err-place-in-50
returns-in_err-place-in-50 c =
    let p = err_from_is_err_and c.from_residual-in_err-place-in-50.result c.from_residual-in_err-place-in-50.ensures.1 in
    rw (p.1, p.2) (rule_taken c.loop-here.invariant c.loop-here-test.true _ c.in_ok-next.ensures c.in-50.is c.rule_at-rule.ensures c.place_for.new.list _ c.in_err-place-in-50.ensures)

pub returns-in_err-place-in-23 : goal.returns-in_err-place-in-23
returns-in_err-place-in-23 c =
    let p = err_from_is_err_and c.from_residual-in_err-place-in-23.result c.from_residual-in_err-place-in-23.ensures.1 in
    rw (p.1, p.2) (classifier_taken c.loop-here.invariant c.loop-here-test.true _ c.in_ok-next.ensures c.in-23.is c.classifier_at-classifier.ensures c.place_for-in-23.new.list _ c.in_err-place-in-23.ensures)

pub loop-here-smaller : goal.loop-here-smaller
loop-here-smaller c = turn_less c.loop-here.invariant c.loop-here-test.true _ c.in_ok-next.ensures

pub loop-here-preserved : goal.loop-here-preserved
loop-here-preserved c =
    let k = c.loop-here.invariant in
    let inside = c.loop-here-test.true in
    let next = c.in_ok-next.ensures in
    elim c.match-message-here.branch [
      | in-50+in_ok-place-in-50+in-Some w ↦
          rw (w.table-is, w.ruleids-is, w.carried-is, w.configured-is)
          (rule-put k inside _ next w.in-50.is w.rule_at-rule.ensures _ (rw w.in-Some.is at w.in_ok-place-in-50.ensures))
      | in-50+in_ok-place-in-50+in_default-place w ↦
          rw (w.table-is, w.ruleids-is, w.carried-is, w.configured-is)
          (rule_left k inside _ next w.in-50.is w.rule_at-rule.ensures _ (rw w.in_default-place.is at w.in_ok-place-in-50.ensures))
      | in-23+in_ok-place-in-23+in-Some-place w ↦
          rw (w.table-is, w.ruleids-is, w.carried-is, w.configured-is)
          (classifier-put k inside _ next w.in-23.is w.classifier_at-classifier.ensures _ (rw w.in-Some-place.is at w.in_ok-place-in-23.ensures))
      | in-23+in_ok-place-in-23+in_default-place-2 w ↦
          rw (w.table-is, w.ruleids-is, w.carried-is, w.configured-is)
          (classifier_left k inside _ next w.in-23.is w.classifier_at-classifier.ensures _ (rw w.in_default-place-2.is at w.in_ok-place-in-23.ensures))
      | in-51 w ↦
          rw (w.table-is, w.ruleids-is, w.carried-is, w.configured-is) (taking_configuration k inside _ next w.in-51.is)
      | in_default w ↦
          rw (w.table-is, w.ruleids-is, w.carried-is, w.configured-is)
          (taking_other k inside _ next (λ z. omega arith) (λ z. omega arith) (λ z. omega arith))
    ]

pub returns : goal.returns
returns c = takes_all _ c.loop-here.table c.loop-here.configured c.loop-here.invariant c.loop-here-test.false
