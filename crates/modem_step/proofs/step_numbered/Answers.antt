-- `modem_step::step_numbered` gives `numbered_step`: each return cites the law of its way out. A test that was passed failed, or the event is a Start.
-- Trusts: nothing.
use Rattle.std.proofs.Common.{◌≡◌, false, not, ◌&&◌, eqb, ltb, sym, ◌∙◌}
use Rattle.std.proofs.lemmas.Bool.{and_left, and_right, not_from_true}
use Rattle.refusals.specs.Refusals.{number_of}
use Rattle.modem_record.specs.Record.{counts_idle}
use Rattle.modem_step.specs.Step.{is_back}
use Rattle.modem_step.proofs.Laws.{numbered_step_ignored, numbered_step_back, numbered_step-taken}
use Rattle.modem_step.proofs.step_numbered.Goals as goal
use Rattle.modem_step.proofs.step_numbered.Goals.{else-counts_idle-via-then-counts_idle+else-not-is_start, else-counts_idle-via-else-counts_idle}
use Rattle.modem_step.proofs.step_numbered.Goals.{else-is_back-via-then-is_back+else-not-is_start-2, else-is_back-via-else-is_back}

pub returns-then-not-is_start : goal.returns-then-not-is_start
returns-then-not-is_start c = numbered_step_ignored _ _ _ _ _ _ _ (sym c.is_start.ensures ∙ c.if-not-is_start.true) (sym c.counts_idle.ensures ∙ c.if-counts_idle.true)

pub returns-then-not-is_start-2 : goal.returns-then-not-is_start-2
unfolding number_of
returns-then-not-is_start-2 c =
    let n = c.args.numbers in
    let i : not (eqb n.kind 1 && ltb n.a 2) && counts_idle c.args.modem ≡ false =
    elim c.else-counts_idle.branch [
      | else-counts_idle-via-then-counts_idle+else-not-is_start w ↦ and_left _ _ (not_from_true _ (sym w.is_start.ensures ∙ w.if-not-is_start.false))
      | else-counts_idle-via-else-counts_idle w ↦ and_right _ _ (sym c.counts_idle.ensures ∙ w.if-counts_idle.false)
    ] in
    numbered_step_back _ _ _ _ _ _ _ i (sym c.is_start-then-is_back.ensures ∙ c.if-not-is_start-2.true) (sym c.is_back.ensures ∙ c.if-is_back.true)

pub returns : goal.returns
returns c =
    let n = c.args.numbers in
    let i : not (eqb n.kind 1 && ltb n.a 2) && counts_idle c.args.modem ≡ false =
    elim c.else-counts_idle.branch [
      | else-counts_idle-via-then-counts_idle+else-not-is_start w ↦ and_left _ _ (not_from_true _ (sym w.is_start.ensures ∙ w.if-not-is_start.false))
      | else-counts_idle-via-else-counts_idle w ↦ and_right _ _ (sym c.counts_idle.ensures ∙ w.if-counts_idle.false)
    ] in
    let b : not (eqb n.kind 1 && ltb n.a 2) && is_back c.args.clock c.args.modem.last ≡ false =
    elim c.else-is_back.branch [
      | else-is_back-via-then-is_back+else-not-is_start-2 w ↦ and_left _ _ (not_from_true _ (sym w.is_start-then-is_back.ensures ∙ w.if-not-is_start-2.false))
      | else-is_back-via-else-is_back w ↦ and_right _ _ (sym c.is_back.ensures ∙ w.if-is_back.false)
    ] in
    rw (c.act-next.ensures, c.age.ensures) (numbered_step-taken _ _ _ _ _ _ _ i b)
