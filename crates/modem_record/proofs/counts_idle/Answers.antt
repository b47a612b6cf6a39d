-- `modem_record::counts_idle` gives `counts_idle`: each return cites the law of its part; after the last test the chain is what `is_held_over` ensures.
-- Trusts: nothing.
use borrow.Author.Tests.{eq-eqb, ne_eqb}
use mathlib.Core.Path.{sym, ◌∙◌}
use Rattle.std.proofs.Math.Bool.{or-true}
use Rattle.modem_record.proofs.LawsIdle.{is_unsuited→mark, counts_idle_unsuited, counts_idle_late, counts_idle_rest}
use Rattle.modem_record.specs.Record.{counts_idle, is_broken}
use Rattle.modem_record.proofs.counts_idle.Goals as goal

-- a Tdsg1 or a Tdsg2 of 0
pub returns-then-m-eq0 : goal.returns-then-m-eq0
unfolding counts_idle is_broken
returns-then-m-eq0 c = simp (eq-eqb _ _ c.if-m-eq0.true, or-true)

pub returns-then-m-eq0-2 : goal.returns-then-m-eq0-2
unfolding counts_idle is_broken
returns-then-m-eq0-2 c = simp (eq-eqb _ _ c.if-m-eq0-2.true, or-true)

pub returns-then-is_late : goal.returns-then-is_late
returns-then-is_late c = sym (counts_idle_late _ (sym c.is_late.ensures ∙ c.if-is_late.true))

pub returns-then-is_unsuited : goal.returns-then-is_unsuited
returns-then-is_unsuited c = sym (counts_idle_unsuited _ (sym c.is_unsuited.ensures ∙ c.if-is_unsuited.true))

pub is_held_over-requires : goal.is_held_over-requires
is_held_over-requires c = is_unsuited→mark _ _ _ _ (sym c.is_unsuited.ensures ∙ c.if-is_unsuited.false)

pub returns : goal.returns
returns c = c.is_held_over.ensures ∙ sym (counts_idle_rest _ (ne_eqb _ _ c.if-m-eq0.false)
    (ne_eqb _ _ c.if-m-eq0-2.false) (sym c.is_unsuited.ensures ∙ c.if-is_unsuited.false)
    (sym c.is_late.ensures ∙ c.if-is_late.false))
