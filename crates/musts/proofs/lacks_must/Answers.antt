-- `musts::lacks_must` gives `lacks_must`. In each arm the row's own places are looked through; by the table no other place is in that
-- row, and an arm's answer is computed. A number that names no row has no place at all.
-- Trusts: nothing.
use borrow.Author.Rules.{rules}
use mathlib.Core.Path.{sym, ◌∙◌}
use borrow.Author.Tests.{ne_eqb}
use Rattle.types.specs.Places.{line_at}
use Rattle.musts.specs.Musts.{lacks_must, missing_in, lacks_in}
use Rattle.types.proofs.LawsTypes.{lines, table_lines}
use Rattle.musts.proofs.lacks_must.Goals as goal

pub returns-in-26 : goal.returns-in-26
unfolding lacks_must missing_in lacks_in line_at lines
returns-in-26 c = c.lacks_between.ensures ∙ sym (simp (c.in-26.is, table_lines))

pub returns-in-0 : goal.returns-in-0
unfolding lacks_must missing_in lacks_in line_at lines
returns-in-0 c = c.lacks_between-in-0.ensures ∙ sym (simp (c.in-0.is, table_lines))

pub returns-in-5 : goal.returns-in-5
unfolding lacks_must missing_in lacks_in line_at lines
returns-in-5 c = c.lacks_between-in-5.ensures ∙ sym (simp (c.in-5.is, table_lines))

pub returns-in-1 : goal.returns-in-1
unfolding lacks_must missing_in lacks_in line_at lines
returns-in-1 c = c.lacks_between-in-1.ensures ∙ sym (simp (c.in-1.is, table_lines))

pub returns-in-14 : goal.returns-in-14
unfolding lacks_must missing_in lacks_in line_at lines
returns-in-14 c = c.lacks_between-in-14.ensures ∙ sym (simp (c.in-14.is, table_lines))

pub returns-in-2 : goal.returns-in-2
unfolding lacks_must missing_in lacks_in line_at lines
returns-in-2 c = c.lacks_between-in-2.ensures ∙ sym (simp (c.in-2.is, table_lines))

pub returns-in_default : goal.returns-in_default
unfolding lacks_must missing_in lacks_in line_at lines
returns-in_default c =
    sym (simp (table_lines, ne_eqb _ _ (λ e. c.in_default.in_default-own.rest.1 (sym e)), ne_eqb _ _ (λ e. c.in_default.in_default-own.rest.0.1 (sym e)), ne_eqb _ _ (λ e. c.in_default.in_default-own.rest.0.0.1 (sym e)), ne_eqb _ _ (λ e. c.in_default.in_default-own.rest.0.0.0.1 (sym e)), ne_eqb _ _ (λ e. c.in_default.in_default-own.rest.0.0.0.0.1 (sym e)), ne_eqb _ _ (λ e. c.in_default.in_default-own.rest.0.0.0.0.0.1 (sym e))))
