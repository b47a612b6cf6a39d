-- `reader::place_for`: a return for each of the three answers.
-- Trusts: nothing.
use mathlib.Core.Path.{refl, sym, ap, ◌∙◌}
use native.Mathlib.Omega.{arith}
use lib.ListN.{set}
use Rattle.refusals.specs.Refusals.{number_of}
use Rattle.listed.proofs.Laws.{is_among-front}
use Rattle.reader.proofs.place_for.Goals as goal

pub returns-then-is_listed : goal.returns-then-is_listed
unfolding number_of
returns-then-is_listed c = (sym (c.is_listed.ensures ∙ is_among-front _ c.args.count _ c.requires) ∙ c.if-is_listed.true, refl, refl)

pub returns-then-place-ge32 : goal.returns-then-place-ge32
returns-then-place-ge32 c = (sym (c.is_listed.ensures ∙ is_among-front _ c.args.count _ c.requires) ∙ c.if-is_listed.false, omega arith, refl)

pub returns : goal.returns
returns c =
    (sym (c.is_listed.ensures ∙ is_among-front _ c.args.count _ c.requires) ∙ c.if-is_listed.false, omega arith, c.from-place.ensures, ap (λ i. set c.args.list.now i c.args.number) c.from-place.ensures)
