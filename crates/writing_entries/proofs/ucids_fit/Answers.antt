-- `writing_entries::ucids_fit` goes over all places of the list: a used one may hold anything.
-- Trusts: nothing.
use Rattle.std.proofs.Common.{true, rules, ◌∙◌}
use Rattle.writing_entries.specs.Entries.{is_zero}
use Rattle.writing_entries.proofs.Laws.{or_cond}
use Rattle.writing_entries.proofs.Places.{fits-any}
use Rattle.writing_entries.proofs.ucids_fit.Goals as goal

pub returns : goal.returns
returns c = c.places_fit.ensures (λ x. true) is_zero (λ used x r p. search (rules, or_cond)) ∙ fits-any is_zero c.args.n c.args.ucids.now
