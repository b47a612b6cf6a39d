-- `types::find_type` gives `type_under`: what the table says at the place that was found, which is a place of the table.
-- Trusts: nothing.
use mathlib.Core.Path.{sym, ap, ◌∙◌}
use Rattle.std.proofs.Common.{Some}
use Rattle.types.specs.Places.{type_under, known_at, place_in, line_at}
use Rattle.types.specs.Columns.{found, listed, place_of}
use Rattle.types.proofs.Columns.{place_found, place_missed}
use Rattle.types.proofs.LawsColumns.{listed_at, listed_past}
use Rattle.types.proofs.find_type.Goals as goal

pub returns-in_err-place : goal.returns-in_err-place
unfolding type_under
returns-in_err-place c =
    ap found (c.from_residual.ensures ∙ sym (listed_past _ (place_missed _ (sym c.in_err-place.ensures))))

pub known_at-requires : goal.known_at-requires
known_at-requires c = (place_found _ _ (sym c.in_ok-place.ensures)).1

pub returns : goal.returns
unfolding type_under
returns c =
    let place = place_found (place_in 0 26 c.args.parent c.args.kind) c.in_ok-place.place (sym c.in_ok-place.ensures) in
    ap found (ap Some c.known_at.ensures ∙ sym (listed_at _ place.1) ∙ ap (λ n. listed (known_at n)) place.0)
