-- `bodies::list_body` lists `body_text`: the report on the body, under its change count and with the table that it leaves.
-- Trusts: nothing.
use mathlib.Core.Path.{ap, ◌∙◌}
use mathlib.Core.List.{List}
use Prim.Native.Nat.{ℕ}
use Rattle.notices.specs.Listing.{listing}
use Rattle.bodies.proofs.Laws.{body_text_from}
use Rattle.bodies.proofs.list_body.Goals as goal

pub returns : goal.returns
returns c =
    let left = c.receive_alone-left.ensures in
    c.list_report.ensures
    ∙ ap (λ (text : List ℕ). listing text c.args.out.now)
    (body_text_from _ left.0 c.count_of.ensures left.1)
