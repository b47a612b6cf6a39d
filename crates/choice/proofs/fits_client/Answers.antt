-- `choice::fits_client` gives `fits_client`: the quick test says no only of a rule that does not list the client.
-- Trusts: nothing.
use mathlib.Core.Path.{◌≡◌, sym, ◌∙◌}
use mathlib.Core.Bool.{true, false}
use Rattle.order.proofs.Places.{clash}
use Rattle.choice.specs.Choose.{lists_client, fits_client}
use Rattle.choice.proofs.fits_client.Goals as goal
use Rattle.choice.proofs.fits_client.Goals.{then-has_value, else-has_value}

pub returns-then-lists_client : goal.returns-then-lists_client
unfolding fits_client
returns-then-lists_client c =
    let listed : lists_client c.args.rule.now c.args.client ≡ true = elim c.if-has_value.branch [
      | then-has_value w ↦ sym w.lists_client.ensures ∙ sym w.value-is ∙ c.if-lists_client.true
      | else-has_value w ↦ absurd (clash c.if-lists_client.true (w.value-is ∙ w.if-has_value.false))
    ] in
    rw listed c.admits_ucid.ensures

pub returns-else-lists_client : goal.returns-else-lists_client
unfolding fits_client
returns-else-lists_client c =
    let listed : lists_client c.args.rule.now c.args.client ≡ false = elim c.if-has_value.branch [
      | then-has_value w ↦ sym w.lists_client.ensures ∙ sym w.value-is ∙ c.if-lists_client.false
      | else-has_value w ↦ c.has_value.ensures w.if-has_value.false
    ] in
    rw (listed, c.if-lists_client.false)
