-- `choice::lists_client` gives `lists_client`: the library's search of the clients that are used.
-- Trusts: nothing.
use mathlib.Core.Path.{◌≡◌, ◌∙◌}
use mathlib.Core.Bool.{◌&&◌}
use lib.Dec.{eqb}
use Rattle.table.specs.declared.Client.{Client}
use Rattle.table.specs.Table.{clients_of}
use Rattle.choice.specs.Choose.{is_client, lists_client}
use Rattle.order.proofs.Search.{any_of_listed, eqb_turned}
use Rattle.choice.proofs.lists_client.Goals as goal

same_client : (x y : Client) → eqb x.kind y.kind && eqb x.value y.value ≡ is_client y x
unfolding is_client
same_client x y = rw (eqb_turned x.kind y.kind, eqb_turned x.value y.value)

pub returns : goal.returns
unfolding lists_client clients_of
returns c = rw (← c.limited-count.ensures) (c.contains.ensures.value ∙ any_of_listed _ (is_client c.args.client) _ (λ x. same_client x c.args.client))
