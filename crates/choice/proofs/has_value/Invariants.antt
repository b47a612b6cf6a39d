-- `choice::has_value` says no only of a rule that does not list the client. The loop keeps: where no place that was passed has the value,
-- the client stands at none of them.
-- Trusts: nothing.
use mathlib.Core.Path.{◌≡◌}
use mathlib.Core.Bool.{false}
use lib.ListN.{take}
use Rattle.order.specs.Best.{any_of}
use Rattle.choice.specs.Choose.{is_client}
use Rattle.choice.proofs.has_value.Given as goal

abbrev pub invariant-loop-listed : goal.invariant-loop-listed
invariant-loop-listed l = l.seen ≡ false → any_of (is_client l.client) (take l.listed-index l.rule.clients) ≡ false
