-- `choice::choose_rule` gives `choice_of`: the best of the rules that fit, or 17.
-- Trusts: nothing.
use borrow.Author.Rules.{rules}
use mathlib.Core.Path.{◌≡◌, refl, ap, ◌∙◌}
use mathlib.Core.Bool.{Bool, true, false, cond}
use Prim.Native.Nat.{ℕ}
use lib.Dec.{ltb}
use Rattle.std.proofs.Common.{Some, None, ok_or}
use Rattle.refusals.specs.Refusals.{number_of}
use Rattle.refusals.specs.declared.Refusal.TheVariants.{NoRule}
use Rattle.order.specs.Best.{within}
use Rattle.table.specs.Table.{rules_of}
use Rattle.choice.specs.Choose.{chosen_place, fits_client, choice_of}
use Rattle.choice.specs.Chose.{Choice, Chosen, Refused, chose}
use Rattle.choice.proofs.choose_rule.Goals as goal

-- the answer by the place that was found
told : (end k : ℕ) → chose (ok_or (within end k) NoRule) ≡ cond (ltb k end) (Chosen k) (Refused 17)
unfolding within chose number_of
told end k = go (ltb k end)
  where
    go : (b : Bool) → chose (ok_or (cond b (Some k) None) NoRule) ≡ cond {A = Choice} b (Chosen k) (Refused 17)
    go true = refl
    go false = refl

pub returns : goal.returns
unfolding choice_of chosen_place rules_of
returns c =
    let found = c.best_place-place.ensures (λ rule. rule.priority) (λ rule. rule.number) (fits_client c.args.client c.args.ucid) (record { rank = λ x r m f. search rules }) (record { test = λ x r m f. search rules }) in
    rw (← c.limited-count.ensures) (ap chose (c.ok_or.ensures.value ∙ ap (λ o. ok_or o NoRule) found) ∙ told _ _)
