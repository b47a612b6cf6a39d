-- `choice::has_value` says no only of a rule that does not list the client. The loop keeps: where no place that was passed has the value,
-- the client stands at none of them.
-- Trusts: nothing.
use Prim.Native.Nat.{ℕ, zero, suc, ◌≤◌}
use mathlib.Core.Path.{◌≡◌, refl, ◌∙◌}
use mathlib.Core.Bool.{Bool, false, and-false}
use mathlib.Core.List.{List, [], ◌∷◌}
use native.Mathlib.Numerals.{add-one}
use native.Mathlib.Omega.{arith}
use lib.Dec.{eqb}
use lib.ListN.{get_or, take}
use Rattle.table.proofs.Laws.{limited_to_le}
use Rattle.table.specs.declared.Client.{Client}
use Rattle.table.specs.Table.{clients_of}
use Rattle.order.specs.Best.{any_of}
use Rattle.order.proofs.Places.{or_no}
use Rattle.order.proofs.Search.{eqb_turned}
use Rattle.choice.specs.Choose.{is_client, lists_client}
use Rattle.choice.proofs.has_value.Goals as goal

-- clients of different values are different
other : (c x : Client) → eqb x.value c.value ≡ false → is_client c x ≡ false
unfolding is_client
other c x e = simp (eqb_turned c.value x.value ∙ e, and-false)

module _ (ok : Client → Bool) where
  -- one more place that does not pass
  more : (xs : List Client) (i : ℕ) (d : Client) → any_of ok (take i xs) ≡ false → ok (get_or xs i d) ≡ false → any_of ok (take (suc i) xs) ≡ false
  unfolding any_of
  more [] i d e f = refl
  more (x ∷ xs) zero d e f = rw f
  more (x ∷ xs) (suc i) d e f = let no = or_no (ok x) (any_of ok (take i xs)) e in rw no.0 (more xs i d no.1 f)

  -- fewer places
  front : (xs : List Client) (n i : ℕ) → n ≤ i → any_of ok (take i xs) ≡ false → any_of ok (take n xs) ≡ false
  unfolding any_of
  front [] zero i h e = refl
  front [] (suc n) i h e = refl
  front (x ∷ xs) zero i h e = refl
  front (x ∷ xs) (suc n) zero h e = absurd (omega arith)
  front (x ∷ xs) (suc n) (suc i) h e = let no = or_no (ok x) (any_of ok (take i xs)) e in rw no.0 (front xs n i (omega arith) no.1)

pub loop-listed-init : goal.loop-listed-init
unfolding any_of
loop-listed-init c = λ e. refl

pub loop-listed-preserved : goal.loop-listed-preserved
loop-listed-preserved c = λ e. let no = or_no _ _ e in rw add-one (more _ _ _ _ (c.loop-listed.invariant no.0) (other _ _ no.1))

pub returns : goal.returns
unfolding lists_client clients_of
returns c = λ e. front _ _ _ _ (omega (arith, limited_to_le 8 c.args.rule.now.clientcount)) (c.loop-listed.invariant e)
