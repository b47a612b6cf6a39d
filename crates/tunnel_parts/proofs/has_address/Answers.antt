-- `tunnel_parts::has_address` says whether the frame has the address: the number of six bytes is that of four and of two.
-- Trusts: nothing.
use borrow.Author.Tests.{eq-eqb, ne_eqb, eqb-true, eqb-false}
use Prim.Native.Nat.{ℕ, ◌+◌, ◌*◌, ◌/◌, ◌%◌, ◌<◌}
use mathlib.Core.Path.{◌≡◌, refl, sym, ◌∙◌}
use mathlib.Core.Bool.{Bool, true, false}
use mathlib.Core.List.{List}
use native.Mathlib.Nat.{div-add-mod', mod-lt}
use native.Mathlib.Omega.{arith}
use lib.Dec.{eqb}
use Rattle.numbers.specs.Numbers.{number_at}
use Rattle.numbers.proofs.Laws.{number_at_add}
use Rattle.packets.specs.Packets.{address_at}
use Rattle.tunnel_parts.proofs.has_address.Goals as goal

-- a number in two parts is another where both parts are the other's
module _ (n h l a : ℕ) (e : n ≡ h * 65536 + l) (small : l < 65536) where
  low-apart : (l ≡ a % 65536 → ⊥) → n ≡ a → ⊥
  low-apart other same =
      let rest : a % 65536 < 65536 = mod-lt a (omega arith) in
      other (omega (arith, div-add-mod' a 65536))

  high-decides : l ≡ a % 65536 → eqb h (a / 65536) ≡ eqb n a
  high-decides el = go (eqb h (a / 65536)) refl
    where
      go : (b : Bool) → eqb h (a / 65536) ≡ b → b ≡ eqb n a
      go true t = let eh = eqb-true h (a / 65536) t in sym (eq-eqb n a (omega (arith, div-add-mod' a 65536)))
      go false t = sym (ne_eqb n a (λ same. eqb-false h (a / 65536) t (omega (arith, div-add-mod' a 65536))))

whole : (frame : List ℕ) (h l : ℕ) → h ≡ number_at 4 frame 0 → l ≡ number_at 2 frame 4 → address_at frame ≡ h * 65536 + l
unfolding address_at
whole frame h l eh el = omega (arith, number_at_add 4 2 frame 0)

pub returns-then-low-address : goal.returns-then-low-address
returns-then-low-address c =
    let low : c.from-low.result < 65536 = omega (arith, c.from-low.ensures) in
    high-decides _ _ _ _ (whole _ _ _ (c.from-high.ensures ∙ c.number4.ensures) (c.from-low.ensures ∙ c.number2.ensures)) low c.if-low-address.true

pub returns-else-low-address : goal.returns-else-low-address
returns-else-low-address c =
    let low : c.from-low.result < 65536 = omega (arith, c.from-low.ensures) in
    let apart = low-apart _ _ _ c.args.address (whole _ _ _ (c.from-high.ensures ∙ c.number4.ensures) (c.from-low.ensures ∙ c.number2.ensures)) low c.if-low-address.false in
    ne_eqb _ _ c.if-low-address.false ∙ sym (ne_eqb _ _ apart)
