-- How far the record of the pieces is filled (specs/Filling.antt).
--
--   filled_none, filled_more     before the first element, and after one more of at most 256 bytes
--   filled_le                    of more bytes
--   cut_all-append                more elements behind others
-- Trusts: nothing.
use Prim.Native.Nat.{ℕ, ◌+◌, ◌≤◌}
use mathlib.Core.Path.{◌≡◌, refl}
use mathlib.Core.Bool.{Bool, true, false, cond}
use mathlib.Core.List.{List, [], ◌∷◌, ◌++◌}
use native.Mathlib.Omega.{arith}
use borrow.Author.Tests.{ltb-true, ltb-false}
use lib.ListN.{set}
use lib.Dec.{ltb}
use Rattle.writing_message.specs.Message.{no_cut, cut_on, cut_all}
use Rattle.writing_message.specs.Filling.{Filled}
use Rattle.writing_message.specs.declared.Cut.{Cut}

pub filled_none : Filled 0 no_cut
filled_none = record { all = omega arith; short = omega arith }

pub filled_le : {a b : ℕ} {c : Cut} → a ≤ b → Filled a c → Filled b c
filled_le h f = record { all = omega (arith, f.all); short = f.short }

pub filled_more : {bytes n : ℕ} {c : Cut} → n ≤ 256 → Filled bytes c → Filled (bytes + n) (cut_on n c)
unfolding cut_on
filled_more {bytes} {n} {c} h f = on (ltb 1497 (c.now + n)) refl
  where
    on : (b : Bool) → ltb 1497 (c.now + n) ≡ b
        → Filled (bytes + n) (cond b (record { closed = c.closed + 1; now = n; lengths = set c.lengths c.closed c.now }) (record { closed = c.closed; now = c.now + n; lengths = c.lengths }))
    on true e = record { all = omega (arith, f.all, ltb-true 1497 (c.now + n) e); short = omega arith }
    on false e = record { all = omega (arith, f.all); short = ltb-false 1497 (c.now + n) e }

pub cut_all-append : (c : Cut) (ns ms : List ℕ) → cut_all c (ns ++ ms) ≡ cut_all (cut_all c ns) ms
unfolding cut_all
cut_all-append c [] ms = refl
cut_all-append c (n ∷ ns) ms = cut_all-append (cut_on n c) ns ms
