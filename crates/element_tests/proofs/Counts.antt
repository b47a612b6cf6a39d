-- A count of an element that passed tests 9 and 12: it is below the room, or 0.
--
--   count_fits    one more still fits a byte
-- Trusts: nothing.
use mathlib.Core.Path.{◌≡◌}
use mathlib.Core.Bool.{Bool, true, false}
use Prim.Native.Nat.{ℕ, ◌+◌, ◌<◌}
use native.Mathlib.Omega.{arith}
use borrow.Author.Tests.{leb-false, eqb-true, not-false}
use lib.Dec.{eqb}
use Rattle.element_tests.specs.Tests.{second_copy, is_full}

pub count_fits : (repeats : Bool) (room count len : ℕ) → second_copy repeats count ≡ false → is_full repeats room count len ≡ false → room < 256 → count + 1 < 256
unfolding second_copy is_full
count_fits true room count len a b h = let q : count < room = leb-false room count b in omega arith
count_fits false room count len a b h = let q : count ≡ 0 = eqb-true count 0 (not-false (eqb count 0) a) in omega arith
