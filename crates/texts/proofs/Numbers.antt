-- Laws of `decimal` and `hexadecimal` (specs/Text.antt).
--
--   decimal_digit      below 10: its digit              decimal-more       from 10 on: the number without its last digit, then that digit
--   hexadecimal-none   no digit asked: nothing          hexadecimal-more   else: one digit less of a 16th of the number, then its last digit
--   length-decimal     below 10 ^ k: at most k bytes    length-hexadecimal   as many bytes as asked
-- Trusts: nothing.
use Prim.Native.Nat.{ℕ, zero, suc, ◌-◌, ◌/◌, ◌%◌, ◌^◌, ◌≤◌, ◌<◌}
use mathlib.Core.Path.{◌≡◌, refl, ap, ◌∙◌}
use mathlib.Core.Bool.{Bool, true, false}
use mathlib.Core.List.{List, [], ◌∷◌, ◌++◌}
use native.Mathlib.Omega.{arith}
use native.Mathlib.Nat.{pow-suc}
use borrow.Author.Tests.{lt-ltb, le-ltb, ltb-true, ltb-false}
use lib.ListN.{length, length-append}
use lib.Dec.{ltb}
use Rattle.texts.specs.Text.{digit, decimal, decimal_in, hexadecimal}

-- more turns than the number needs change nothing
turns_enough : (f g : ℕ) (b : Bool) (n : ℕ) → ltb n 10 ≡ b → n ≤ f → n ≤ g → decimal_in f b n ≡ decimal_in g b n
unfolding decimal_in
turns_enough zero zero b n e p q = refl
turns_enough zero (suc g) true n e p q = let z : n ≡ 0 = omega arith in rw z refl
turns_enough zero (suc g) false n e p q = absurd (omega (arith, ltb-false n 10 e))
turns_enough (suc f) zero true n e p q = let z : n ≡ 0 = omega arith in rw z refl
turns_enough (suc f) zero false n e p q = absurd (omega (arith, ltb-false n 10 e))
turns_enough (suc f) (suc g) true n e p q = refl
turns_enough (suc f) (suc g) false n e p q =
    ap (λ (l : List ℕ). l ++ (digit (n % 10) ∷ []))
    (turns_enough f g (ltb (n / 10) 10) (n / 10) refl (omega (arith, ltb-false n 10 e)) (omega (arith, ltb-false n 10 e)))

pub decimal_digit : (n : ℕ) → n < 10 → decimal n ≡ digit n ∷ []
unfolding decimal decimal_in
decimal_digit zero h = refl
decimal_digit (suc m) h = rw (lt-ltb (suc m) 10 h) refl

pub decimal-more : (n : ℕ) → 10 ≤ n → decimal n ≡ decimal (n / 10) ++ (digit (n % 10) ∷ [])
unfolding decimal decimal_in
decimal-more zero h = absurd (omega arith)
decimal-more (suc m) h =
    rw (le-ltb (suc m) 10 h) (ap (λ (l : List ℕ). l ++ (digit (suc m % 10) ∷ [])) (turns_enough m (suc m / 10) (ltb (suc m / 10) 10) (suc m / 10) refl (omega arith) (omega arith)))

pub hexadecimal-none : (w n : ℕ) → w ≡ 0 → hexadecimal w n ≡ []
unfolding hexadecimal
hexadecimal-none w n e = rw e refl

pub hexadecimal-more : (w n : ℕ) → (w ≡ 0 → ⊥) → hexadecimal w n ≡ hexadecimal (w - 1) (n / 16) ++ (digit (n % 16) ∷ [])
unfolding hexadecimal
hexadecimal-more zero n h = absurd (h refl)
hexadecimal-more (suc w) n h = let e : suc w - 1 ≡ w = omega arith in rw e refl

pub length-decimal : (k n : ℕ) → n < 10 ^ suc k → length (decimal n) ≤ suc k
length-decimal zero n h = rw (decimal_digit n h) (omega arith)
length-decimal (suc k) n h = go (ltb n 10) refl (length-decimal k (n / 10) (omega (arith, pow-suc 10 (suc k)))) where
  go : (b : Bool) → ltb n 10 ≡ b → length (decimal (n / 10)) ≤ suc k → length (decimal n) ≤ suc (suc k)
  go true e less = rw (decimal_digit n (ltb-true n 10 e)) (omega arith)
  go false e less = rw (decimal-more n (ltb-false n 10 e), length-append (decimal (n / 10)) (digit (n % 10) ∷ [])) (omega arith)

pub length-hexadecimal : (w n : ℕ) → length (hexadecimal w n) ≡ w
unfolding hexadecimal
length-hexadecimal zero n = refl
length-hexadecimal (suc w) n =
    length-append (hexadecimal w (n / 16)) (digit (n % 16) ∷ []) ∙ (omega (arith, length-hexadecimal w (n / 16)))
