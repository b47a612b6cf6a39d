-- Laws of number_at (specs/Numbers.antt).
--
--   number_at_past     no byte there: 0                 number_at_below    below 256 ^ w, of bytes
--   number_at_one      a number of one byte             number_at_add      a number of v + w bytes
--   number_at_same     equal bytes give equal numbers
--   number_at_only     equal numbers of bytes have equal bytes
--   pow_five          what is left of 64 bits for a sixth byte
-- Trusts: nothing.
use Prim.Native.Nat.{ℕ, zero, suc, ◌+◌, ◌*◌, ◌-◌, ◌^◌, ◌≤◌, ◌<◌}
use mathlib.Core.Path.{◌≡◌, refl}
use mathlib.Core.List.{List, []}
use mathlib.Core.Logic.{◌⊎◌, ⊎_elim}
use native.Mathlib.Omega.{arith}
use native.Mathlib.Nat.{pow-zero, pow-suc, eq-or-lt_of_le, le_of_suc-le-suc, add_assoc, add-zero, add-suc, mul_assoc, pow-le-pow_right}
use lib.ListN.{length, get_or, get_or-eq_default}
use Rattle.numbers.specs.Numbers.{number_at}

pub number_at_past : (w : ℕ) (b : List ℕ) (at : ℕ) → length b ≤ at → number_at w b at ≡ 0
unfolding number_at
number_at_past zero b at h = refl
number_at_past (suc w) b at h =
    let q : length b ≤ at + w = omega arith in
    omega (arith, number_at_past w b at h, get_or-eq_default b 0 q)

pub number_at_one : (b : List ℕ) (at : ℕ) → number_at 1 b at ≡ get_or b at 0
unfolding number_at
number_at_one b at = simp (add-zero at) (omega arith)

pub number_at_below : (w : ℕ) (b : List ℕ) (at : ℕ) → ((k : ℕ) → get_or b k 0 < 256) → number_at w b at < 256 ^ w
unfolding number_at
number_at_below zero b at h = omega (arith, pow-zero 256)
number_at_below (suc w) b at h = omega (arith, pow-suc 256 w, number_at_below w b at h, h (at + w))

pub number_at_add : (v w : ℕ) (b : List ℕ) (at : ℕ) → number_at (v + w) b at ≡ number_at v b at * 256 ^ w + number_at w b (at + v)
unfolding number_at
number_at_add v zero b at = rw (pow-zero 256, add-zero v) (omega arith)
number_at_add v (suc w) b at = rw (add-suc v w, pow-suc 256 w, number_at_add v w b at, ← mul_assoc (number_at v b at) (256 ^ w) 256, ← add_assoc at v w) (omega arith)

pub number_at_same : (w : ℕ) (a b : List ℕ) (i j : ℕ) → ((k : ℕ) → k < w → get_or a (i + k) 0 ≡ get_or b (j + k) 0) → number_at w a i ≡ number_at w b j
unfolding number_at
number_at_same zero a b i j h = refl
number_at_same (suc w) a b i j h = rw (number_at_same w a b i j (λ k q. h k (omega arith)), h w (omega arith)) refl

pub number_at_only : (w : ℕ) (a b : List ℕ) (i j : ℕ) → ((k : ℕ) → get_or a k 0 < 256) → ((k : ℕ) → get_or b k 0 < 256)
    → number_at w a i ≡ number_at w b j → (k : ℕ) → k < w → get_or a (i + k) 0 ≡ get_or b (j + k) 0
unfolding number_at
number_at_only zero a b i j f g e k q = absurd (omega arith)
number_at_only (suc w) a b i j f g e k q =
    let last : get_or a (i + w) 0 ≡ get_or b (j + w) 0 = omega (arith, f (i + w), g (j + w)) in
    let front : number_at w a i ≡ number_at w b j = omega (arith, f (i + w), g (j + w)) in
    ⊎_elim (λ (x : k ≡ w). rw x last) (λ (x : k < w). number_at_only w a b i j f g front k x) (eq-or-lt_of_le (le_of_suc-le-suc q))

-- with at most five bytes read there is room for a sixth in 64 bits
pub pow_five : (k : ℕ) → k ≤ 5 → 256 ^ k ≤ 1099511627776
pow_five k h = pow-le-pow_right {n = 256} (omega arith) h
