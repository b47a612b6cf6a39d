-- `texts::count_digits` gives the length of `decimal n`: below 10 one digit; else, as `decimal-more` says, those of the shorter number
-- and one.
-- Trusts: nothing.
use Rattle.std.proofs.Common.{◌≡◌, ℕ, ◌+◌, ◌/◌, ◌%◌, ◌^◌, ◌≤◌, ◌<◌, [], ◌∷◌, length, sym, ap, ◌∙◌, arith, length-append}
use Rattle.texts.specs.Text.{digit, decimal}
use Rattle.texts.proofs.Numbers.{decimal_digit, decimal-more, length-decimal}
use Rattle.texts.proofs.+count_digits.Goals as goal

one : {n : ℕ} → n < 10 → 1 ≡ length (decimal n)
one {n} h = sym (ap length (decimal_digit n h))

more : {n k : ℕ} → 10 ≤ n → k ≡ length (decimal (n / 10)) → k + 1 ≡ length (decimal n)
more {n} h e = omega (arith, e, ap length (decimal-more n h) ∙ length-append (decimal (n / 10)) (digit (n % 10) ∷ []))

-- no number has more than twenty digits
few : {n k : ℕ} → n < 2 ^ 64 → k ≡ length (decimal (n / 10)) → k ≤ 20
few {n} h e = omega (arith, e, length-decimal 19 (n / 10) (omega arith))

pub returns-then-n-lt10 : goal.returns-then-n-lt10
returns-then-n-lt10 t c = one c.if-n-lt10.true

pub overflow_add-result : goal.overflow_add-result
overflow_add-result t c = omega (arith, few c.ranges.n.fits c.count_digits.ensures)

pub returns : goal.returns
returns t c = more c.if-n-lt10.false c.count_digits.ensures
