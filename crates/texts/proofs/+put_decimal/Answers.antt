-- `texts::put_decimal` writes `decimal n`: below 10 one digit; else what `decimal-more` says, the shorter number and
-- then its last digit.
-- Trusts: nothing.
use Rattle.std.proofs.Common.{◌≡◌, ℕ, ◌/◌, ◌%◌, ◌≤◌, ◌<◌, [], ◌∷◌, ◌++◌, sym, ap, ◌∙◌, arith}
use Rattle.texts.specs.Text.{digit, decimal}
use Rattle.texts.proofs.Numbers.{decimal_digit, decimal-more}
use Rattle.texts.proofs.Written.{fits_same, fits-first, fits_rest, wrote_same, wrote_then}
use Rattle.texts.proofs.+put_decimal.Goals as goal

-- one digit, with the byte that was made for it
one : {n d : ℕ} → n < 10 → d ≡ digit n → decimal n ≡ d ∷ []
one {n} h e = decimal_digit n h ∙ ap (λ (x : ℕ). x ∷ []) (sym e)

-- a further digit, likewise
more : {n d : ℕ} → 10 ≤ n → d ≡ digit (n % 10) → decimal n ≡ decimal (n / 10) ++ (d ∷ [])
more {n} h e = decimal-more n h ∙ ap (λ (x : ℕ). decimal (n / 10) ++ (x ∷ [])) (sym e)

pub put_digit-requires : goal.put_digit-requires
put_digit-requires t c = fits_same (one c.if-n-lt10.true c.glyph.ensures) c.requires

pub returns-then-n-lt10 : goal.returns-then-n-lt10
returns-then-n-lt10 t c = wrote_same (sym (one c.if-n-lt10.true c.glyph.ensures)) c.put_digit.ensures

pub put_decimal-next-requires : goal.put_decimal-next-requires
put_decimal-next-requires t c = (omega arith, fits-first _ (fits_same (decimal-more _ c.if-n-lt10.false) c.requires))

pub put_digit-requires-2 : goal.put_digit-requires-2
put_digit-requires-2 t c = fits_rest (fits_same (more c.if-n-lt10.false c.glyph-2.ensures) c.requires) c.put_decimal-next.ensures

pub returns : goal.returns
returns t c =
    let e = more c.if-n-lt10.false c.glyph-2.ensures in
    wrote_same (sym e) (wrote_then (fits_same e c.requires) c.put_decimal-next.ensures c.put_digit-2.ensures)
