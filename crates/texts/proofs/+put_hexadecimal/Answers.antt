-- `texts::put_hexadecimal` writes `hexadecimal width n`: no digit, or what `hexadecimal-more` says, one digit less and
-- then the last one.
-- Trusts: nothing.
use Rattle.std.proofs.Common.{◌≡◌, ℕ, ◌-◌, ◌/◌, ◌%◌, [], ◌∷◌, ◌++◌, sym, ap, ◌∙◌, arith}
use Rattle.texts.specs.Text.{digit, hexadecimal}
use Rattle.texts.proofs.Numbers.{hexadecimal-none, hexadecimal-more}
use Rattle.texts.proofs.Written.{fits_same, fits-first, fits_rest, wrote_same, wrote_none, wrote_then}
use Rattle.texts.proofs.+put_hexadecimal.Goals as goal

-- a further digit, with the byte that was made for it
more : {w : ℕ} (n : ℕ) {d : ℕ} → (w ≡ 0 → ⊥) → d ≡ digit (n % 16) → hexadecimal w n ≡ hexadecimal (w - 1) (n / 16) ++ (d ∷ [])
more {w} n h e = hexadecimal-more w n h ∙ ap (λ (x : ℕ). hexadecimal (w - 1) (n / 16) ++ (x ∷ [])) (sym e)

pub returns-then-width-eq0 : goal.returns-then-width-eq0
returns-then-width-eq0 t c = wrote_same (sym (hexadecimal-none _ _ c.if-width-eq0.true)) (wrote_none _ _)

pub put_hexadecimal-next-requires : goal.put_hexadecimal-next-requires
put_hexadecimal-next-requires t c = (omega arith, fits-first _ (fits_same (hexadecimal-more _ _ c.if-width-eq0.false) c.requires))

pub put_digit-requires : goal.put_digit-requires
put_digit-requires t c = fits_rest (fits_same (more _ c.if-width-eq0.false c.glyph.ensures) c.requires) c.put_hexadecimal-next.ensures

pub returns : goal.returns
returns t c =
    let e = more _ c.if-width-eq0.false c.glyph.ensures in
    wrote_same (sym e) (wrote_then (fits_same e c.requires) c.put_hexadecimal-next.ensures c.put_digit.ensures)
