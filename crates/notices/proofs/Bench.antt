-- Document 01's examples of a listing without a table, computed from the definitions: one list, one theorem.
-- Trusts: nothing.
use mathlib.Core.Path.{◌≡◌, refl}
use mathlib.Core.List.{[], ◌∷◌}
use Rattle.texts.specs.Text.{ascii, digit, decimal, decimal_in, field}
use Rattle.notices.specs.Text.{refusal_text, waiting_text}

pub listed : (refusal_text 13 0 ∷ waiting_text 1 ∷ []) ≡ (ascii "refused 13 at 0\n" ∷ ascii "waiting 1\n" ∷ [])
unfolding digit decimal decimal_in field refusal_text waiting_text
listed = refl
