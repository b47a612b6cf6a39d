-- Words and numbers as text, computed from the definitions: one list, one theorem.
-- Trusts: nothing.
use mathlib.Core.Path.{◌≡◌, refl}
use mathlib.Core.List.{[], ◌∷◌}
use Rattle.wire.specs.Bytes.{pasted}
use Rattle.texts.specs.Text.{ascii, digit, decimal, decimal_in, hexadecimal, field, address}
use Rattle.texts.specs.Put.{put}

-- a number of one digit, one of three, an address; a text that just has room, and one that has none
pub shown : (field (ascii "dcd ") 7 ∷ decimal 100 ∷ address (ascii " tunnel ") 0x01005e050505 ∷ (put (field [] 42) (ascii "....") 2).out ∷ (put (field [] 42) (ascii "....") 3).out ∷ [])
    ≡ (ascii "dcd 7" ∷ ascii "100" ∷ ascii " tunnel 01005e050505" ∷ ascii "..42" ∷ ascii "...." ∷ [])
unfolding digit decimal decimal_in hexadecimal field address put pasted
shown = refl
