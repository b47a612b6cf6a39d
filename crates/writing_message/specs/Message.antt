-- Message: the elements of a table one behind the other in an array, and the lengths of the pieces that they make (document 02, Req 01).
--
--   no_cut, cut_on n c, cut_all c ns   the record of the pieces: before the first element; after one more of n bytes; after more elements of these lengths
--   message_in t held                the array with the message of t at its start, its length, and the record of its pieces
--
-- The record has the number of the closed pieces, their lengths, and the bytes of the piece that is being filled. What it stands for is `CutOf` in
-- proofs/Cuts.antt: the lengths of `pieces_of`.
-- Trusts: nothing.
use Rattle.std.specs.Prelude.{ℕ, ◌+◌, cond, List, [], ◌∷◌, map, length, set, replicate, ltb}
use Rattle.wire.specs.Bytes.{pasted}
use Rattle.table.specs.declared.Table.{Table}
use Rattle.writing_elements.specs.Encode.{elements_of, message_of}
use Rattle.writing_message.specs.declared.Cut.{Cut}
use Rattle.writing_message.specs.declared.Message.{Message}

abbrev pub no_cut : Cut
no_cut = record { closed = 0; now = 0; lengths = replicate 16 0 }

-- an element that no longer fits closes the piece and begins the next
unfoldable pub cut_on : ℕ → Cut → Cut
cut_on n c =
    cond (ltb 1497 (c.now + n))
    (record { closed = c.closed + 1; now = n; lengths = set c.lengths c.closed c.now })
    (record { closed = c.closed; now = c.now + n; lengths = c.lengths })

unfoldable pub cut_all : Cut → List ℕ → Cut
cut_all c [] = c
cut_all c (n ∷ ns) = cut_all (cut_on n c) ns

pub record Held : Type 0 where
  pub message : Message
  pub held : List ℕ

unfoldable pub message_in : Table → List ℕ → Held
message_in t held =
    record { message = record { length = length (message_of t); cut = cut_all no_cut (map length (elements_of t)) }; held = pasted held 0 (message_of t) }
