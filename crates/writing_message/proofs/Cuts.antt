-- What the record of the pieces stands for (specs/Message.antt): the lengths of the pieces.
--
--   CutOf ns c      the record has the packed lengths of ns: those of the closed pieces in `lengths`, the one being filled in `now`
--   cut-none, cut-more      before the first element, and after one more
--   cut_all_lem         after all elements of a message that the array can hold; how far the record is filled then
--   cut-few         at most four pieces are closed
--   number_is       the number of pieces                    lengths_are   their lengths, that of the last one last
--   used_are        the lengths in an array, 0 behind them
-- Trusts: nothing.
use Prim.Native.Nat.{ℕ, ◌+◌, ◌≤◌, ◌<◌}
use mathlib.Core.Path.{◌≡◌, refl, sym, ap, ◌∙◌}
use mathlib.Core.Bool.{Bool, true, false, cond}
use mathlib.Core.List.{List, [], ◌∷◌, ◌++◌, map, append_assoc, append-nil}
use native.Mathlib.Omega.{arith}
use lib.ListN.{length, set, length-append, length-map}
use lib.Dec.{ltb}
use Rattle.table.specs.Table.{padded}
use Rattle.table.proofs.Padded.{padded-more}
use Rattle.wire.specs.Bytes.{concat}
use Rattle.writing_cuts.specs.Pieces.{packed_from, packed, pieces_of, ElementSized}
use Rattle.writing_cuts.specs.Pieces as e
use Rattle.writing_cuts.proofs.Lengths.{packed-last}
use Rattle.writing_cuts.proofs.Pieces.{lengths_pieces}
use Rattle.writing_message.specs.Message.{no_cut, cut_on, cut_all}
use Rattle.writing_message.specs.Filling.{Filled}
use Rattle.writing_message.specs.declared.Cut.{Cut}
use Rattle.writing_message.proofs.Filled.{filled_none, filled_le, filled_more}

pub record CutOf (ns : List ℕ) (c : Cut) : Type 0 where
  pub closed : List ℕ
  pub packs : packed ns ≡ closed ++ (c.now ∷ [])
  pub number : c.closed ≡ length closed
  pub lengths : c.lengths ≡ padded 16 0 closed

pub cut-none : CutOf [] no_cut
unfolding packed packed_from padded
cut-none = record { closed = []; packs = refl; number = refl; lengths = refl }

pub cut-more : (ns : List ℕ) (n : ℕ) {c : Cut} → c.closed < 16 → CutOf ns c → CutOf (ns ++ (n ∷ [])) (cut_on n c)
unfolding cut_on packed
cut-more ns n {c} h k = on (ltb 1497 (c.now + n)) (packed-last 0 ns k.closed c.now n k.packs)
  where
    on : (b : Bool) → packed_from 0 (ns ++ (n ∷ [])) ≡ cond b (k.closed ++ (c.now ∷ n ∷ [])) (k.closed ++ ((c.now + n) ∷ []))
        → CutOf (ns ++ (n ∷ [])) (cond b (record { closed = c.closed + 1; now = n; lengths = set c.lengths c.closed c.now }) (record { closed = c.closed; now = c.now + n; lengths = c.lengths }))
    on true p =
        record {
          closed = k.closed ++ (c.now ∷ []);
          packs = p ∙ sym (append_assoc k.closed (c.now ∷ []) (n ∷ []));
          number = omega (arith, k.number, length-append k.closed (c.now ∷ []));
          lengths = rw (k.lengths, k.number) (padded-more 16 0 k.closed c.now (omega (arith, k.number)));
        }
    on false p = record { closed = k.closed; packs = p; number = k.number; lengths = k.lengths }

-- ---- all elements of a message

pub cut-few : {c : Cut} → Filled 5632 c → c.closed ≤ 4
cut-few f = omega (arith, f.all)

-- the record with a message of so many bytes in it
record CutAt (ns : List ℕ) (bytes : ℕ) (c : Cut) : Type 0 where
  pub cut : CutOf ns c
  pub filled : Filled bytes c

from : (ns : List ℕ) {es : List (List ℕ)} {bytes : ℕ} {c : Cut} → ElementSized es → bytes + length (concat es) ≤ 5632 → CutAt ns bytes c
    → CutAt (ns ++ map length es) (bytes + length (concat es)) (cut_all c (map length es))
unfolding cut_all concat
from ns e.none h k = record { cut = rw (append-nil ns) k.cut; filled = filled_le (omega arith) k.filled }
from ns {bytes = bytes} {c = c} (e.more {e} {es} l u s) h k =
    let m : length (e ++ concat es) ≡ length e + length (concat es) = length-append e (concat es) in
    let one : CutAt (ns ++ (length e ∷ [])) (bytes + length e) (cut_on (length e) c) =
    record { cut = cut-more ns (length e) (omega (arith, cut-few (filled_le (omega arith) k.filled))) k.cut; filled = filled_more u k.filled } in
    let all = from (ns ++ (length e ∷ [])) s (omega arith) one in
    record { cut = rw (append_assoc ns (length e ∷ []) (map length es)) at all.cut; filled = filled_le (omega arith) all.filled }

module _ {es : List (List ℕ)} (sized : ElementSized es) (few : length (concat es) ≤ 5632) where
  at-end : CutAt (map length es) (0 + length (concat es)) (cut_all no_cut (map length es))
  at-end = from [] {bytes = 0} sized (omega arith) (record { cut = cut-none; filled = filled_none })

  pub cut_all_lem : CutOf (map length es) (cut_all no_cut (map length es))
  cut_all_lem = at-end.cut

  pub filled-all : Filled 5632 (cut_all no_cut (map length es))
  filled-all = filled_le (omega arith) at-end.filled

  pub lengths_are : map length (pieces_of es) ≡ cut_all_lem.closed ++ ((cut_all no_cut (map length es)).now ∷ [])
  lengths_are = lengths_pieces es ∙ cut_all_lem.packs

  pub number_is : length (pieces_of es) ≡ (cut_all no_cut (map length es)).closed + 1
  number_is =
      let c = cut_all no_cut (map length es) in
      omega (arith, sym (length-map (pieces_of es) length) ∙ ap length lengths_are, length-append cut_all_lem.closed (c.now ∷ []), cut_all_lem.number)

  pub used_are : let c = cut_all no_cut (map length es) in set c.lengths c.closed c.now ≡ padded 16 0 (map length (pieces_of es))
  used_are =
      let c = cut_all no_cut (map length es) in
      rw (cut_all_lem.lengths, cut_all_lem.number, lengths_are) (padded-more 16 0 cut_all_lem.closed c.now (omega (arith, cut_all_lem.number, cut-few filled-all)))
