-- What the pieces are (specs/Pieces.antt, pieces_of): the message, in few and short pieces.
--
--   lengths_pieces   the lengths of the pieces are the packed lengths of the elements
--   concat_pieces    the pieces, one behind the other, are the elements, one behind the other
--   pieces_some      there is a piece                          pieces_short   each has at most 1,497 bytes
--   pieces_keep      what elements keep when they are joined, every piece has       sized_at    an element's size
--   total-concat     the lengths of the elements are those of the message together
--   pieces_few       every piece but the last has 1,242 bytes or more, so of a message of some bytes there are few
-- Trusts: nothing.
use Prim.Native.Nat.{ℕ, zero, suc, ◌+◌, ◌*◌, ◌≤◌, ◌<◌}
use mathlib.Core.Path.{◌≡◌, refl, sym, ap, ◌∙◌}
use mathlib.Core.Bool.{Bool, true, false, cond}
use mathlib.Core.List.{List, [], ◌∷◌, ◌++◌, map, append_assoc}
use native.Mathlib.Omega.{arith}
use borrow.Author.Tests.{ltb-false}
use lib.ListN.{length, get_or, length-append, length-map}
use lib.Dec.{ltb}
use Rattle.wire.specs.Bytes.{concat}
use Rattle.writing_cuts.specs.Pieces.{pieces_from, pieces_of, packed_from, packed, total, ElementSized}
use Rattle.writing_cuts.specs.Pieces as c
use Rattle.writing_cuts.proofs.Lengths.{Sized, packed-few}
use Rattle.writing_cuts.proofs.Lengths as n

lengths_from : (now : List ℕ) (es : List (List ℕ)) → map length (pieces_from now es) ≡ packed_from (length now) (map length es)
unfolding pieces_from packed_from
lengths_from now [] = refl
lengths_from now (e ∷ es) = on (ltb 1497 (length now + length e)) (lengths_from e es) (lengths_from (now ++ e) es)
  where
    on : (b : Bool) → map length (pieces_from e es) ≡ packed_from (length e) (map length es) → map length (pieces_from (now ++ e) es) ≡ packed_from (length (now ++ e)) (map length es)
        → map length (cond b (now ∷ pieces_from e es) (pieces_from (now ++ e) es)) ≡ cond b (length now ∷ packed_from (length e) (map length es)) (packed_from (length now + length e) (map length es))
    on true p q = ap (λ (l : List ℕ). length now ∷ l) p
    on false p q = q ∙ ap (λ (k : ℕ). packed_from k (map length es)) (length-append now e)

pub lengths_pieces : (es : List (List ℕ)) → map length (pieces_of es) ≡ packed (map length es)
unfolding pieces_of packed
lengths_pieces es = lengths_from [] es

concat_from : (now : List ℕ) (es : List (List ℕ)) → concat (pieces_from now es) ≡ now ++ concat es
unfolding pieces_from concat
concat_from now [] = refl
concat_from now (e ∷ es) = on (ltb 1497 (length now + length e)) (concat_from e es) (concat_from (now ++ e) es)
  where
    on : (b : Bool) → concat (pieces_from e es) ≡ e ++ concat es → concat (pieces_from (now ++ e) es) ≡ (now ++ e) ++ concat es
        → concat (cond b (now ∷ pieces_from e es) (pieces_from (now ++ e) es)) ≡ now ++ (e ++ concat es)
    on true p q = ap (λ (l : List ℕ). now ++ l) p
    on false p q = q ∙ append_assoc now e (concat es)

pub concat_pieces : (es : List (List ℕ)) → concat (pieces_of es) ≡ concat es
unfolding pieces_of
concat_pieces es = concat_from [] es

some_from : (now : List ℕ) (es : List (List ℕ)) → 1 ≤ length (pieces_from now es)
unfolding pieces_from
some_from now [] = omega arith
some_from now (e ∷ es) = on (ltb 1497 (length now + length e)) (some_from (now ++ e) es)
  where
    on : (b : Bool) → 1 ≤ length (pieces_from (now ++ e) es) → 1 ≤ length (cond b (now ∷ pieces_from e es) (pieces_from (now ++ e) es))
    on true p = omega arith
    on false p = p

pub pieces_some : (es : List (List ℕ)) → 1 ≤ length (pieces_of es)
unfolding pieces_of
pieces_some es = some_from [] es

-- a claim that elements keep when they are joined to a piece
module _ (P : List ℕ → Type 0) (join : (a b : List ℕ) → length (a ++ b) ≤ 1497 → P a → P b → P (a ++ b)) where
  keep_from : (now : List ℕ) (es : List (List ℕ)) → P now → ((i : ℕ) → i < length es → P (get_or es i [])) → (k : ℕ) → k < length (pieces_from now es) → P (get_or (pieces_from now es) k [])
  unfolding pieces_from
  keep_from now [] p each zero l = p
  keep_from now [] p each (suc k) l = absurd (omega arith)
  keep_from now (e ∷ es) p each k l =
      let rest : (i : ℕ) → i < length es → P (get_or es i []) = λ i h. each (suc i) (omega arith) in
      on (ltb 1497 (length now + length e)) refl k l (λ i h. keep_from e es (each 0 (omega arith)) rest i h) (λ i h f. keep_from (now ++ e) es (join now e f p (each 0 (omega arith))) rest i h)
    where
      on : (t : Bool) → ltb 1497 (length now + length e) ≡ t → (k : ℕ) → k < length (cond t (now ∷ pieces_from e es) (pieces_from (now ++ e) es))
          → ((i : ℕ) → i < length (pieces_from e es) → P (get_or (pieces_from e es) i []))
          → ((i : ℕ) → i < length (pieces_from (now ++ e) es) → length (now ++ e) ≤ 1497 → P (get_or (pieces_from (now ++ e) es) i []))
          → P (get_or (cond t (now ∷ pieces_from e es) (pieces_from (now ++ e) es)) k [])
      on true x zero l q r = p
      on true x (suc k) l q r = q k (omega arith)
      on false x k l q r = r k l (omega (arith, length-append now e, ltb-false 1497 (length now + length e) x))

  pub pieces_keep : (es : List (List ℕ)) → P [] → ((i : ℕ) → i < length es → P (get_or es i [])) → (k : ℕ) → k < length (pieces_of es) → P (get_or (pieces_of es) k [])
  unfolding pieces_of
  pieces_keep es = keep_from [] es

pub sized_at : {es : List (List ℕ)} → ElementSized es → (i : ℕ) → i < length es → (1 ≤ length (get_or es i [])) × (length (get_or es i []) ≤ 256)
sized_at c.none i h = absurd (omega arith)
sized_at (c.more a b s) zero h = (a, b)
sized_at (c.more a b s) (suc i) h = sized_at s i (omega arith)

pub pieces_short : {es : List (List ℕ)} → ElementSized es → (k : ℕ) → k < length (pieces_of es) → length (get_or (pieces_of es) k []) ≤ 1497
pieces_short {es} s = pieces_keep (λ p. length p ≤ 1497) (λ a b h p q. h) es (omega arith) (λ i h. omega (arith, (sized_at s i h).1))

total-concat : (es : List (List ℕ)) → total (map length es) ≡ length (concat es)
unfolding total concat
total-concat [] = refl
total-concat (e ∷ es) = omega (arith, total-concat es, length-append e (concat es))

sized : {es : List (List ℕ)} → ElementSized es → Sized (map length es)
sized c.none = n.none
sized (c.more a b s) = n.more a b (sized s)

number : (es : List (List ℕ)) → length (pieces_of es) ≡ length (packed (map length es))
number es = sym (length-map (pieces_of es) length) ∙ ap length (lengths_pieces es)

pub pieces_few : {es : List (List ℕ)} → ElementSized es → 1 ≤ length (concat es) → 1242 * length (pieces_of es) < length (concat es) + 1242
unfolding packed
pieces_few {es} s h = omega (arith, packed-few 0 (sized s) (omega (arith, total-concat es)), number es, total-concat es)
