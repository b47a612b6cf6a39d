-- What `write_table` has in hand when the message is written: the record of its pieces, and its bytes in the array.
--
--   cut_is, message_in_lem, bytes_are     the record of the pieces; the message lies in the array; its bytes
--   closed_few     at most four pieces are closed
--   need_is        where the last body ends                     pieces_in_lem      each length in use is a piece's, at most 1,497
--   lengths-more   a turn of `body_lengths`                     bodies_are     the answer, and the buffer with the bodies
-- Trusts: nothing.
use Prim.Native.Nat.{ℕ, ◌+◌, ◌*◌, ◌≤◌, ◌<◌}
use mathlib.Core.Path.{◌≡◌, refl, sym, ap, ◌∙◌}
use mathlib.Core.List.{List, [], ◌∷◌, ◌++◌, map, map-map, map-append}
use native.Mathlib.Omega.{arith}
use native.Mathlib.Numerals.{add-one}
use borrow.Author.Tests.{le-ltb}
use lib.ListN.{length, get_or, take, set, length-map, get_or-append, get_or-map}
use lib.Seq.{take-suc, length-take-le}
use Rattle.table.specs.Table.{limited_to, padded}
use Rattle.table.specs.declared.Table.{Table}
use Rattle.table.proofs.Padded.{padded-more, take-padded}
use Rattle.wire.specs.Bytes.{pasted, concat}
use Rattle.wire.proofs.Laws.{length-pasted, held_whole}
use Rattle.writing_cuts.specs.Pieces.{pieces_of}
use Rattle.writing_cuts.proofs.Pieces.{concat_pieces, pieces_short}
use Rattle.writing_elements.specs.Encode.{elements_of, message_of}
use Rattle.writing_elements.proofs.Messages.{length-message_of}
use Rattle.writing_bodies.specs.Bodies.{laid, needed_bytes, cut_by}
use Rattle.writing_bodies.proofs.Laws.{needed_last, cut_by-concat}
use Rattle.writing_message.specs.Message.{Held, message_in, no_cut, cut_all}
use Rattle.writing_message.specs.declared.Cut.{Cut}
use Rattle.writing_message.specs.declared.Message.{Message}
use Rattle.writing_message.proofs.Cuts.{cut-few, cut_all_lem, filled-all, lengths_are, number_is, used_are}
use Rattle.writing_message.proofs.Sized.{elements_of_sized}
use Rattle.writing_table.specs.Writing.{bodies}

-- a piece's length and that of its head
abbrev pub with_head : ℕ → ℕ
with_head n = n + 3

pub lengths-more : (pieces : List ℕ) (k : ℕ) → length pieces ≡ 16 → k < 16 → set (padded 16 0 (map with_head (take k pieces))) k (get_or pieces k 0 + 3) ≡ padded 16 0 (map with_head (take (k + 1) pieces))
lengths-more pieces k size h =
    let ls = map with_head (take k pieces) in
    let n : length ls ≡ k = length-map (take k pieces) with_head ∙ length-take-le k pieces (omega arith) in
    let more : ls ++ (with_head (get_or pieces k 0) ∷ []) ≡ map with_head (take (k + 1) pieces) = rw (add-one k, take-suc pieces k 0 (omega arith), map-append with_head (take k pieces) (get_or pieces k 0 ∷ [])) refl in
    ap (λ (j : ℕ). set (padded 16 0 ls) j (get_or pieces k 0 + 3)) (sym n) ∙ padded-more 16 0 ls (with_head (get_or pieces k 0)) (omega arith) ∙ ap (padded 16 0) more

module _ (t : Table) where
  abbrev ps : List (List ℕ)
  ps = pieces_of (elements_of t)

  few : length (concat (elements_of t)) ≤ 5632
  unfolding message_of
  few = omega (arith, length-message_of t)

  module _ {c : Cut} (e : c ≡ cut_all no_cut (map length (elements_of t))) where
    pub closed_few : c.closed ≤ 4
    closed_few = rw e (cut-few (filled-all (elements_of_sized t) few))

    number_of : length ps ≡ c.closed + 1
    number_of = rw e (number_is (elements_of_sized t) few)

    pub need_is : needed_bytes ps ≡ c.closed * 1500 + 3 + c.now
    need_is =
        let k = cut_all_lem (elements_of_sized t) few in
        rw e (needed_last ps k.closed (cut_all no_cut (map length (elements_of t))).now (lengths_are (elements_of_sized t) few) ∙ rw k.number refl)

    pieces_are : set c.lengths c.closed c.now ≡ padded 16 0 (map length ps)
    pieces_are = rw e (used_are (elements_of_sized t) few)

    pub pieces_in_lem : (k : ℕ) → k < c.closed + 1 → get_or (set c.lengths c.closed c.now) k 0 ≤ 1497
    unfolding padded
    pieces_in_lem k h =
        let same : get_or (padded 16 0 (map length ps)) k 0 ≡ length (get_or ps k []) =
        get_or-append (map length ps) _ 0 k (omega (arith, length-map ps length, number_of)) ∙ get_or-map length ps k [] in
        rw (pieces_are, same) (pieces_short (elements_of_sized t) k (omega (arith, number_of)))

    used : take (limited_to 16 (c.closed + 1)) (set c.lengths c.closed c.now) ≡ map length ps
    used =
        let n : c.closed + 1 ≡ length (map length ps) = sym number_of ∙ sym (length-map ps length) in
        rw (pieces_are, n) (take-padded 16 0 (map length ps) (omega (arith, closed_few)))

    pub bodies_are : (count : ℕ) (out : List ℕ) {message last ls : List ℕ} → message ≡ concat ps
        → last ≡ laid count (c.closed + 1) 0 (cut_by (take (limited_to 16 (c.closed + 1)) (set c.lengths c.closed c.now)) message) out
        → ls ≡ padded 16 0 (map with_head (take (c.closed + 1) (set c.lengths c.closed c.now)))
        → record { answer = record { refused = 0; number = c.closed + 1; lengths = ls }; out = last } ≡ bodies count ps out
    bodies_are count out {message} {last} {ls} m l h =
        let some : take (c.closed + 1) (set c.lengths c.closed c.now) ≡ map length ps = rw (le-ltb 16 (c.closed + 1) (omega (arith, closed_few))) at used in
        let laying : last ≡ laid count (length ps) 0 ps out = l ∙ rw (used, m, cut_by-concat ps, number_of) refl in
        let long : ls ≡ padded 16 0 (map (λ p. length p + 3) ps) = h ∙ rw (some, map-map with_head length ps) refl in
        rw (laying, long, number_of) refl

-- the message in the array
module _ (t : Table) (held : List ℕ) {m : Message} {new : List ℕ} (w : record { message = m; held = new } ≡ message_in t held) where
  pub cut_is : m.cut ≡ cut_all no_cut (map length (elements_of t))
  unfolding message_in
  cut_is = ap (λ (h : Held). h.message.cut) w

  length_is : m.length ≡ length (message_of t)
  unfolding message_in
  length_is = ap (λ (h : Held). h.message.length) w

  new_is : new ≡ pasted held 0 (message_of t)
  unfolding message_in
  new_is = ap (λ (h : Held). h.held) w

  module _ (size : length held ≡ 5632) where
    pub message_in_lem : m.length ≤ length new
    message_in_lem = omega (arith, length_is, length-message_of t, ap length new_is ∙ length-pasted held 0 (message_of t))

    pub bytes_are : take m.length new ≡ concat (pieces_of (elements_of t))
    unfolding message_of
    bytes_are = rw (length_is, new_is) (held_whole held (message_of t) (omega (arith, length-message_of t)) ∙ sym (concat_pieces (elements_of t)))
