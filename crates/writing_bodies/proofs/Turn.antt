-- A turn of `lay_all`, on plain values (specs/Bodies.antt).
--
--   laid_one        a head stored and a piece copied behind it: one body laid
--   Laying ..       after k turns: what is still to be laid, laid into the buffer as it is, is all laid into the buffer as it was
--   laying_none     before the first turn                  laying_more    one body more
--   laying_all      after the last turn
-- Trusts: nothing.
use Prim.Native.Nat.{ℕ, ◌+◌, ◌-◌, ◌*◌, ◌≤◌, ◌<◌}
use mathlib.Core.Path.{◌≡◌, refl, sym, ap, ◌∙◌}
use mathlib.Core.Bool.{Bool, true, false, cond}
use mathlib.Core.List.{List, [], ◌∷◌, ◌++◌}
use native.Mathlib.Omega.{arith}
use native.Mathlib.Numerals.{add-one}
use borrow.Author.Tests.{ltb-true}
use lib.ListN.{length, get_or, take, drop, set, length-append, length-drop, drop_of_length-le}
use lib.Seq.{drop-cons, drop-drop, take_all, take-length, drop-length}
use lib.Dec.{ltb}
use Rattle.table.specs.Table.{limited_to}
use Rattle.table.proofs.Laws.{limited_to_le}
use Rattle.wire.specs.Bytes.{pasted}
use Rattle.wire.proofs.Laws.{length-pasted}
use Rattle.texts.specs.Writing.{Wrote}
use Rattle.texts.proofs.Written.{wrote_none, wrote_byte, wrote_then}
use Rattle.writing_bodies.specs.Bodies.{laid, cut_by}
use Rattle.writing_bodies.proofs.Laws.{length-laid}

-- ---- one body

-- a byte stored behind what was written
then_byte : {out text new : List ℕ} {at next end : ℕ} (b : ℕ) → at + length text + 1 ≤ length out → end ≡ next + 1 → Wrote out at text new next → Wrote out at (text ++ (b ∷ [])) (set new next b) end
then_byte {out} {text} {new} {at} {next} b h e w =
    let one = wrote_byte new next b (record { room = omega (arith, w.place, ap length w.bytes ∙ length-pasted out at text) }) in
    wrote_then (record { room = omega (arith, length-append text (b ∷ [])) }) w (record { bytes = one.bytes; place = e ∙ one.place })

pub laid_one : (count n k : ℕ) (p out : List ℕ) {at : ℕ} → at ≡ k * 1500 → k * 1500 + 3 + length p ≤ length out
    → {new : List ℕ} → new ≡ pasted (set (set (set out at count) (at + 1) n) (at + 2) (k + 1)) (at + 3) p → new ≡ laid count n k (p ∷ []) out
unfolding laid
laid_one count n k p out {at} e h w =
    let head : Wrote out at (count ∷ n ∷ (k + 1) ∷ []) (set (set (set out at count) (at + 1) n) (at + 2) (k + 1)) (at + 3) =
    then_byte (k + 1) (omega arith) (omega arith) (then_byte n (omega arith) (omega arith) (then_byte count (omega arith) refl (wrote_none out at))) in
    (wrote_then {s = count ∷ n ∷ (k + 1) ∷ []} {t = p} (record { room = omega arith }) head (record { bytes = w; place = refl })).bytes
    ∙ ap (λ (x : ℕ). pasted out x (count ∷ n ∷ (k + 1) ∷ p)) e

-- ---- the loop over the pieces

-- a piece ends where the message ends
take-limited : (n : ℕ) (l : List ℕ) → take (limited_to (length l) n) l ≡ take n l
take-limited n l = on (ltb (length l) n) refl
  where
    on : (b : Bool) → ltb (length l) n ≡ b → take (cond b (length l) n) l ≡ take n l
    on true e = take-length l ∙ sym (take_all n l (omega (arith, ltb-true (length l) n e)))
    on false e = refl

drop-limited : (n : ℕ) (l : List ℕ) → drop (limited_to (length l) n) l ≡ drop n l
drop-limited n l = on (ltb (length l) n) refl
  where
    on : (b : Bool) → ltb (length l) n ≡ b → drop (cond b (length l) n) l ≡ drop n l
    on true e = drop-length l ∙ sym (drop_of_length-le l {i = n} (omega (arith, ltb-true (length l) n e)))
    on false e = refl

pub record Laying (count number : ℕ) (ls message out : List ℕ) (new : List ℕ) (from k : ℕ) : Type 0 where
  pub few : k ≤ length ls
  pub within : from ≤ length message
  pub same : length new ≡ length out
  pub goes : laid count number k (cut_by (drop k ls) (drop from message)) new ≡ laid count number 0 (cut_by ls message) out

module _ (count number : ℕ) (ls message out : List ℕ) where
  pub laying_none : Laying count number ls message out out 0 0
  laying_none = record { few = omega arith; within = omega arith; same = refl; goes = refl }

  module _ {new : List ℕ} {from k : ℕ} (l : Laying count number ls message out new from k) where
    pub laying_more : {last : List ℕ} {m : ℕ} → k < length ls → m ≡ limited_to (length message - from) (get_or ls k 0)
        → last ≡ laid count number k (take m (drop from message) ∷ []) new → Laying count number ls message out last (from + m) (k + 1)
    unfolding laid cut_by
    laying_more {last} {m} h e w =
        let n = get_or ls k 0 in
        let rest = drop from message in
        let f : m ≡ limited_to (length rest) n = e ∙ ap (λ (x : ℕ). limited_to x n) (sym (length-drop from message)) in
        let some : drop k ls ≡ n ∷ drop (k + 1) ls = drop-cons ls k 0 h ∙ ap (λ (j : ℕ). n ∷ drop j ls) (sym (add-one k)) in
        let here : take m rest ≡ take n rest = ap (λ (x : ℕ). take x rest) f ∙ take-limited n rest in
        let behind : drop (from + m) message ≡ drop n rest = sym (drop-drop m from message) ∙ ap (λ (x : ℕ). drop x rest) f ∙ drop-limited n rest in
        record {
          few = omega arith;
          within = omega (arith, e, limited_to_le (length message - from) n, l.within);
          same = ap length w ∙ length-laid count number k (take m rest ∷ []) new ∙ l.same;
          goes =
              ap (λ (x : List ℕ). laid count number (k + 1) (cut_by (drop (k + 1) ls) x) last) behind
              ∙ ap (laid count number (k + 1) (cut_by (drop (k + 1) ls) (drop n rest))) (w ∙ ap (λ (p : List ℕ). laid count number k (p ∷ []) new) here)
              ∙ ap (λ (x : List ℕ). laid count number k (cut_by x rest) new) (sym some) ∙ l.goes;
        }

    pub laying_all : length ls ≤ k → new ≡ laid count number 0 (cut_by ls message) out
    unfolding laid cut_by
    laying_all h = rw (drop_of_length-le ls {i = k} h) at l.goes
