-- A number's bytes stored from the last to the first (specs/Encode.antt of writing_elements, big_endian).
--
--   Stored ..       there is room, the last bytes stand, and the first k are those of what is left
--   stored-none, stored_more, stored-all     before the first turn, after one more, after the last
--   stored-length   the buffer's length                wrote-element   the head and the number
-- Trusts: nothing.
use Prim.Native.Nat.{ℕ, suc, ◌+◌, ◌/◌, ◌%◌, ◌≤◌}
use mathlib.Core.Path.{◌≡◌, refl, sym, ap, subst, ◌∙◌}
use mathlib.Core.List.{List, [], ◌∷◌, ◌++◌, append_assoc, append-nil}
use native.Mathlib.Omega.{arith}
use lib.ListN.{length, set, length-append}
use Rattle.wire.specs.Bytes.{pasted}
use Rattle.wire.proofs.Laws.{length-pasted}
use Rattle.texts.specs.Writing.{Wrote}
use Rattle.texts.proofs.Written.{wrote_same, wrote_none, wrote_byte, wrote_then}
use Rattle.writing_elements.specs.Encode.{big_endian, element}
use Rattle.writing_elements.proofs.Stands.{length-big_endian}
use Rattle.writing_numbers.proofs.Heads.{set-pasted, wrote-head}

-- `b` is the buffer with the element's head
pub record Stored (width n : ℕ) (b : List ℕ) (at : ℕ) (new : List ℕ) (rest k : ℕ) : Type 0 where
  pub few : k ≤ width
  pub room : at + 2 + width ≤ length b
  pub last : List ℕ
  pub text : big_endian width n ≡ big_endian k rest ++ last
  pub bytes : Wrote b (at + 2 + k) last new (at + 2 + width)

module _ (width n : ℕ) (b : List ℕ) (at : ℕ) where
  pub stored-none : at + 2 + width ≤ length b → Stored width n b at b n width
  stored-none h = record { few = omega arith; room = h; last = []; text = sym (append-nil (big_endian width n)); bytes = wrote_none _ _ }

  module _ {new : List ℕ} {rest k : ℕ} (s : Stored width n b at new rest k) where
    same_count_lem : length s.last + k ≡ width
    same_count_lem = omega (arith, length-big_endian width n, length-big_endian k rest, ap length s.text, length-append (big_endian k rest) s.last)

    pub stored-length : length new ≡ length b
    stored-length = ap length s.bytes.bytes ∙ length-pasted b (at + 2 + k) s.last

    pub stored_more : (j : ℕ) → k ≡ suc j → Stored width n b at (set new (at + 2 + j) (rest % 256)) (rest / 256) j
    unfolding big_endian
    stored_more j e =
        let i = at + 2 + j in
        let x = rest % 256 in
        let one = wrote_byte b i x (record { room = omega (arith, same_count_lem, s.room) }) in
        let next : at + 2 + k ≡ i + 1 = omega arith in
        let two : Wrote (set b i x) (i + 1) s.last (pasted (set b i x) (i + 1) s.last) (at + 2 + width) = record { bytes = refl; place = omega (arith, same_count_lem) } in
        let is : set new i x ≡ pasted (set b i x) (i + 1) s.last =
        ap (λ (l : List ℕ). set l i x) s.bytes.bytes ∙ set-pasted b (at + 2 + k) s.last i x (omega arith) (omega (arith, same_count_lem, s.room)) ∙ ap (λ (p : ℕ). pasted (set b i x) p s.last) next in
        record {
          few = omega (arith, s.few);
          room = s.room;
          last = x ∷ s.last;
          text = s.text ∙ ap (λ (p : ℕ). big_endian p rest ++ s.last) e ∙ append_assoc (big_endian j (rest / 256)) (x ∷ []) s.last;
          bytes = subst (λ (l : List ℕ). Wrote b i (x ∷ s.last) l (at + 2 + width)) (sym is) (wrote_then {s = x ∷ []} {t = s.last} (record { room = omega (arith, same_count_lem, s.room) }) one two);
        }

    pub stored-all : k ≡ 0 → Wrote b (at + 2) (big_endian width n) new (at + 2 + width)
    unfolding big_endian
    stored-all z =
        let e : s.last ≡ big_endian width n = sym (s.text ∙ ap (λ (p : ℕ). big_endian p rest ++ s.last) z) in
        let here : at + 2 + k ≡ at + 2 = omega arith in
        wrote_same e (subst (λ (p : ℕ). Wrote b p s.last new (at + 2 + width)) here s.bytes)

-- the head and the number
pub wrote-element : (kind width n : ℕ) (out : List ℕ) (at : ℕ) {new : List ℕ} {next : ℕ} → at + 2 + width ≤ length out
    → Wrote (set (set out at kind) (at + 1) width) (at + 2) (big_endian width n) new next → Wrote out at (element kind (big_endian width n)) new next
wrote-element kind width n out at room w =
    let e = length-big_endian width n in
    wrote_same (ap (λ (p : ℕ). kind ∷ p ∷ big_endian width n) (sym e))
    (wrote_then {s = kind ∷ width ∷ []} {t = big_endian width n} (record { room = omega arith }) (wrote-head out at kind width (omega arith)) w)
