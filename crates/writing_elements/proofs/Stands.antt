-- Bytes that stand at a place of a message, and what the definitions of reading see there.
--
--   Stands msg at e     the bytes e stand in the message from `at` on
--   stands_first, stands_then     both halves of bytes that stand there
--   stands_byte         the first of them                    stands_value   an element's value, behind its head
--   stands_number       a number                             stands_part    as a part of the message
--   stands_head         the head of an element
-- Trusts: nothing.
use Prim.Native.Nat.{ℕ, zero, suc, ◌+◌, ◌^◌, ◌/◌, ◌%◌, ◌≤◌, ◌<◌}
use mathlib.Core.Path.{◌≡◌, refl, sym, ap, ◌∙◌}
use mathlib.Core.List.{List, [], ◌∷◌, ◌++◌, append_assoc}
use native.Mathlib.Omega.{arith}
use native.Mathlib.Nat.{add-zero, pow-suc, pow-zero, div-add-mod', div-lt_iff_lt-mul}
use lib.ListN.{length, get_or, take, drop, length-append}
use lib.Seq.{drop-drop, drop-append_seam, take-append_seam, get_or-drop}
use Rattle.numbers.specs.Numbers.{number_at}
use Rattle.elements.specs.Elements.{Value, head_at}
use Rattle.elements.proofs.Laws.{head_at-whole}
use Rattle.writing_elements.specs.Encode.{big_endian, element}

pub record Stands (msg : List ℕ) (at : ℕ) (e : List ℕ) : Type 0 where
  pub fits : at + length e ≤ length msg
  pub rest : List ℕ
  pub bytes : drop at msg ≡ e ++ rest

module _ {msg : List ℕ} {at : ℕ} where
  pub stands_first : (a b : List ℕ) → Stands msg at (a ++ b) → Stands msg at a
  stands_first a b s =
      record { fits = omega (arith, length-append a b, s.fits); rest = b ++ s.rest; bytes = s.bytes ∙ append_assoc a b s.rest }

  pub stands_then : (a b : List ℕ) → Stands msg at (a ++ b) → Stands msg (at + length a) b
  stands_then a b s =
      record {
        fits = omega (arith, length-append a b, s.fits);
        rest = s.rest;
        bytes = sym (drop-drop (length a) at msg) ∙ ap (drop (length a)) (s.bytes ∙ append_assoc a b s.rest) ∙ drop-append_seam a (b ++ s.rest);
      }

  pub stands_byte : {x : ℕ} {e : List ℕ} → Stands msg at (x ∷ e) → get_or msg at 0 ≡ x
  stands_byte s = ap (λ (k : ℕ). get_or msg k 0) (sym (add-zero at)) ∙ sym (get_or-drop at msg 0 0) ∙ ap (λ (l : List ℕ). get_or l 0 0) s.bytes

  pub stands_part : {e : List ℕ} → Stands msg at e → take (length e) (drop at msg) ≡ e
  stands_part {e} s = ap (take (length e)) s.bytes ∙ take-append_seam e s.rest

module _ {msg : List ℕ} {at kind : ℕ} {v : List ℕ} (s : Stands msg at (element kind v)) where
  pub stands_value : Stands msg (at + 2) v
  stands_value = stands_then (kind ∷ length v ∷ []) v s

  stands_length : get_or msg (at + 1) 0 ≡ length v
  stands_length = stands_byte (stands_then (kind ∷ []) (length v ∷ v) s)

  pub stands_head : (end : ℕ) → length v ≤ 254 → at + 2 + length v ≤ end → head_at msg at end ≡ Value (length v)
  stands_head end few room =
      head_at-whole msg at end (omega (arith, s.fits)) (sym stands_length) (λ z. omega (arith, z)) (omega (arith, s.fits))

pub length-big_endian : (w n : ℕ) → length (big_endian w n) ≡ w
unfolding big_endian
length-big_endian zero n = refl
length-big_endian (suc w) n = length-append (big_endian w (n / 256)) (n % 256 ∷ []) ∙ omega (arith, length-big_endian w (n / 256))

pub stands_number : (msg : List ℕ) (at w n : ℕ) → n < 256 ^ w → Stands msg at (big_endian w n) → number_at w msg at ≡ n
unfolding big_endian number_at
stands_number msg at zero n h s = omega (arith, pow-zero 256)
stands_number msg at (suc w) n h s =
    let front : number_at w msg at ≡ n / 256 =
    stands_number msg at w (n / 256) ((div-lt_iff_lt-mul {k = 256} {x = n} {y = 256 ^ w} (omega arith)).1 (omega (arith, pow-suc 256 w))) (stands_first _ _ s) in
    let last : get_or msg (at + w) 0 ≡ n % 256 =
    ap (λ (k : ℕ). get_or msg (at + k) 0) (sym (length-big_endian w (n / 256))) ∙ stands_byte (stands_then (big_endian w (n / 256)) (n % 256 ∷ []) s) in
    omega (arith, front, last, div-add-mod' n 256)
