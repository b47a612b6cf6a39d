-- Laws of `head_at` (specs/Elements.antt): one for each answer, in the order in which the tests are made, and what an answer says.
--
--   head_at-end     no byte left        End           head_at_lone    one byte left      Refused 6
--   head_at_255     the length is 255   Refused 7     head_at_past    value too long     Refused 8
--   head_at-whole   the value lies in the row: its length
--   head_at_says    what any answer says of the place; of each answer by itself:
--   head_at_ends    End: no byte left                    head_at_starts   Refused n: 6 to 8, and a type byte is there
--   head_at-fits    Value len: two bytes and len more lie in the row and in the message, and len is the length byte
-- Trusts: nothing.
use Prim.Native.Nat.{ℕ, ◌+◌, ◌≤◌, ◌<◌, min}
use mathlib.Core.Path.{◌≡◌, refl, sym, ap, ◌∙◌}
use mathlib.Core.Bool.{Bool, true, false, cond}
use mathlib.Core.List.{List}
use native.Mathlib.Omega.{arith}
use borrow.Author.Tests.{le-leb, lt-leb, eq-eqb, ne_eqb, lt-ltb, le-ltb, leb-true, leb-false, eqb-true, eqb-false, ltb-true, ltb-false}
use lib.ListN.{length, get_or}
use lib.Dec.{eqb, leb, ltb}
use Rattle.elements.specs.Elements.{Head, End, Refused, Value, head_at, length_byte}

module _ (msg : List ℕ) (at end : ℕ) where
  pub head_at-end : min end (length msg) ≤ at → head_at msg at end ≡ End
  unfolding head_at
  head_at-end h = simp (le-leb (min end (length msg)) at h)

  pub head_at_lone : min end (length msg) ≡ at + 1 → head_at msg at end ≡ Refused 6
  unfolding head_at
  head_at_lone h = simp (lt-leb (min end (length msg)) at (omega arith), eq-eqb (min end (length msg)) (at + 1) h)

  module _ {len : ℕ} (two : at + 2 ≤ min end (length msg)) (e : len ≡ length_byte msg at) where
    pub head_at_255 : len ≡ 255 → head_at msg at end ≡ Refused 7
    unfolding head_at
    head_at_255 h =
        simp
        (lt-leb (min end (length msg)) at (omega arith), ne_eqb (min end (length msg)) (at + 1) (λ x. omega arith), ← e, eq-eqb len 255 h)

    module _ (n : len ≡ 255 → ⊥) where
      pub head_at_past : min end (length msg) < at + 2 + len → head_at msg at end ≡ Refused 8
      unfolding head_at
      head_at_past h =
          simp
          (lt-leb (min end (length msg)) at (omega arith), ne_eqb (min end (length msg)) (at + 1) (λ x. omega arith), ← e, ne_eqb len 255 n, lt-ltb (min end (length msg)) (at + 2 + len) h)

      pub head_at-whole : at + 2 + len ≤ min end (length msg) → head_at msg at end ≡ Value len
      unfolding head_at
      head_at-whole h =
          simp
          (lt-leb (min end (length msg)) at (omega arith), ne_eqb (min end (length msg)) (at + 1) (λ x. omega arith), ← e, ne_eqb len 255 n, le-ltb (min end (length msg)) (at + 2 + len) h)

-- what an answer says of the place
abbrev pub Says : List ℕ → ℕ → ℕ → Head → Type 0
Says msg at end End = min end (length msg) ≤ at
Says msg at end (Refused n) = (6 ≤ n) × (n ≤ 8) × (at < end) × (at < length msg)
Says msg at end (Value len) = (at + 2 + len ≤ end) × (at + 2 + len ≤ length msg) × (len ≡ length_byte msg at)

pub head_at_says : (msg : List ℕ) (at end : ℕ) → Says msg at end (head_at msg at end)
unfolding head_at
head_at_says msg at end =
    go (leb stop at) (eqb stop (at + 1)) (eqb (length_byte msg at) 255) (ltb stop (at + 2 + length_byte msg at)) refl refl refl refl
  where
    stop : ℕ
    stop = min end (length msg)

    go : (a b c d : Bool) → leb stop at ≡ a → eqb stop (at + 1) ≡ b → eqb (length_byte msg at) 255 ≡ c → ltb stop (at + 2 + length_byte msg at) ≡ d
        → Says msg at end (cond a End (cond b (Refused 6) (cond c (Refused 7) (cond d (Refused 8) (Value (length_byte msg at))))))
    go true b c d p q r s = leb-true stop at p
    go false true c d p q r s = let h = leb-false stop at p in (omega arith, omega arith, omega arith, omega arith)
    go false false true d p q r s = let h = leb-false stop at p in (omega arith, omega arith, omega arith, omega arith)
    go false false false true p q r s = let h = leb-false stop at p in (omega arith, omega arith, omega arith, omega arith)
    go false false false false p q r s = let h = ltb-false stop (at + 2 + length_byte msg at) s in (omega arith, omega arith, refl)

module _ (msg : List ℕ) (at end : ℕ) where
  pub head_at_ends : head_at msg at end ≡ End → min end (length msg) ≤ at
  head_at_ends e = rw e at (head_at_says msg at end)

  pub head_at_starts : {n : ℕ} → head_at msg at end ≡ Refused n → (6 ≤ n) × (n ≤ 8) × (at < end) × (at < length msg)
  head_at_starts e = rw e at (head_at_says msg at end)

  pub head_at-fits : {len : ℕ} → head_at msg at end ≡ Value len → (at + 2 + len ≤ end) × (at + 2 + len ≤ length msg) × (len ≡ length_byte msg at)
  head_at-fits e = rw e at (head_at_says msg at end)
