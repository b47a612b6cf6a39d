-- How long a field can be (specs/Text.antt), and short texts written one behind the other.
--
--   join-short      two texts, one behind the other        end_short         a text is as long as it is
--   field-short     a word and a number below a bound      count-short       a word and a count
--   address-short   a word and twelve hexadecimal digits   lined_then        two texts that are short, written one behind the other
--   lined-most      a text that is short is no longer than more bytes      lined_room   the room that is left behind it
-- Trusts: nothing.
use Prim.Native.Nat.{ℕ, suc, ◌+◌, ◌^◌, ◌≤◌, ◌<◌}
use mathlib.Core.Path.{ap, ◌∙◌}
use mathlib.Core.List.{List, ◌++◌}
use native.Mathlib.Omega.{arith}
use native.Mathlib.Nat.{lt_of_lt_of_le, lt_of_le_of_lt, le_refl}
use lib.ListN.{length, length-append}
use lib.Dec.{T, leb, ltb, leb→le, le→leb, ltb→lt}
use Rattle.wire.proofs.Laws.{length-pasted}
use Rattle.texts.specs.Writing.{Short, Lined}
use Rattle.texts.specs.Text.{field, address}
use Rattle.texts.proofs.Numbers.{length-decimal, length-hexadecimal}
use Rattle.texts.proofs.Written.{fits-most, wrote_then}

pub join-short : {a b : List ℕ} (m n : ℕ) → Short m a → Short n b → Short (m + n) (a ++ b)
join-short {a} {b} m n p q = record { bytes = omega (arith, length-append a b, p.bytes, q.bytes) }

pub end_short : (text : List ℕ) → Short (length text) text
end_short text = record { bytes = le_refl (length text) }

-- a number below `bound`, which is no more than 10 ^ (k + 1)
pub field-short : (word : List ℕ) (k : ℕ) {n bound : ℕ} → n < bound → T (leb bound (10 ^ suc k)) → Short (length word + suc k) (field word n)
unfolding field
field-short word k {n} {bound} h t =
    join-short (length word) (suc k) (end_short word) (record { bytes = length-decimal k n (lt_of_lt_of_le h (leb→le bound (10 ^ suc k) t)) })

pub address-short : (word : List ℕ) (n : ℕ) → Short (length word + 12) (address word n)
unfolding address
address-short word n = join-short (length word) 12 (end_short word) (record { bytes = omega (arith, length-hexadecimal 12 n) })

-- a count that is no more than its limit
pub count-short : (word : List ℕ) (k limit : ℕ) {n : ℕ} → n ≤ limit → T (ltb limit (10 ^ suc k)) → Short (length word + suc k) (field word n)
count-short word k limit h t = field-short word k (lt_of_le_of_lt h (ltb→lt limit (10 ^ suc k) t)) (le→leb (10 ^ suc k) (10 ^ suc k) (le_refl (10 ^ suc k)))

-- what is left of the room behind a text that is short
pub lined_room : {out : List ℕ} {at : ℕ} {s new : List ℕ} {next : ℕ} (m n : ℕ) → at + (m + n) ≤ length out → Lined m out at s new next → next + n ≤ length new
lined_room {out} {at} {s} m n h v = omega (arith, v.wrote.place, v.short.bytes, ap length v.wrote.bytes ∙ length-pasted out at s)

-- what follows the first text is told that it has room
pub lined_then : {out : List ℕ} {at : ℕ} {s t new last : List ℕ} {next end : ℕ} (m n : ℕ) → at + (m + n) ≤ length out → Lined m out at s new next
    → (next + n ≤ length new → Lined n new next t last end) → Lined (m + n) out at (s ++ t) last end
lined_then m n h v follows =
    let w = follows (lined_room m n h v) in
    let short = join-short m n v.short w.short in
    record { wrote = wrote_then (fits-most (m + n) h short) v.wrote w.wrote; short = short }

pub lined-most : {out : List ℕ} {at : ℕ} {text new : List ℕ} {next : ℕ} (m n : ℕ) → m ≤ n → Lined m out at text new next → Lined n out at text new next
lined-most m n h w = record { wrote = w.wrote; short = record { bytes = omega (arith, w.short.bytes) } }
