-- Laws of `put` (specs/Put.antt).
--
--   put_past     no room: nothing is written           put-room     what was written, where it has room
--   put→wrote    what `put` says of a text that has room     put_first     of the first of two
--   room_left    the test of the room, made without a sum
--   room_past, room_fits     what the test says of a word and digits behind it
--   wrote_put    a first text that was put, and what is written behind it      wrote_end     the last text
--   lined-put    a text that is short has room                put_byte-room, put_byte_past     of one byte
-- Trusts: nothing.
use Prim.Native.Nat.{ℕ, ◌+◌, ◌-◌, ◌≤◌, ◌<◌}
use mathlib.Core.Path.{◌≡◌, refl, sym, ap, ◌∙◌}
use mathlib.Core.Bool.{Bool, true, false}
use mathlib.Core.List.{List, [], ◌∷◌, ◌++◌}
use native.Mathlib.Omega.{arith}
use lib.ListN.{length, set, length-append}
use lib.Dec.{leb}
use borrow.Author.Tests.{leb-true, leb-false, le-leb, lt-leb}
use Rattle.wire.specs.Bytes.{pasted}
use Rattle.texts.specs.Put.{Put, put}
use Rattle.texts.specs.Writing.{Fits, Wrote, Short, Lined}
use Rattle.texts.proofs.Written.{fits-most, fits-first, fits_rest, wrote_byte, wrote_then}

pub put_past : (text out : List ℕ) (at : ℕ) → leb (at + length text) (length out) ≡ false → record { next = at; out = out } ≡ put text out at
unfolding put
put_past text out at e = rw e refl

pub put-room : {text out new : List ℕ} {at next : ℕ} → Fits out at text → Wrote out at text new next → record { next = next; out = new } ≡ put text out at
unfolding put
put-room {text} {out} {new} {at} {next} h w = rw (le-leb (at + length text) (length out) h.room, w.place, w.bytes) refl

pub put→wrote : {text out new : List ℕ} {at next : ℕ} → Fits out at text → record { next = next; out = new } ≡ put text out at → Wrote out at text new next
unfolding put
put→wrote {text} {out} {new} {at} {next} h e =
    let f : ◌≡◌ {A = Put} (record { next = next; out = new }) (record { next = at + length text; out = pasted out at text }) = rw (le-leb (at + length text) (length out) h.room) at e in
    record { bytes = ap (λ (p : Put). p.out) f; place = ap (λ (p : Put). p.next) f }

pub put_first : {s out new : List ℕ} {at next : ℕ} (t : List ℕ) → Fits out at (s ++ t) → record { next = next; out = new } ≡ put s out at → Wrote out at s new next
put_first t h e = put→wrote (fits-first t h) e

-- a word and so many digits behind it: the test of the room, made without a sum
pub room_left : (bytes at word k : ℕ) → at ≤ bytes → word ≤ bytes - at → leb k (bytes - at - word) ≡ leb (at + (word + k)) bytes
room_left bytes at word k p q = go (leb k (bytes - at - word)) refl where
  go : (b : Bool) → leb k (bytes - at - word) ≡ b → b ≡ leb (at + (word + k)) bytes
  go true e = let h = leb-true k (bytes - at - word) e in sym (le-leb (at + (word + k)) bytes (omega arith))
  go false e = let h = leb-false k (bytes - at - word) e in sym (lt-leb (at + (word + k)) bytes (omega arith))

-- a word and digits behind it
module _ (word digits out : List ℕ) (at : ℕ) {k : ℕ} {has : Bool} (some : k ≡ length digits) (e : has ≡ leb (at + (length word + k)) (length out)) where
  pub room_past : has ≡ false → record { next = at; out = out } ≡ put (word ++ digits) out at
  room_past f = put_past (word ++ digits) out at (rw (length-append word digits, sym some) (sym e ∙ f))

  pub room_fits : has ≡ true → Fits out at (word ++ digits)
  room_fits f =
      let h = leb-true (at + (length word + k)) (length out) (sym e ∙ f) in
      record { room = omega (arith, length-append word digits) }

pub wrote_put : {out new last t : List ℕ} {at next end : ℕ} (s : List ℕ) → Fits out at (s ++ t) → record { next = next; out = new } ≡ put s out at
    → (Fits new next t → Wrote new next t last end) → Wrote out at (s ++ t) last end
wrote_put {t = t} s h e k = let w = put_first t h e in wrote_then h w (k (fits_rest h w))

pub wrote_end : {out new t : List ℕ} {at next : ℕ} → record { next = next; out = new } ≡ put t out at → Fits out at t → Wrote out at t new next
wrote_end e h = put→wrote h e

pub lined-put : {out new text : List ℕ} {at next : ℕ} (most : ℕ) → at + most ≤ length out → Short most text → (Fits out at text → Wrote out at text new next) → Lined most out at text new next
lined-put most room short k = record { wrote = k (fits-most most room short); short = short }

pub put_byte-room : (out : List ℕ) (at b : ℕ) → at < length out → record { next = at + 1; out = set out at b } ≡ put (b ∷ []) out at
put_byte-room out at b h =
    let fits : Fits out at (b ∷ []) = record { room = omega arith } in
    put-room fits (wrote_byte out at b fits)

pub put_byte_past : (out : List ℕ) (at b : ℕ) → length out ≤ at → record { next = at; out = out } ≡ put (b ∷ []) out at
put_byte_past out at b h = put_past (b ∷ []) out at (lt-leb (at + 1) (length out) (omega arith))
