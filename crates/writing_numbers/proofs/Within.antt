-- Laws of `put_within` (specs/Within.antt) and of numbers as elements: a writer with room writes, one without does not.
--
--   room_past, room-here     what the test of the room says       room_least    the test, made without a sum
--   within_past      no room: nothing is written          within_room    what was written, where there is room
--   within→lined     what `put_within` says of bytes that are short enough, where there is room
--   lined_listed     the elements of a list are no longer than its limit allows
--   number→lined     what `put_number` says, where there is room     byte→lined    of a number of one byte
-- Trusts: nothing.
use Prim.Native.Nat.{ℕ, ◌+◌, ◌-◌, ◌*◌, ◌≤◌, ◌<◌}
use mathlib.Core.Path.{◌≡◌, refl, sym, ap, subst, ◌∙◌}
use mathlib.Core.Bool.{Bool, true, false, not}
use mathlib.Core.List.{List, [], ◌∷◌}
use native.Mathlib.Omega.{arith}
use native.Mathlib.Nat.{mod-eq_of_lt, mul-le-mul_left}
use borrow.Author.Tests.{leb-true, leb-false, le-leb, lt-leb, not-true, not-false}
use lib.ListN.{length}
use lib.Dec.{leb}
use Rattle.wire.specs.Bytes.{pasted}
use Rattle.texts.specs.Put.{Put, put}
use Rattle.texts.specs.Text.{each}
use Rattle.texts.specs.Writing.{Lined}
use Rattle.texts.proofs.Puts.{put→wrote}
use Rattle.writing_elements.specs.Encode.{big_endian, element}
use Rattle.writing_elements.proofs.Stands.{length-big_endian}
use Rattle.writing_numbers.specs.Within.{put_within}

pub room_least : (bytes at most : ℕ) → most ≤ bytes → leb at (bytes - most) ≡ leb (at + most) bytes
room_least bytes at most h = on (leb at (bytes - most)) refl
  where
    on : (b : Bool) → leb at (bytes - most) ≡ b → b ≡ leb (at + most) bytes
    on true e = let f = leb-true at (bytes - most) e in sym (le-leb (at + most) bytes (omega arith))
    on false e = let f = leb-false at (bytes - most) e in sym (lt-leb (at + most) bytes (omega arith))

-- the test of the room, made by a caller
module _ {has : Bool} (bytes at most : ℕ) (e : has ≡ leb (at + most) bytes) where
  pub room_past : not has ≡ true → leb (at + most) bytes ≡ false
  room_past f = sym e ∙ not-true has f

  pub room-here : not has ≡ false → at + most ≤ bytes
  room-here f = leb-true (at + most) bytes (sym e ∙ not-false has f)

module _ (most : ℕ) (bytes out : List ℕ) (at : ℕ) where
  pub within_past : leb (at + most) (length out) ≡ false → record { next = at; out = out } ≡ put_within most bytes out at
  unfolding put_within
  within_past e = rw e refl

  module _ (room : at + most ≤ length out) {new : List ℕ} {next : ℕ} where
    pub within_room : Lined most out at bytes new next → record { next = next; out = new } ≡ put_within most bytes out at
    unfolding put_within
    within_room w = rw (le-leb (at + most) (length out) room, w.wrote.place, w.wrote.bytes) refl

    pub within→lined : length bytes ≤ most → record { next = next; out = new } ≡ put_within most bytes out at → Lined most out at bytes new next
    unfolding put_within
    within→lined short e =
        let f : ◌≡◌ {A = Put} (record { next = next; out = new }) (record { next = at + length bytes; out = pasted out at bytes }) = rw (le-leb (at + most) (length out) room) at e in
        record { wrote = record { bytes = ap (λ (p : Put). p.out) f; place = ap (λ (p : Put). p.next) f }; short = record { bytes = short } }

-- a number as an element, where there is room for it
module _ (kind width n : ℕ) {out new : List ℕ} {at next : ℕ} (room : at + (2 + width) ≤ length out) where
  pub number→lined : record { next = next; out = new } ≡ put (element kind (big_endian width n)) out at → Lined (2 + width) out at (element kind (big_endian width n)) new next
  number→lined e =
      let size : length (element kind (big_endian width n)) ≡ 2 + width = omega (arith, length-big_endian width n) in
      record { wrote = put→wrote (record { room = omega arith }) e; short = record { bytes = omega arith } }

-- a number of one byte
pub byte→lined : (kind n : ℕ) {out new : List ℕ} {at next : ℕ} → at + 3 ≤ length out → n < 256 → record { next = next; out = new } ≡ put (element kind (big_endian 1 n)) out at
    → Lined 3 out at (element kind (n ∷ [])) new next
unfolding big_endian
byte→lined kind n {out} {new} {at} {next} room h e =
    subst (λ (k : ℕ). Lined 3 out at (kind ∷ 1 ∷ k ∷ []) new next) (mod-eq_of_lt h) (number→lined kind 1 n room e)

pub lined_listed : {A : Type 0} (most limit : ℕ) (line : A → List ℕ) {xs l : List A} {out new : List ℕ} {at next : ℕ} → xs ≡ l → length l ≤ limit
    → Lined (most * length xs) out at (each line xs) new next → Lined (most * limit) out at (each line l) new next
lined_listed {A} most limit line {xs} {l} {out} {new} {at} {next} same few w =
    let all : Lined (most * length l) out at (each line l) new next = subst (λ (x : List A). Lined (most * length x) out at (each line x) new next) same w in
    record { wrote = all.wrote; short = record { bytes = omega (arith, all.short.bytes, mul-le-mul_left {m = length l} {n = limit} most few) } }
