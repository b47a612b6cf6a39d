-- The header as document 01 had it, 20 bytes whatever the frame says, and that a header of five words is just that (specs/Packets.antt).
--
--   plain_ipv4 frame      EtherType 0800, length 34 or more, IP version 4
--   plain_has_port frame   length 38 or more, fragment offset 0, protocol 6 or 17
--   plain_port_at frame    the number at byte 36
--   is_ipv4_plain, has_port_plain, port_at_plain   of a header of five words, the same as today
-- Nothing is judged by these three: they are what Req 02 ended, to say what it left alone.
-- Trusts: nothing.
use mathlib.Core.Path.{◌≡◌, refl}
use mathlib.Core.Bool.{Bool, true, false, ◌&&◌, ◌||◌}
use mathlib.Core.List.{List}
use Prim.Native.Nat.{ℕ, ◌/◌, ◌%◌}
use lib.ListN.{length, get_or}
use lib.Dec.{leb, eqb}
use Rattle.numbers.specs.Numbers.{number_at}
use Rattle.packets.specs.Packets.{header_words, header_end, is_ipv4, has_port, port_at}

abbrev pub plain_ipv4 : List ℕ → Bool
plain_ipv4 frame = leb 34 (length frame) && (eqb (number_at 2 frame 12) 2048 && eqb (get_or frame 14 0 / 16) 4)

abbrev pub plain_has_port : List ℕ → Bool
plain_has_port frame =
    leb 38 (length frame) && (eqb (number_at 2 frame 20 % 8192) 0 && (eqb (get_or frame 23 0) 6 || eqb (get_or frame 23 0) 17))

abbrev pub plain_port_at : List ℕ → ℕ
plain_port_at frame = number_at 2 frame 36

module _ (frame : List ℕ) (five : header_words frame ≡ 5) where
  ends : header_end frame ≡ 34
  unfolding header_end
  ends = rw five

  -- the length of 34 is asked at both ends of the tests
  twice : (long type version : Bool) → long && (type && (version && long)) ≡ long && (type && version)
  twice true type true = refl
  twice true true false = refl
  twice true false false = refl
  twice false type version = refl

  pub is_ipv4_plain : is_ipv4 frame ≡ plain_ipv4 frame
  unfolding is_ipv4
  is_ipv4_plain = rw (ends, five) (twice (leb 34 (length frame)) (eqb (number_at 2 frame 12) 2048) (eqb (get_or frame 14 0 / 16) 4))

  pub has_port_plain : has_port frame ≡ plain_has_port frame
  unfolding has_port
  has_port_plain = rw ends

  pub port_at_plain : port_at frame ≡ plain_port_at frame
  unfolding port_at
  port_at_plain = rw ends
