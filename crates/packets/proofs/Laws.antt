-- Laws of `packet_of`, `as_packet`, `header_end` and `is_ipv4` (specs/Packets.antt).
--
--   full frame, none   the packet of an IPv4 frame, and of any other
--   packet_of_ipv4      a packet says whether the frame is one of IPv4
--   as_packet_only      two answers that say the same of a frame are the same
--   header_end_le       a header ends at byte 74 at the latest
--   is_ipv4-few, is_ipv4_past   a frame whose header has under five words, or passes the frame's end, counts as no IPv4 packet
-- Trusts: nothing.
use mathlib.Core.Path.{◌≡◌, refl, sym, ap, ◌∙◌}
use mathlib.Core.Bool.{Bool, true, false, cond, and-false}
use mathlib.Core.List.{List}
use Prim.Native.Nat.{ℕ, ◌≤◌, ◌<◌}
use native.Mathlib.Omega.{arith}
use lib.ListN.{length}
use borrow.Author.Tests.{lt-leb}
use Rattle.std.specs.Prelude.{Option, None, Some}
use Rattle.packets.specs.declared.Packet as read
use Rattle.packets.specs.Packets.{Packet, header_words, header_end, is_ipv4, source_at, destination_at, packet_of, as_packet}

-- the packet of an IPv4 frame, and of any other
abbrev pub full : List ℕ → Packet
full frame = record { ipv4 = true; destination = destination_at frame; source = source_at frame }

abbrev pub none : Packet
none = record { ipv4 = false; destination = 0; source = 0 }

pub packet_of_ipv4 : (frame : List ℕ) → (packet_of frame).ipv4 ≡ is_ipv4 frame
unfolding packet_of
packet_of_ipv4 frame = go (is_ipv4 frame)
  where
    go : (b : Bool) → (cond b (full frame) none).ipv4 ≡ b
    go true = refl
    go false = refl

-- ---- answers on a frame

packet_as : Packet → Option read.Packet
packet_as q = cond q.ipv4 (Some (record { destination = q.destination; source = q.source })) None

packet_as_back : (p : Option read.Packet) → packet_as (as_packet p) ≡ p
unfolding packet_as
packet_as_back None = refl
packet_as_back (Some p) = refl

pub as_packet_only : (p q : Option read.Packet) → as_packet p ≡ as_packet q → p ≡ q
as_packet_only p q e = sym (packet_as_back p) ∙ ap packet_as e ∙ packet_as_back q

-- ---- the header's length

module _ (frame : List ℕ) where
  pub header_end_le : header_end frame ≤ 74
  unfolding header_end
  header_end_le = omega arith

  pub is_ipv4-few : header_words frame < 5 → is_ipv4 frame ≡ false
  unfolding is_ipv4
  is_ipv4-few h = simp (lt-leb 5 (header_words frame) h, and-false)

  pub is_ipv4_past : length frame < header_end frame → is_ipv4 frame ≡ false
  unfolding is_ipv4
  is_ipv4_past h = simp (lt-leb (header_end frame) (length frame) h, and-false)
