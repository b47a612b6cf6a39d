-- Packets: a frame's length and address, the IPv4 packet in it and its port (document 01, "Choosing and judging"; the
-- length of the IP header: document 02, Req 02).
--
--   wrong_length frame      under 14 or over 1,518 bytes
--   address_at frame        the number of the first six bytes
--   header_words frame      the length of the IP header in words of four bytes: the low half of its first byte
--   header_end frame        the byte behind the IP header, which begins at byte 14
--   is_ipv4 frame           EtherType 0800, length 34 or more, IP version 4; a header of five words or more that does not pass
--                          the frame's end
--   source_at, destination_at   the source and destination address: in the first five words of the header
--   has_port frame          of an IPv4 packet: four bytes or more behind the header, fragment offset 0 (13 bits), protocol 6 or 17
--   port_at frame           the destination port: the second pair of bytes behind the header
--   Packet                 whether a frame is an IPv4 packet, and its addresses
--   packet_of frame         the addresses of a frame; 0 where it is no IPv4 packet
--   as_packet p            what an answer on a frame says: None, that it is no IPv4 packet; else its addresses
--   port_of frame           whether there is a port, and the number in its place
--
-- Lengths are the frame's; what the header says of the packet's length, and the options themselves, are not looked at. A byte
-- beyond the frame's end counts as 0; of an IPv4 packet no condition looks at one.
-- Tested by: random frames, and headers of every length in frames of 14 to 90 bytes, against the other program. Trusts: nothing.
use Rattle.std.specs.Prelude.{ℕ, ◌+◌, ◌*◌, ◌/◌, ◌%◌, Bool, true, false, cond, ◌&&◌, ◌||◌, List, length, get_or, ltb, leb, eqb, Option, None, Some}
use Rattle.numbers.specs.Numbers.{number_at}
use Rattle.packets.specs.declared.Packet as read
use Rattle.packets.specs.declared.Port.{Port}

pub record Packet : Type 0 where
  pub ipv4 : Bool
  pub destination : ℕ
  pub source : ℕ

unfoldable pub wrong_length : List ℕ → Bool
wrong_length frame = ltb (length frame) 14 || ltb 1518 (length frame)

unfoldable pub address_at : List ℕ → ℕ
address_at frame = number_at 6 frame 0

abbrev pub header_words : List ℕ → ℕ
header_words frame = get_or frame 14 0 % 16

unfoldable pub header_end : List ℕ → ℕ
header_end frame = 14 + 4 * header_words frame

unfoldable pub is_ipv4 : List ℕ → Bool
is_ipv4 frame =
    leb 34 (length frame)
    && (eqb (number_at 2 frame 12) 2048
    && (eqb (get_or frame 14 0 / 16) 4 && (leb 5 (header_words frame) && leb (header_end frame) (length frame))))

unfoldable pub source_at : List ℕ → ℕ
source_at frame = number_at 4 frame 26

unfoldable pub destination_at : List ℕ → ℕ
destination_at frame = number_at 4 frame 30

unfoldable pub has_port : List ℕ → Bool
has_port frame =
    leb (header_end frame + 4) (length frame)
    && (eqb (number_at 2 frame 20 % 8192) 0 && (eqb (get_or frame 23 0) 6 || eqb (get_or frame 23 0) 17))

unfoldable pub port_at : List ℕ → ℕ
port_at frame = number_at 2 frame (header_end frame + 2)

unfoldable pub packet_of : List ℕ → Packet
packet_of frame =
    cond (is_ipv4 frame)
    (record { ipv4 = true; destination = destination_at frame; source = source_at frame })
    (record { ipv4 = false; destination = 0; source = 0 })

abbrev pub as_packet : Option read.Packet → Packet
as_packet None = record { ipv4 = false; destination = 0; source = 0 }
as_packet (Some p) = record { ipv4 = true; destination = p.destination; source = p.source }

unfoldable pub port_of : List ℕ → Port
port_of frame = record { present = has_port frame; number = port_at frame }
