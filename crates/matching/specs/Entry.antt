-- Entry: a classifier with its absent parts filled in, and whether a packet fits it.
--
--   entry_of cl            the entry of a classifier: no source is mask 0 and source 0
--   port_fits port a e     there is a port, and a <= port <= e
--   fits_packet packet port entry   whether an IPv4 packet with this port fits an entry
--   matches_entry frame entry       whether an entry matches a frame
--
-- That `matches_entry frame (entry_of cl)` is `matches_frame frame cl` is a law in proofs/Entries.antt.
-- Trusts: nothing.
use Rattle.std.specs.Prelude.{ℕ, Bool, cond, not, ◌&&◌, ◌||◌, List, leb, eqb}
use Rattle.std.specs.Int.Bits.{bit_and}
use Rattle.table.specs.declared.Classifier.{Classifier}
use Rattle.table.specs.Table.{is_present}
use Rattle.packets.specs.declared.Port.{Port}
use Rattle.packets.specs.Packets.{Packet, packet_of, port_of}
use Rattle.matching.specs.declared.Entry.{Entry}
use Rattle.matching.specs.Match.{present_or, mask_of, start_of, end_of}

-- 1 where one of two marks says present
abbrev pub ports_of : ℕ → ℕ → ℕ
ports_of hasstart hasend = cond (is_present hasstart || is_present hasend) 1 0

unfoldable pub entry_of : Classifier → Entry
entry_of cl = record {
  destination = cl.destination;
  source = present_or cl.hassource cl.source 0;
  mask = present_or cl.hassource (mask_of cl) 0;
  start = start_of cl;
  end = end_of cl;
  number = cl.number;
  ports = ports_of cl.hasstart cl.hasend;
}

unfoldable pub port_fits : Port → ℕ → ℕ → Bool
port_fits port start end = port.present && (leb start port.number && leb port.number end)

unfoldable pub fits_packet : Packet → Port → Entry → Bool
fits_packet packet port entry =
    eqb packet.destination entry.destination
    && (eqb (bit_and packet.source entry.mask) entry.source
    && (not (is_present entry.ports) || port_fits port entry.start entry.end))

unfoldable pub matches_entry : List ℕ → Entry → Bool
matches_entry frame entry = (packet_of frame).ipv4 && fits_packet (packet_of frame) (port_of frame) entry
