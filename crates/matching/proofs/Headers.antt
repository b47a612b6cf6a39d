-- What the header's length decides of a match (specs/Match.antt; document 02, Req 02).
--
--   matches_frame-few, matches_frame_past   a header under five words, or one that passes the frame's end: no classifier matches
--   plain_matches frame cl                 a match as document 01 had it, with every header taken for 20 bytes
--   matches_frame_plain                    of a header of five words, the same as today
-- Trusts: nothing.
use mathlib.Core.Path.{◌≡◌}
use mathlib.Core.Bool.{Bool, false, not, ◌&&◌, ◌||◌}
use mathlib.Core.List.{List}
use Prim.Native.Nat.{ℕ, ◌<◌}
use lib.ListN.{length}
use lib.Dec.{leb, eqb}
use Rattle.table.specs.declared.Classifier.{Classifier}
use Rattle.packets.specs.Packets.{header_words, header_end, destination_at}
use Rattle.packets.proofs.Laws.{is_ipv4-few, is_ipv4_past}
use Rattle.packets.proofs.Plain.{plain_ipv4, plain_has_port, plain_port_at, is_ipv4_plain, has_port_plain, port_at_plain}
use Rattle.matching.specs.Match.{port_within, start_of, end_of, names_port, fits_source, fits_port, matches_frame}

abbrev pub plain_matches : List ℕ → Classifier → Bool
plain_matches frame cl =
    let port = not (names_port cl) || (plain_has_port frame && (leb (start_of cl) (plain_port_at frame) && leb (plain_port_at frame) (end_of cl))) in
    plain_ipv4 frame && (eqb (destination_at frame) cl.destination && (fits_source frame cl && port))

module _ (frame : List ℕ) (cl : Classifier) where
  pub matches_frame-few : header_words frame < 5 → matches_frame frame cl ≡ false
  unfolding matches_frame
  matches_frame-few h = rw (is_ipv4-few frame h)

  pub matches_frame_past : length frame < header_end frame → matches_frame frame cl ≡ false
  unfolding matches_frame
  matches_frame_past h = rw (is_ipv4_past frame h)

  pub matches_frame_plain : header_words frame ≡ 5 → matches_frame frame cl ≡ plain_matches frame cl
  unfolding matches_frame fits_port port_within
  matches_frame_plain five = rw (is_ipv4_plain frame five, has_port_plain frame five, port_at_plain frame five)
