-- Match: whether a classifier matches a frame (document 01, "Choosing and judging"; where the port stands: document 02, Req 02).
--
--   port_within frame a e   the frame has a port, and a <= port <= e
--   present_or mark v w     the value v of a part whose mark says present, else w
--   mask_of, start_of, end_of, names_port   the parts of a classifier, an absent one as the document fills it in
--   fits_source, fits_port   the two conditions that a classifier may leave out; a mask alone is none
--   matches_frame frame cl  all of it
--
-- A byte beyond the frame's end counts as 0; `matches_frame` looks at none, since it asks the port of an IPv4 packet only.
-- Tested by: random frames against the other program. Trusts: nothing.
use Rattle.std.specs.Prelude.{ℕ, Bool, cond, not, ◌&&◌, ◌||◌, List, leb, eqb}
use Rattle.std.specs.Int.Bits.{bit_and}
use Rattle.table.specs.declared.Classifier.{Classifier}
use Rattle.table.specs.Table.{is_present}
use Rattle.packets.specs.Packets.{is_ipv4, has_port, port_at, source_at, destination_at}

unfoldable pub port_within : List ℕ → ℕ → ℕ → Bool
port_within frame start end = has_port frame && (leb start (port_at frame) && leb (port_at frame) end)

abbrev pub present_or : ℕ → ℕ → ℕ → ℕ
present_or mark value other = cond (is_present mark) value other

abbrev pub mask_of : Classifier → ℕ
mask_of cl = present_or cl.hasmask cl.mask 4294967295

abbrev pub start_of : Classifier → ℕ
start_of cl = present_or cl.hasstart cl.start 0

abbrev pub end_of : Classifier → ℕ
end_of cl = present_or cl.hasend cl.end 65535

abbrev pub names_port : Classifier → Bool
names_port cl = is_present cl.hasstart || is_present cl.hasend

unfoldable pub fits_source : List ℕ → Classifier → Bool
fits_source frame cl = not (is_present cl.hassource) || eqb (bit_and (source_at frame) (mask_of cl)) cl.source

unfoldable pub fits_port : List ℕ → Classifier → Bool
fits_port frame cl = not (names_port cl) || port_within frame (start_of cl) (end_of cl)

unfoldable pub matches_frame : List ℕ → Classifier → Bool
matches_frame frame cl =
    is_ipv4 frame && (eqb (destination_at frame) cl.destination && (fits_source frame cl && fits_port frame cl))
