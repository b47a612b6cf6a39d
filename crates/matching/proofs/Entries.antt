-- An entry matches where its classifier does (specs/Match.antt, specs/Entry.antt).
--
--   matches_entry_ipv4, matches_entry_not    of an IPv4 packet the parts decide; of another, nothing matches
--   matches_frame_not                       the same of a classifier
--   matches_entry_of                        the entry of a classifier matches where the classifier does
-- Trusts: nothing.
use mathlib.Core.Path.{◌≡◌, refl, sym, ap, ◌∙◌}
use mathlib.Core.Bool.{Bool, true, false, cond, not, ◌&&◌, ◌||◌}
use mathlib.Core.List.{List}
use Prim.Native.Nat.{ℕ}
use lib.Bits.{bit_and, and_zero_r}
use lib.Dec.{eqb}
use Rattle.table.specs.declared.Classifier.{Classifier}
use Rattle.table.specs.Table.{is_present}
use Rattle.packets.specs.declared.Port.{Port}
use Rattle.packets.specs.Packets.{Packet, is_ipv4, source_at, destination_at, packet_of, port_of}
use Rattle.packets.proofs.Laws.{full, none, packet_of_ipv4}
use Rattle.matching.specs.declared.Entry.{Entry}
use Rattle.matching.specs.Match.{port_within, mask_of, start_of, end_of, fits_source, fits_port, matches_frame}
use Rattle.matching.specs.Entry.{entry_of, port_fits, fits_packet, matches_entry}

module _ (frame : List ℕ) (p : Packet) (e : p ≡ packet_of frame) where
  pub matches_entry_ipv4 : (q : Port) → q ≡ port_of frame → p.ipv4 ≡ true → (en : Entry) → matches_entry frame en ≡ fits_packet p q en
  unfolding matches_entry
  matches_entry_ipv4 q f h en = rw (← e, ← f, h)

  pub matches_entry_not : p.ipv4 ≡ false → (en : Entry) → matches_entry frame en ≡ false
  unfolding matches_entry
  matches_entry_not h en = rw (← e, h)

  pub matches_frame_not : p.ipv4 ≡ false → (cl : Classifier) → matches_frame frame cl ≡ false
  unfolding matches_frame
  matches_frame_not h cl =
      let no : is_ipv4 frame ≡ false = sym (packet_of_ipv4 frame) ∙ ap (λ (q : Packet). q.ipv4) (sym e) ∙ h in
      rw no

source_of : (frame : List ℕ) (cl : Classifier) → eqb (bit_and (source_at frame) (entry_of cl).mask) (entry_of cl).source ≡ fits_source frame cl
unfolding entry_of fits_source
source_of frame cl = go (eqb cl.hassource 0)
  where
    go : (b : Bool) → eqb (bit_and (source_at frame) (cond (not b) (mask_of cl) 0)) (cond (not b) cl.source 0) ≡ not (not b) || eqb (bit_and (source_at frame) (mask_of cl)) cl.source
    go true = rw (and_zero_r (source_at frame))
    go false = refl

ports_of_lem : (frame : List ℕ) (cl : Classifier) → not (is_present (entry_of cl).ports) || port_fits (port_of frame) (entry_of cl).start (entry_of cl).end ≡ fits_port frame cl
unfolding entry_of fits_port port_fits port_within port_of
ports_of_lem frame cl = go (is_present cl.hasstart || is_present cl.hasend)
  where
    go : (b : Bool) → not (is_present (cond b 1 0)) || port_within frame (start_of cl) (end_of cl) ≡ not b || port_within frame (start_of cl) (end_of cl)
    go true = refl
    go false = refl

both : {a b c d : Bool} → a ≡ b → c ≡ d → a && c ≡ b && d
both e f = rw (e, f)

-- of an IPv4 packet
inner : (frame : List ℕ) (cl : Classifier) → fits_packet (full frame) (port_of frame) (entry_of cl)
    ≡ eqb (destination_at frame) cl.destination && (fits_source frame cl && fits_port frame cl)
unfolding fits_packet entry_of
inner frame cl =
    ap (λ (b : Bool). eqb (destination_at frame) cl.destination && b)
    (both (source_of frame cl) (ports_of_lem frame cl))

pub matches_entry_of : (frame : List ℕ) (cl : Classifier) → matches_entry frame (entry_of cl) ≡ matches_frame frame cl
unfolding matches_entry matches_frame packet_of
matches_entry_of frame cl = go (is_ipv4 frame)
  where
    go : (b : Bool) → (cond b (full frame) none).ipv4
        && fits_packet (cond b (full frame) none) (port_of frame) (entry_of cl)
        ≡ b && (eqb (destination_at frame) cl.destination && (fits_source frame cl && fits_port frame cl))
    go true = inner frame cl
    go false = refl
