-- The search for the matching classifier (`best_place` of crate order) gives `match_place` (specs/Judge.antt).
--
--   passes               what a classifier must pass, of a packet that is read
--   match_place_foreign  no IPv4 packet: none matches
--   match_place_same     of an IPv4 packet, the two tests are one
-- Trusts: nothing.
use Prim.Native.Nat.{ℕ}
use native.Mathlib.Nat.{le_refl}
use mathlib.Core.Path.{◌≡◌, sym, ap, ◌∙◌, fun_ext}
use mathlib.Core.Bool.{Bool, true, false, ◌&&◌}
use mathlib.Core.List.{List}
use lib.ListN.{length}
use borrow.Author.Tests.{le-ltb}
use Rattle.std.specs.Prelude.{None}
use Rattle.table.specs.declared.Rule.{Rule}
use Rattle.table.specs.declared.Classifier.{Classifier}
use Rattle.table.specs.declared.Table.{Table}
use Rattle.table.specs.Table.{classifiers_of}
use Rattle.order.specs.Best.{best_place, within}
use Rattle.packets.specs.declared.Port.{Port}
use Rattle.packets.specs.Packets.{Packet, packet_of, port_of}
use Rattle.listed.specs.Listed.{names_number}
use Rattle.matching.specs.Match.{matches_frame}
use Rattle.matching.specs.Entry.{entry_of, fits_packet}
use Rattle.matching.proofs.Entries.{matches_entry_ipv4, matches_entry_of, matches_frame_not}
use Rattle.tunnel.specs.Judge.{match_place}
use Rattle.tunnel.proofs.Verdicts.{match_place_miss}

-- what a classifier must pass: the packet and the rule
abbrev pub passes : Packet → Port → Rule → Classifier → Bool
passes packet port rule cl = fits_packet packet port (entry_of cl) && names_number rule cl.number

module _ (t : Table) (rule : Rule) (frame : List ℕ) (p : Packet) (e : p ≡ packet_of frame) where
  pub match_place_foreign : p.ipv4 ≡ false → None ≡ within (length (classifiers_of t)) (match_place t rule frame)
  unfolding within
  match_place_foreign h = rw (match_place_miss t rule frame (λ cl. matches_frame_not frame p e h cl), le-ltb (length (classifiers_of t)) _ (le_refl _))

  pub match_place_same : (q : Port) → q ≡ port_of frame → p.ipv4 ≡ true → best_place (λ cl. cl.priority) (λ cl. cl.number) (passes p q rule) (classifiers_of t) ≡ match_place t rule frame
  unfolding match_place
  match_place_same q f h =
      let one : (cl : Classifier) → fits_packet p q (entry_of cl) ≡ matches_frame frame cl =
      λ cl. sym (matches_entry_ipv4 frame p e q f h (entry_of cl)) ∙ matches_entry_of frame cl in
      ap (λ (ok : Classifier → Bool). best_place (λ cl. cl.priority) (λ cl. cl.number) ok (classifiers_of t)) (fun_ext (λ cl. ap (λ (b : Bool). b && names_number rule cl.number) (one cl)))
