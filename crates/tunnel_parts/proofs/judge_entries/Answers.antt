-- `tunnel_parts::judge_entries` gives the verdict by the first entry that matches the frame: of an IPv4 packet that is the first that it fits.
-- Trusts: nothing.
use borrow.Author.Tests.{le-ltb}
use mathlib.Core.Path.{◌≡◌, refl, sym, ap, ◌∙◌, fun_ext}
use mathlib.Core.Bool.{Bool, true, false}
use mathlib.Core.List.{List}
use Prim.Native.Nat.{ℕ}
use native.Mathlib.Nat.{le_refl}
use Rattle.table.specs.Table.{limited_to}
use Rattle.order.specs.Best.{first_place}
use Rattle.matching.specs.Entry.{matches_entry, fits_packet}
use Rattle.matching.proofs.Entries.{matches_entry_ipv4}
use Rattle.payloads.specs.Judged.{judged}
use Rattle.packets.specs.declared.Port.{Port}
use Rattle.packets.specs.Packets.{Packet, packet_of, port_of}
use Rattle.tunnel_parts.specs.Prepared.{entries_of, entry_verdict}
use Rattle.tunnel_parts.proofs.Lists.{first_place_foreign}
use Rattle.tunnel_parts.proofs.judge_entries.Goals as goal

-- what an IPv4 packet with this port fits is what matches its frame
same : (frame : List ℕ) (packet : Packet) (port : Port) → packet ≡ packet_of frame → packet.ipv4 ≡ true → port ≡ port_of frame → fits_packet packet port ≡ matches_entry frame
same frame packet port e v f = fun_ext (λ en. sym (matches_entry_ipv4 frame packet e port f v en))

pub returns-in_default : goal.returns-in_default
unfolding entry_verdict judged
returns-in_default c =
    let tu = c.args.tunnel.now in
    let place = first_place (matches_entry c.args.frame.now) (entries_of tu) in
    let none = first_place_foreign tu c.args.frame.now _ (limited_to 32 tu.count) refl c.in_default.ensures refl in
    simp (none, le-ltb place place (le_refl place))

pub returns-then-port : goal.returns-then-port
returns-then-port c =
    c.judge_packet.ensures ∙ ap (entry_verdict c.args.tunnel.now) (same c.args.frame.now _ _ c.in-Some.ensures refl c.read_port-port.ensures)

pub returns-else-port : goal.returns-else-port
returns-else-port c =
    let number = c.read_port-port.result.number in
    let none : record { present = false; number = number } ≡ c.read_port-port.result = ap (λ (b : Bool). record { present = b; number = number }) (sym c.if-port.false) in
    c.judge_portless.ensures ∙ ap (entry_verdict c.args.tunnel.now) (same c.args.frame.now _ _ c.in-Some.ensures refl (none ∙ c.read_port-port.ensures))
