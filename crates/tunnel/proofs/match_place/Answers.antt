-- `tunnel::match_place` gives `match_place`: a frame that is no IPv4 packet matches nothing; else it is the best of the classifiers that pass.
-- Trusts: nothing.
use borrow.Author.Rules.{rules}
use mathlib.Core.Path.{refl, ◌∙◌, ap}
use lib.ListN.{length}
use Rattle.order.specs.Best.{within}
use Rattle.table.specs.Table.{classifiers_of}
use Rattle.tunnel.proofs.Walk.{passes, match_place_foreign, match_place_same}
use Rattle.std.specs.Prelude.{Some}
use Rattle.packets.specs.Packets.{as_packet}
use Rattle.tunnel.proofs.match_place.Goals as goal

pub returns-in_err-packet : goal.returns-in_err-packet
returns-in_err-packet c = c.from_residual.ensures ∙ match_place_foreign _ _ _ _ c.in_err-packet.ensures refl

pub returns : goal.returns
unfolding classifiers_of
returns c =
    let rule = c.args.rule.now in
    let packet = as_packet (Some c.in_ok-packet.packet) in
    let port = c.read_port-port.result in
    let found = c.best_place.ensures (λ cl. cl.priority) (λ cl. cl.number) (passes packet port rule) (record { rank = λ x r m f. search rules }) (record { test = λ x r m f. search rules }) in
    let same = match_place_same c.args.table.now rule c.args.frame.now packet c.in_ok-packet.ensures port c.read_port-port.ensures refl in
    rw c.limited-count.ensures at found ∙ ap (within (length (classifiers_of c.args.table.now))) same
