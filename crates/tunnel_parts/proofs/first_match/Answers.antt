-- `tunnel_parts::first_match` gives the first entry that the packet fits, where it fits one.
-- Trusts: nothing.
use Prim.Native.Nat.{ℕ}
use lib.ListN.{length}
use Rattle.std.specs.List.{position_or_len, range_with_len}
use Rattle.std.proofs.lemmas.List.FromFn.{length-range_with_len}
use mathlib.Core.Path.{◌≡◌, refl, ap, ◌∙◌}
use mathlib.Core.Bool.{Bool}
use native.Mathlib.Nat.{sub-zero}
use Rattle.std.proofs.Common.{rules, tests, Some}
use Rattle.std.proofs.lemmas.Iterator.{YieldsList-from_range}
use Rattle.std.proofs.lemmas.Iterator.Search.{position_from_yields_List}
use Rattle.table.specs.Table.{limited_to}
use Rattle.order.specs.Best.{first_place}
use Rattle.matching.specs.declared.Entry.{Entry}
use Rattle.matching.specs.Entry.{fits_packet}
use Rattle.packets.specs.Packets.{as_packet}
use Rattle.tunnel_parts.specs.Prepared.{entry_at, list_from, entries_of}
use Rattle.tunnel_parts.proofs.Lists.{first_in_range}
use Rattle.tunnel_parts.proofs.first_match.Goals as goal

pub returns : goal.returns
unfolding entries_of
returns c =
    let tu = c.args.tunnel.now in
    let n = c.limited-count.result in
    let fits : Entry → Bool = fits_packet (as_packet (Some c.args.packet)) c.args.port in
    let found = position_from_yields_List (λ i. fits (entry_at tu i)) _ _ c.position.result c.position.ensures.ran (YieldsList-from_range 0 n n refl (sub-zero n)) (λ x b q k. search (rules, tests)) in
    let place : position_or_len (λ i. fits (entry_at tu i)) (range_with_len 0 n) ≡ first_place fits (entries_of tu) =
    first_in_range (λ i. entry_at tu i) fits 0 n ∙ ap (λ (m : ℕ). first_place fits (list_from (λ i. entry_at tu i) 0 m)) c.limited-count.ensures in
    let many : length (range_with_len 0 n) ≡ limited_to 32 tu.count = length-range_with_len 0 n ∙ c.limited-count.ensures in
    found ∙ rw (place, many)
