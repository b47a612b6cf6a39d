-- Preparing: the tunnel of a client, chosen once (document 01, "Choosing and judging").
--
--   tunnel_of mode address es the tunnel with these entries; with_entry, with one more at a place
--   prepared_tunnel t c u     the tunnel of a client: the chosen rule's address and the classifiers that it names, in matching order
--
-- Mode 0: no rule fits. Mode 1: the rule names no classifier. Mode 2: by the entries. Unused places hold 0. Trusts: nothing.
use Rattle.std.specs.Prelude.{ℕ, ◌+◌, ◌-◌, cond, List, [], ◌++◌, map, length, set, replicate, eqb}
use Rattle.table.specs.declared.Client.{Client}
use Rattle.table.specs.declared.Rule.{Rule}
use Rattle.table.specs.declared.Table.{Table}
use Rattle.choice.specs.Chose as choice
use Rattle.choice.specs.Chose.{Choice}
use Rattle.choice.specs.Choose.{Ucid, choice_of, rule_at}
use Rattle.matching.specs.declared.Entry.{Entry}
use Rattle.matching.specs.Entry.{entry_of}
use Rattle.tunnel_parts.specs.declared.Tunnel.{Tunnel}
use Rattle.preparing.specs.Order.{named_in_order}

-- a list of numbers in an array of 32, unused places 0
abbrev pub padded : List ℕ → List ℕ
padded xs = xs ++ replicate (32 - length xs) 0

unfoldable pub tunnel_of : ℕ → ℕ → List Entry → Tunnel
tunnel_of mode address es = record {
  address = address;
  mode = mode;
  count = length es;
  destinations = padded (map (λ e. e.destination) es);
  sources = padded (map (λ e. e.source) es);
  masks = padded (map (λ e. e.mask) es);
  starts = padded (map (λ e. e.start) es);
  ends = padded (map (λ e. e.end) es);
  numbers = padded (map (λ e. e.number) es);
  ports = padded (map (λ e. e.ports) es);
}

unfoldable pub with_entry : Tunnel → ℕ → Entry → Tunnel
with_entry tu i e = record {
  address = tu.address;
  mode = tu.mode;
  count = i + 1;
  destinations = set tu.destinations i e.destination;
  sources = set tu.sources i e.source;
  masks = set tu.masks i e.mask;
  starts = set tu.starts i e.start;
  ends = set tu.ends i e.end;
  numbers = set tu.numbers i e.number;
  ports = set tu.ports i e.ports;
}

unfoldable pub rule_tunnel : Table → Rule → Tunnel
rule_tunnel t rule = tunnel_of (cond (eqb rule.numbercount 0) 1 2) rule.tunnel (map entry_of (named_in_order t rule))

unfoldable pub choice_tunnel : Table → Choice → Tunnel
choice_tunnel t (choice.Refused n) = tunnel_of 0 0 []
choice_tunnel t (choice.Chosen place) = rule_tunnel t (rule_at t place)

unfoldable pub prepared_tunnel : Table → Client → Ucid → Tunnel
prepared_tunnel t c u = choice_tunnel t (choice_of t c u)
