-- What the verdict depends on (specs/Judge.antt of tunnel).
--
--   verdict_of-rule      only the chosen rule and the classifiers that it names
-- Trusts: nothing.
use mathlib.Core.Path.{◌≡◌, sym, ap, ◌∙◌}
use mathlib.Core.List.{List}
use Prim.Native.Nat.{ℕ}
use Rattle.table.specs.declared.Client.{Client}
use Rattle.table.specs.declared.Table.{Table}
use Rattle.choice.specs.Chose as choice
use Rattle.choice.specs.Choose.{Ucid, choice_of, rule_at}
use Rattle.tunnel.specs.Judge.{verdict_of}
use Rattle.tunnel_parts.specs.declared.Tunnel.{Tunnel}
use Rattle.preparing.specs.Order.{named_in_order}
use Rattle.tunnel_parts.specs.Prepared.{prepared_verdict}
use Rattle.preparing.specs.Preparing.{rule_tunnel, choice_tunnel, prepared_tunnel}
use Rattle.preparing.proofs.Same.{prepared_same}

pub verdict_of-rule : (t s : Table) (c d : Client) (u v : Ucid) (frame : List ℕ) (k j : ℕ) → choice_of t c u ≡ choice.Chosen k → choice_of s d v ≡ choice.Chosen j
    → rule_at t k ≡ rule_at s j → named_in_order t (rule_at t k) ≡ named_in_order s (rule_at s j) → verdict_of t c u frame ≡ verdict_of s d v frame
unfolding prepared_tunnel choice_tunnel rule_tunnel
verdict_of-rule t s c d u v frame k j et es er en =
    let same : prepared_tunnel t c u ≡ prepared_tunnel s d v = rw (et, es, en, er) in
    sym (prepared_same t c u frame) ∙ ap (λ (tu : Tunnel). prepared_verdict tu frame) same ∙ prepared_same s d v frame
