-- Wrong programs that the promises exclude (specs/Preparing.antt).
--
--   no_one_tunnel     a function that meets prepare_tunnel's promise does not give every client the same tunnel
--   no_header_of_20   one that meets judge_prepared's does not take every IP header for 20 bytes (document 02, Req 02)
-- Trusts: nothing.
use mathlib.Core.Path.{◌≡◌, ap, ◌∙◌}
use mathlib.Core.List.{List}
use Prim.Native.Nat.{ℕ}
use Rattle.table.specs.declared.Client.{Client}
use Rattle.table.specs.declared.Table.{Table}
use Rattle.choice.specs.Choose.{Ucid}
use Rattle.payloads.specs.Judged.{Verdict}
use Rattle.tunnel.proofs.Headers.{plain_verdict}
use Rattle.tunnel.proofs.Controls as tunnel
use Rattle.tunnel_parts.specs.declared.Tunnel.{Tunnel}
use Rattle.tunnel_parts.specs.Prepared.{prepared_verdict}
use Rattle.preparing.specs.Preparing.{prepared_tunnel}
use Rattle.preparing.proofs.Same.{prepared_same}

module _ (prepare : Table → Client → Ucid → Tunnel) (promise : (t : Table) (c : Client) (u : Ucid) → prepare t c u ≡ prepared_tunnel t c u) where
  pub no_one_tunnel : ((t : Table) (c d : Client) (u : Ucid) → prepare t c u ≡ prepare t d u) → ⊥
  no_one_tunnel same =
      tunnel.no_one_verdict (λ t c u frame. prepared_verdict (prepare t c u) frame) (λ t c u frame. ap (λ (tu : Tunnel). prepared_verdict tu frame) (promise t c u) ∙ prepared_same t c u frame)
      (λ t c d u frame. ap (λ (tu : Tunnel). prepared_verdict tu frame) (same t c d u))

module _ (judge : Tunnel → List ℕ → Verdict) (promise : (tu : Tunnel) (frame : List ℕ) → judge tu frame ≡ prepared_verdict tu frame) where
  pub no_header_of_20 : ((t : Table) (c : Client) (u : Ucid) (frame : List ℕ) → judge (prepared_tunnel t c u) frame ≡ plain_verdict t c u frame) → ⊥
  no_header_of_20 plain =
      tunnel.no_header_of_20 (λ t c u frame. judge (prepared_tunnel t c u) frame) (λ t c u frame. promise (prepared_tunnel t c u) frame ∙ prepared_same t c u frame) plain
