-- Wrong programs that the promises exclude (specs/Judge.antt).
--
--   no_one_verdict    a function that meets judge_frame's promise does not judge alike for every client
--   no_header_of_20   nor does it take every IP header for 20 bytes (document 02, Req 02)
-- Trusts: nothing.
use mathlib.Core.Path.{◌≡◌, sym, ◌∙◌}
use mathlib.Core.List.{List}
use Prim.Native.Nat.{ℕ}
use native.Mathlib.Omega.{arith}
use Rattle.table.specs.declared.Client.{Client}
use Rattle.table.specs.declared.Table.{Table}
use Rattle.choice.specs.Choose.{Ucid}
use Rattle.std.specs.Prelude.{None}
use Rattle.choice.proofs.Bench.{application42, table_m}
use Rattle.payloads.specs.Judged.{Verdict, Refused, Forward, Filtered}
use Rattle.tunnel.specs.Judge.{verdict_of}
use Rattle.tunnel.proofs.Headers.{plain_verdict}
use Rattle.tunnel.proofs.Bench.{frame_m, forwarded, unfit, table_port, frame_alert, alert, early}

abbrev stranger : Client
stranger = record { kind = 3; value = 42 }

apart : Forward 0 ≡ Refused 17 → ⊥
apart e = let z : ◌≡◌ {A = ℕ} 0 1 = cc in omega arith

unlike : Forward 10 ≡ Filtered → ⊥
unlike e = let z : ◌≡◌ {A = ℕ} 0 1 = cc in omega arith

module _ (judge : Table → Client → Ucid → List ℕ → Verdict) (promise : (t : Table) (c : Client) (u : Ucid) (frame : List ℕ) → judge t c u frame ≡ verdict_of t c u frame) where
  pub no_one_verdict : ((t : Table) (c d : Client) (u : Ucid) (frame : List ℕ) → judge t c u frame ≡ judge t d u frame) → ⊥
  no_one_verdict same =
      apart (sym forwarded ∙ sym (promise table_m application42 None frame_m) ∙ same table_m application42 stranger None frame_m ∙ promise table_m stranger None frame_m ∙ unfit)

  pub no_header_of_20 : ((t : Table) (c : Client) (u : Ucid) (frame : List ℕ) → judge t c u frame ≡ plain_verdict t c u frame) → ⊥
  no_header_of_20 plain =
      unlike (sym alert ∙ sym (promise table_port application42 None frame_alert) ∙ plain table_port application42 None frame_alert ∙ early)
