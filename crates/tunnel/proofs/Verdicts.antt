-- Laws of the verdict (specs/Judge.antt).
--
--   verdict_of-short, verdict_of_17   refusals 16, then 17
--   verdict_of-address   a frame of another address is never forwarded
--   match_place_miss     where no classifier matches the frame, the place is the count
-- Trusts: nothing.
use mathlib.Core.Path.{◌≡◌, refl, sym, ap, ◌∙◌}
use mathlib.Core.Bool.{Bool, true, false, cond, not}
use mathlib.Core.List.{List, Memᴰ}
use Prim.Native.Nat.{ℕ}
use native.Mathlib.Omega.{arith}
use lib.ListN.{length}
use lib.Dec.{eqb}
use borrow.Author.Tests.{eqb-true}
use Rattle.table.specs.declared.Client.{Client}
use Rattle.table.specs.declared.Rule.{Rule}
use Rattle.table.specs.declared.Classifier.{Classifier}
use Rattle.table.specs.declared.Table.{Table}
use Rattle.table.specs.Table.{rules_of, classifiers_of}
use Rattle.choice.specs.Chose as choice
use Rattle.choice.specs.Chose.{Choice}
use Rattle.choice.specs.Choose.{Ucid, fits_client, choice_of, rule_at}
use Rattle.choice.proofs.Fits.{choice_of_none}
use Rattle.order.proofs.Places.{best_place-none}
use Rattle.payloads.specs.Judged.{Verdict, Refused, Other, Forward}
use Rattle.packets.specs.Packets.{wrong_length, address_at}
use Rattle.matching.specs.Match.{matches_frame}
use Rattle.tunnel.specs.Judge.{match_place, rule_verdict, choice_verdict, verdict_of}

pub verdict_of-short : (t : Table) (c : Client) (u : Ucid) (frame : List ℕ) → wrong_length frame ≡ true → verdict_of t c u frame ≡ Refused 16
unfolding verdict_of
verdict_of-short t c u frame w = rw w

pub verdict_of_17 : (t : Table) (c : Client) (u : Ucid) (frame : List ℕ) → wrong_length frame ≡ false
    → ((rule : Rule) → Memᴰ rule (rules_of t) → fits_client c u rule ≡ false) → verdict_of t c u frame ≡ Refused 17
unfolding verdict_of choice_verdict
verdict_of_17 t c u frame w h = rw (w, choice_of_none t c u h)

pub verdict_of-address : (t : Table) (c : Client) (u : Ucid) (frame : List ℕ) (k n : ℕ) → choice_of t c u ≡ choice.Chosen k → verdict_of t c u frame ≡ Forward n → address_at frame ≡ (rule_at t k).tunnel
unfolding verdict_of choice_verdict rule_verdict
verdict_of-address t c u frame k n e v =
    go (wrong_length frame) (eqb (address_at frame) (rule_at t k).tunnel) _ refl (sym (ap (λ (ch : Choice). cond (wrong_length frame) (Refused 16) (choice_verdict t frame ch)) e) ∙ v)
  where
    go : (b a : Bool) (x : Verdict) → eqb (address_at frame) (rule_at t k).tunnel ≡ a → cond {A = Verdict} b (Refused 16) (cond (not a) Other x) ≡ Forward n → address_at frame ≡ (rule_at t k).tunnel
    go true a x ea ev = let z : ◌≡◌ {A = ℕ} 0 1 = cc in absurd (omega arith)
    go false false x ea ev = let z : ◌≡◌ {A = ℕ} 0 1 = cc in absurd (omega arith)
    go false true x ea ev = eqb-true (address_at frame) (rule_at t k).tunnel ea

pub match_place_miss : (t : Table) (rule : Rule) (frame : List ℕ) → ((cl : Classifier) → matches_frame frame cl ≡ false) → match_place t rule frame ≡ length (classifiers_of t)
unfolding match_place
match_place_miss t rule frame miss = best_place-none _ _ _ (classifiers_of t) (λ cl mem. rw (miss cl))
