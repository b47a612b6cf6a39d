-- What the header's length decides of a verdict (specs/Judge.antt; document 02, Req 02).
--
--   verdict_of-free     a rule that names no classifier forwards, whatever the header says
--   verdict_of-none     a rule that names some filters where no classifier matches
--   verdict_of-few, verdict_of_past   so a header under five words, or one that passes the frame's end, is filtered
--   choice_by, verdict_by ok t frame c u   the verdict by any test of classifiers: the text of specs/Judge.antt, with the test handed over
--   verdict_of_by       by `matches_frame` it is `verdict_of`
--   plain_verdict t c u frame   the verdict as document 01 had it, with every header taken for 20 bytes
--   verdict_of_plain    of a header of five words, the same as today
-- Trusts: nothing.
use mathlib.Core.Path.{◌≡◌, refl, ap, ◌∙◌, fun_ext}
use mathlib.Core.Bool.{Bool, false, cond, not, ◌&&◌}
use mathlib.Core.List.{List}
use Prim.Native.Nat.{ℕ, ◌<◌}
use native.Mathlib.Omega.{arith}
use lib.ListN.{length, get_or}
use lib.Dec.{ltb, eqb}
use borrow.Author.Tests.{eq-eqb, ne_eqb, le-ltb}
use Rattle.table.specs.declared.Client.{Client}
use Rattle.table.specs.declared.Rule.{Rule}
use Rattle.table.specs.declared.Classifier.{Classifier}
use Rattle.table.specs.declared.Table.{Table}
use Rattle.table.specs.Table.{classifiers_of, empty_classifier}
use Rattle.choice.specs.Chose as choice
use Rattle.choice.specs.Chose.{Choice}
use Rattle.order.specs.Best.{best_place}
use Rattle.choice.specs.Choose.{Ucid, choice_of, rule_at}
use Rattle.payloads.specs.Judged.{Verdict, Refused, Other, Forward, Filtered}
use Rattle.packets.specs.Packets.{wrong_length, address_at, header_words, header_end}
use Rattle.listed.specs.Listed.{names_number}
use Rattle.matching.specs.Match.{matches_frame}
use Rattle.matching.proofs.Headers.{matches_frame-few, matches_frame_past, plain_matches, matches_frame_plain}
use Rattle.tunnel.specs.Judge.{match_place, rule_verdict, choice_verdict, verdict_of}
use Rattle.tunnel.proofs.Verdicts.{match_place_miss}

-- ---- a frame to the tunnel of the chosen rule

module _ (t : Table) (c : Client) (u : Ucid) (frame : List ℕ) (k : ℕ) (sized : wrong_length frame ≡ false) (chosen : choice_of t c u ≡ choice.Chosen k) (here : address_at frame ≡ (rule_at t k).tunnel) where
  pub verdict_of-free : (rule_at t k).numbercount ≡ 0 → verdict_of t c u frame ≡ Forward 0
  unfolding verdict_of choice_verdict rule_verdict
  verdict_of-free none = rw (sized, chosen, eq-eqb _ _ here, eq-eqb _ _ none)

  module _ (names : (rule_at t k).numbercount ≡ 0 → ⊥) where
    pub verdict_of-none : ((cl : Classifier) → matches_frame frame cl ≡ false) → verdict_of t c u frame ≡ Filtered
    unfolding verdict_of choice_verdict rule_verdict
    verdict_of-none miss =
        let nowhere : match_place t (rule_at t k) frame ≡ length (classifiers_of t) = match_place_miss t (rule_at t k) frame miss in
        rw (sized, chosen, eq-eqb _ _ here, ne_eqb _ _ names, nowhere, le-ltb (length (classifiers_of t)) (length (classifiers_of t)) (omega arith))

    pub verdict_of-few : header_words frame < 5 → verdict_of t c u frame ≡ Filtered
    verdict_of-few h = verdict_of-none (λ cl. matches_frame-few frame cl h)

    pub verdict_of_past : length frame < header_end frame → verdict_of t c u frame ≡ Filtered
    verdict_of_past h = verdict_of-none (λ cl. matches_frame_past frame cl h)

-- ---- the verdict by another test of classifiers

module _ (ok : Classifier → Bool) (t : Table) (frame : List ℕ) where
  abbrev place_by : Rule → ℕ
  place_by rule = best_place (λ cl. cl.priority) (λ cl. cl.number) (λ cl. ok cl && names_number rule cl.number) (classifiers_of t)

  abbrev rule_by : Rule → Verdict
  rule_by rule =
      cond (not (eqb (address_at frame) rule.tunnel)) Other
      (cond (eqb rule.numbercount 0) (Forward 0)
      (cond (ltb (place_by rule) (length (classifiers_of t))) (Forward (get_or (classifiers_of t) (place_by rule) empty_classifier).number) Filtered))

  unfoldable pub choice_by : Choice → Verdict
  choice_by (choice.Refused n) = Refused n
  choice_by (choice.Chosen place) = rule_by (rule_at t place)

  abbrev pub verdict_by : Client → Ucid → Verdict
  verdict_by c u = cond (wrong_length frame) (Refused 16) (choice_by (choice_of t c u))

choice_verdict_by : (t : Table) (frame : List ℕ) (ch : Choice) → choice_verdict t frame ch ≡ choice_by (matches_frame frame) t frame ch
unfolding choice_verdict choice_by rule_verdict match_place
choice_verdict_by t frame (choice.Refused n) = refl
choice_verdict_by t frame (choice.Chosen place) = refl

module _ (t : Table) (c : Client) (u : Ucid) (frame : List ℕ) where
  pub verdict_of_by : verdict_of t c u frame ≡ verdict_by (matches_frame frame) t frame c u
  unfolding verdict_of
  verdict_of_by = ap (λ (v : Verdict). cond (wrong_length frame) (Refused 16) v) (choice_verdict_by t frame (choice_of t c u))

  abbrev pub plain_verdict : Verdict
  plain_verdict = verdict_by (plain_matches frame) t frame c u

  pub verdict_of_plain : header_words frame ≡ 5 → verdict_of t c u frame ≡ plain_verdict
  verdict_of_plain five = verdict_of_by ∙ ap (λ (ok : Classifier → Bool). verdict_by ok t frame c u) (fun_ext (λ cl. matches_frame_plain frame cl five))
