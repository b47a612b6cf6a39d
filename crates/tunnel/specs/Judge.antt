-- Judge: the verdict on a frame (document 01, "Choosing and judging").
--
--   match_place t rule frame  the place of the matching classifier: of those that the rule names and that match, the
--                            greatest priority, then the smallest number; the count where none matches
--   rule_verdict t rule frame the verdict of a chosen rule: Other, Forward or Filtered
--   verdict_of t c u frame    the verdict: 16, then 17, then the chosen rule's
--
-- A number that no classifier of the table carries never matches; of a repeated number every entry is tried.
-- Tested by: random tables and frames against the other program. Trusts: nothing.
use Rattle.std.specs.Prelude.{ℕ, cond, not, ◌&&◌, List, length, get_or, ltb, eqb}
use Rattle.table.specs.declared.Client.{Client}
use Rattle.table.specs.declared.Rule.{Rule}
use Rattle.table.specs.declared.Table.{Table}
use Rattle.table.specs.Table.{classifiers_of, empty_classifier}
use Rattle.choice.specs.Chose as choice
use Rattle.choice.specs.Chose.{Choice}
use Rattle.order.specs.Best.{best_place}
use Rattle.choice.specs.Choose.{Ucid, choice_of, rule_at}
use Rattle.payloads.specs.Judged.{Verdict, Refused, Other, Forward, Filtered}
use Rattle.packets.specs.Packets.{wrong_length, address_at}
use Rattle.listed.specs.Listed.{names_number}
use Rattle.matching.specs.Match.{matches_frame}

unfoldable pub match_place : Table → Rule → List ℕ → ℕ
match_place t rule frame =
    best_place (λ cl. cl.priority) (λ cl. cl.number) (λ cl. matches_frame frame cl && names_number rule cl.number) (classifiers_of t)

unfoldable pub rule_verdict : Table → Rule → List ℕ → Verdict
rule_verdict t rule frame =
    cond (not (eqb (address_at frame) rule.tunnel)) Other
    (cond (eqb rule.numbercount 0) (Forward 0)
    (cond (ltb (match_place t rule frame) (length (classifiers_of t))) (Forward (get_or (classifiers_of t) (match_place t rule frame) empty_classifier).number) Filtered))

-- the verdict of a choice
unfoldable pub choice_verdict : Table → List ℕ → Choice → Verdict
choice_verdict t frame (choice.Refused n) = Refused n
choice_verdict t frame (choice.Chosen place) = rule_verdict t (rule_at t place) frame

unfoldable pub verdict_of : Table → Client → Ucid → List ℕ → Verdict
verdict_of t c u frame = cond (wrong_length frame) (Refused 16) (choice_verdict t frame (choice_of t c u))
