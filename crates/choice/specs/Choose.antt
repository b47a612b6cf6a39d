-- Choose: the rule for a client (document 01, "Choosing and judging").
--
--   Ucid                     what is known of the upstream channel: its number, or none
--   is_client a b            the same kind and the same value
--   lists_client, lists_ucid  whether a rule lists a client, a UCID
--   admits_ucid rule u       the rule has no UCID list, or the UCID is known and in it
--   fits_client c u rule     the rule lists the client and admits the UCID
--   chosen_place c u rules   the place of the chosen rule; the length where none fits
--   chosen_rule c u rules    the rule there
--   choice_of t c u          the answer: Chosen with the place, or Refused 17
--   refusal_of, place_of      what an answer says: the paper's refusal number, 0 for none; the place, 0 for none
--   FitsBest t c u k        the same choice said without a computation
--
-- A client of kind 0 is the length-0 broadcast and fits an entry of kind 0 only, also where values are 0.
-- Tested by: message M in proofs/Bench.antt; random tables against the other program.
-- Trusts: nothing.
use Rattle.std.specs.Prelude.{ℕ, ◌≤◌, ◌<◌, ◌≡◌, Bool, true, cond, ◌&&◌, ◌||◌, List, length, get_or, ltb, eqb, Option, None, Some}
use Rattle.table.specs.declared.Client.{Client}
use Rattle.table.specs.declared.Rule.{Rule}
use Rattle.table.specs.declared.Table.{Table}
use Rattle.table.specs.Table.{rules_of, clients_of, ucids_of, empty_rule}
use Rattle.order.specs.Best.{any_of, best_place}
use Rattle.choice.specs.Chose.{Choice, Chosen, Refused}

abbrev pub Ucid : Type 0
Ucid = Option ℕ

unfoldable pub is_client : Client → Client → Bool
is_client a b = eqb a.kind b.kind && eqb a.value b.value

unfoldable pub lists_client : Rule → Client → Bool
lists_client rule c = any_of (is_client c) (clients_of rule)

unfoldable pub lists_ucid : Rule → ℕ → Bool
lists_ucid rule u = any_of (eqb u) (ucids_of rule)

unfoldable pub admits_ucid : Rule → Ucid → Bool
admits_ucid rule None = eqb rule.ucidcount 0
admits_ucid rule (Some u) = eqb rule.ucidcount 0 || lists_ucid rule u

unfoldable pub fits_client : Client → Ucid → Rule → Bool
fits_client c u rule = lists_client rule c && admits_ucid rule u

unfoldable pub chosen_place : Client → Ucid → List Rule → ℕ
chosen_place c u rules = best_place (λ rule. rule.priority) (λ rule. rule.number) (fits_client c u) rules

-- the chosen rule itself; an unused one where none fits
unfoldable pub chosen_rule : Client → Ucid → List Rule → Rule
chosen_rule c u rules = get_or rules (chosen_place c u rules) empty_rule

unfoldable pub choice_of : Table → Client → Ucid → Choice
choice_of t c u =
    cond (ltb (chosen_place c u (rules_of t)) (length (rules_of t))) (Chosen (chosen_place c u (rules_of t))) (Refused 17)

abbrev pub refusal_of : Choice → ℕ
refusal_of (Chosen place) = 0
refusal_of (Refused n) = n

abbrev pub place_of : Choice → ℕ
place_of (Chosen place) = place
place_of (Refused n) = 0

-- the rule at a place of the table; an unused one beyond its end
abbrev pub rule_at : Table → ℕ → Rule
rule_at t k = get_or (rules_of t) k empty_rule

-- the rule at k fits, and of the rules that fit none has a greater priority, none its priority and a smaller number,
-- and none before it has both alike
pub record FitsBest (t : Table) (c : Client) (u : Ucid) (k : ℕ) : Type 0 where
  pub there : k < length (rules_of t)
  pub fits : fits_client c u (rule_at t k) ≡ true
  pub greatest : (j : ℕ) → j < length (rules_of t) → fits_client c u (rule_at t j) ≡ true → (rule_at t j).priority ≤ (rule_at t k).priority
  pub smallest : (j : ℕ) → j < length (rules_of t) → fits_client c u (rule_at t j) ≡ true → (rule_at t j).priority ≡ (rule_at t k).priority
      → (rule_at t k).number ≤ (rule_at t j).number
  pub first : (j : ℕ) → j < length (rules_of t) → fits_client c u (rule_at t j) ≡ true → (rule_at t j).priority ≡ (rule_at t k).priority
      → (rule_at t j).number ≡ (rule_at t k).number → k ≤ j
