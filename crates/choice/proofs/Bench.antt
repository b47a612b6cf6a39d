-- The starred example of document 01 on choosing: of message M's two rules, application 42 gets rule 5.
--
--   rule_m number priority tunnel   a rule as M has it: one client, application 42, no classifier, no UCID
--   table_m                         the table with M's two rules
--   starred                        application 42 gets rule 5, at place 0, whatever UCID is known
-- That reading M gives `table_m` but for its channel belongs to the reader; `choice_of` looks at no channel (`choice_of_rules`).
-- Trusts: nothing.
use mathlib.Core.Path.{◌≡◌, refl}
use mathlib.Core.List.{List, [], ◌∷◌, ◌++◌}
use Prim.Native.Nat.{ℕ}
use lib.ListN.{replicate}
use Rattle.table.specs.declared.Client.{Client}
use Rattle.table.specs.declared.Rule.{Rule}
use Rattle.table.specs.declared.Table.{Table}
use Rattle.table.specs.Table.{rules_of, clients_of, ucids_of, empty_client, empty_rule, empty_classifier, default_timers}
use Rattle.std.specs.Prelude.{None, Some}
use Rattle.choice.specs.Chose.{Chosen, Refused}
use Rattle.order.specs.Best.{comes_before, any_of, first_place, is_best, best_place}
use Rattle.choice.specs.Choose.{Ucid, is_client, lists_client, lists_ucid, admits_ucid, fits_client, chosen_place, chosen_rule, choice_of, rule_at}

abbrev pub application42 : Client
application42 = record { kind = 4; value = 42 }

abbrev pub rule_m : ℕ → ℕ → ℕ → Rule
rule_m number priority tunnel =
    record {
      number = number;
      priority = priority;
      ucidcount = 0;
      clientcount = 1;
      numbercount = 0;
      ucids = replicate 16 0;
      numbers = replicate 8 0;
      tunnel = tunnel;
      clients = application42
          ∷ replicate 7 empty_client;
    }

abbrev pub rules_m : List Rule
rules_m = rule_m 5 80 0x01005e050505 ∷ rule_m 6 9 0x01005e060606 ∷ []

abbrev pub table_m : Table
table_m =
    record {
      rulecount = 2;
      classifiercount = 0;
      channelcount = 1;
      timers = default_timers;
      channels = 603000000
          ∷ replicate 31 0;
      classifiers = replicate 32 empty_classifier;
      rules = rules_m ++ replicate 30 empty_rule;
    }

-- the choice looks at the rules alone
pub choice_of_rules : (t s : Table) (c : Client) (u : Ucid) → rules_of t ≡ rules_of s → choice_of t c u ≡ choice_of s c u
unfolding choice_of
choice_of_rules t s c u e = rw e

pub starred : (u : Ucid) → (choice_of table_m application42 u ≡ Chosen 0) × ((rule_at table_m 0).number ≡ 5)
unfolding choice_of chosen_place best_place first_place is_best any_of comes_before fits_client lists_client lists_ucid admits_ucid is_client rules_of clients_of ucids_of
starred None = (refl, refl)
starred (Some n) = (refl, refl)

-- the rules the other way round: rule 5 all the same
pub turned : (u : Ucid) → (chosen_rule application42 u (rule_m 6 9 0x01005e060606 ∷ rule_m 5 80 0x01005e050505 ∷ [])).number ≡ 5
unfolding chosen_rule chosen_place best_place first_place is_best any_of comes_before fits_client lists_client lists_ucid admits_ucid is_client rules_of clients_of ucids_of
turned None = refl
turned (Some n) = refl

-- a client that no rule of M lists
pub unlisted : (u : Ucid) → choice_of table_m (record { kind = 3; value = 42 }) u ≡ Refused 17
unfolding choice_of chosen_place best_place first_place is_best any_of comes_before fits_client lists_client lists_ucid admits_ucid is_client rules_of clients_of ucids_of
unlisted None = refl
unlisted (Some n) = refl
