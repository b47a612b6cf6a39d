-- Sentences: sentences of document 01 that are consequences of the definitions, and so no definition's own words.
--
--   read_table_alone        "Elements": the verdict, and the table of an accepted message, do not depend on the table that is given
--   empty_ids_fits_nobody    "Elements": a rule that lists no client fits nobody
--   empty_ids_accepted      "Elements": a 50.4 without a known child is accepted; here its child is of type 99
--
-- Trusts: nothing.
use Prim.Native.Nat.{ℕ}
use mathlib.Core.Path.{◌≡◌, refl}
use mathlib.Core.Bool.{false}
use mathlib.Core.List.{List, [], ◌∷◌}
use lib.ListN.{replicate}
use Rattle.numbers.specs.Numbers.{number_at}
use Rattle.wire.specs.Bytes.{pasted}
use Rattle.table.specs.declared.Client.{Client}
use Rattle.table.specs.declared.Rule.{Rule}
use Rattle.table.specs.declared.Table.{Table}
use Rattle.table.specs.Table.{rules_of, classifiers_of, clients_of, numbers_of, empty_client, empty_rule, empty_table}
use Rattle.elements.specs.Elements.{head_at}
use Rattle.types.specs.Types.{known_types}
use Rattle.types.specs.Places.{child_of, under, placed, type_of, parent_in, table, line_at, place_in, known_at, type_under}
use Rattle.musts.specs.Musts.{missing_in, lacks_must}
use Rattle.rows.specs.declared.Tally.{Tally}
use Rattle.element_tests.specs.Tests.{second_copy, wrong_length, no_channel, bad_value, is_full, own_tests}
use Rattle.rows.specs.Tests.{is_row, row_end, empty_tally}
use Rattle.rows.specs.Rows as rows
use Rattle.rows.specs.Rows.{element_with, row_step, row_of, element_of, tested_at}
use Rattle.children.specs.Rows.{done, item, row_from, row_in, row_inside}
use Rattle.clients.specs.Clients.{with_client_child, clients_in}
use Rattle.rules.specs.Rules.{with_rule_child, rule_at}
use Rattle.order.specs.Best.{any_of}
use Rattle.choice.specs.Choose.{Ucid, lists_client, fits_client}
use Rattle.named.specs.Named.{Nothing, unanswered, lone_number}
use Rattle.reader.specs.Take.{with_rule, with_element, is_taken}
use Rattle.reader.specs.Read.{read_table}
use Rattle.reader.specs.Read.{Accepted}
use Rattle.reader.proofs.Laws.{read_table-verdict, read_table-table}
use Rattle.reader.proofs.Bench.{accepted}

-- ---- the table follows from the message alone

pub read_table_alone : (g h : Table) (msg : List ℕ)
    → ((read_table g msg).verdict ≡ (read_table h msg).verdict) × ((read_table g msg).verdict ≡ Accepted → (read_table g msg).table ≡ (read_table h msg).table)
read_table_alone g h msg = (read_table-verdict g h msg, read_table-table g h msg)

-- ---- a rule that lists nobody

pub empty_ids_fits_nobody : (rule : Rule) → rule.clientcount ≡ 0 → (c : Client) (u : Ucid) → fits_client c u rule ≡ false
unfolding fits_client lists_client clients_of any_of
empty_ids_fits_nobody rule e c u = rw e refl

-- the tally after so many rules and configurations
abbrev after : ℕ → ℕ → Tally
after rules configurations = record { counts = 0 ∷ rules ∷ configurations ∷ 0 ∷ 0 ∷ 0 ∷ 0 ∷ 0 ∷ [] }

abbrev table_with : ℕ → List Rule → ℕ → List ℕ → Table
table_with n rules k channels =
    record { rulecount = n; classifiercount = 0; channelcount = k; timers = empty_table.timers; channels = channels; classifiers = empty_table.classifiers; rules = rules }

-- ---- a rule whose 50.4 has no known child, only one of type 99

abbrev nobody : Table
nobody =
    let none = replicate 8 empty_client in
    let rule : Rule = record { number = 5; priority = 0; ucidcount = 0; clientcount = 0; numbercount = 0; ucids = replicate 16 0; numbers = replicate 8 0; tunnel = 0x01005e050505; clients = none } in
    table_with 1 (rule ∷ replicate 31 empty_rule) 0 (replicate 32 0)

row_nobody : row_in (0x32 ∷ 16 ∷ 1 ∷ 1 ∷ 5 ∷ 4 ∷ 3 ∷ 0x63 ∷ 1 ∷ 0 ∷ 5 ∷ 6 ∷ 1 ∷ 0 ∷ 0x5E ∷ 5 ∷ 5 ∷ 5 ∷ []) 0 18 ≡ item 0 16 done
unfolding row_from row_in head_at
row_nobody = refl

tested_nobody : tested_at (0x32 ∷ 16 ∷ 1 ∷ 1 ∷ 5 ∷ 4 ∷ 3 ∷ 0x63 ∷ 1 ∷ 0 ∷ 5 ∷ 6 ∷ 1 ∷ 0 ∷ 0x5E ∷ 5 ∷ 5 ∷ 5 ∷ []) 0 empty_tally ≡ record { bad = 0; off = 0; next = 18; tally = after 1 0 }
unfolding number_at head_at known_types child_of under placed type_of parent_in table line_at place_in known_at type_under missing_in lacks_must second_copy wrong_length no_channel bad_value is_full own_tests is_row row_end element_with row_step rows.row_from row_of element_of tested_at
tested_nobody = refl

free_nobody : is_taken (0x32 ∷ 16 ∷ 1 ∷ 1 ∷ 5 ∷ 4 ∷ 3 ∷ 0x63 ∷ 1 ∷ 0 ∷ 5 ∷ 6 ∷ 1 ∷ 0 ∷ 0x5E ∷ 5 ∷ 5 ∷ 5 ∷ []) 0 empty_table ≡ false
unfolding is_taken rules_of number_at pasted head_at row_from row_in row_inside with_client_child clients_in with_rule_child rule_at with_rule with_element
free_nobody = refl

with_nobody : with_element (0x32 ∷ 16 ∷ 1 ∷ 1 ∷ 5 ∷ 4 ∷ 3 ∷ 0x63 ∷ 1 ∷ 0 ∷ 5 ∷ 6 ∷ 1 ∷ 0 ∷ 0x5E ∷ 5 ∷ 5 ∷ 5 ∷ []) 0 empty_table ≡ nobody
unfolding number_at pasted head_at row_from row_in row_inside with_client_child clients_in with_rule_child rule_at with_rule with_element
with_nobody = refl

answered_nobody : unanswered nobody ≡ Nothing
unfolding unanswered rules_of numbers_of classifiers_of
answered_nobody = refl

pub empty_ids_accepted : (given : Table) → read_table given (0x32 ∷ 16 ∷ 1 ∷ 1 ∷ 5 ∷ 4 ∷ 3 ∷ 0x63 ∷ 1 ∷ 0 ∷ 5 ∷ 6 ∷ 1 ∷ 0 ∷ 0x5E ∷ 5 ∷ 5 ∷ 5 ∷ []) ≡ accepted nobody
unfolding read_table lone_number
empty_ids_accepted given = rw (row_nobody, tested_nobody, free_nobody, with_nobody, answered_nobody) refl
