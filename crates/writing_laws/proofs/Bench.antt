-- Computed from the definitions: the table of document 01's M written, configuration first; all three kinds of element; the empty table.
-- Trusts: nothing.
use Prim.Native.Nat.{ℕ}
use mathlib.Core.Path.{◌≡◌, refl}
use mathlib.Core.List.{[], ◌∷◌}
use Rattle.table.specs.Table.{rules_of, classifiers_of, channels_of, clients_of, numbers_of, ucids_of, empty_table, empty_rule, empty_classifier, empty_client}
use Rattle.table.specs.declared.Table.{Table}
use Rattle.table.specs.declared.Rule.{Rule}
use Rattle.wire.specs.Bytes.{concat}
use Rattle.texts.specs.Text.{each}
use Rattle.writing_cuts.specs.Pieces.{pieces_from, pieces_of}
use Rattle.writing_elements.specs.Encode.{big_endian, part, part_row, classifier_row, classifier_bytes, client_bytes, number_bytes, ucid_bytes, rule_row, rule_bytes, channel_bytes, timer, timers_row, configuration_row, elements_of, message_of}
use lib.ListN.{replicate}

abbrev rule_of : ℕ → ℕ → ℕ → Rule
rule_of n p t =
    record { number = n; priority = p; ucidcount = 0; clientcount = 1; numbercount = 0; ucids = replicate 16 0; numbers = replicate 8 0; tunnel = t; clients = record { kind = 4; value = 42 } ∷ replicate 7 empty_client }

-- the table of M: document 01, "Listing"
abbrev table_m : Table
table_m =
    record {
      rulecount = 2;
      classifiercount = 0;
      channelcount = 1;
      timers = empty_table.timers;
      channels = 603000000 ∷ replicate 31 0;
      classifiers = empty_table.classifiers;
      rules = rule_of 5 80 1101089015045 ∷ rule_of 6 9 1101089080838 ∷ replicate 30 empty_rule;
    }

written-M : message_of table_m
    ≡ 51 ∷ 6 ∷ 1 ∷ 4 ∷ 35 ∷ 241 ∷ 12 ∷ 192
    ∷ 50 ∷ 20 ∷ 1 ∷ 1 ∷ 5 ∷ 2 ∷ 1 ∷ 80 ∷ 4 ∷ 4 ∷ 4 ∷ 2 ∷ 0 ∷ 42 ∷ 5 ∷ 6 ∷ 1 ∷ 0 ∷ 94 ∷ 5 ∷ 5 ∷ 5
    ∷ 50 ∷ 20 ∷ 1 ∷ 1 ∷ 6 ∷ 2 ∷ 1 ∷ 9 ∷ 4 ∷ 4 ∷ 4 ∷ 2 ∷ 0 ∷ 42 ∷ 5 ∷ 6 ∷ 1 ∷ 0 ∷ 94 ∷ 6 ∷ 6 ∷ 6 ∷ []
unfolding message_of elements_of concat rules_of classifiers_of channels_of clients_of numbers_of ucids_of big_endian each client_bytes number_bytes ucid_bytes rule_row rule_bytes channel_bytes timer timers_row configuration_row
written-M = refl

-- a table with all three kinds of element: two unusual timers, a channel, a classifier with a source and a port, and a rule of priority 0 whose client IDs stand in list order
abbrev table_all : Table
table_all =
    record {
      rulecount = 1;
      classifiercount = 1;
      channelcount = 1;
      timers = record { tdsg1 = 2; tdsg2 = 300; tdsg3 = 0; tdsg4 = 1800 };
      channels = 62500 ∷ replicate 31 0;
      classifiers = record { destination = 4009820675; source = 167772161; mask = 0; number = 10; start = 0; end = 5010; priority = 7; hassource = 1; hasmask = 0; hasstart = 0; hasend = 1 } ∷ replicate 31 empty_classifier;
      rules =
          record { number = 0; priority = 0; ucidcount = 2; clientcount = 3; numbercount = 1; ucids = 9 ∷ 3 ∷ replicate 14 0; numbers = 10 ∷ replicate 7 0; tunnel = 1101089015045; clients = record { kind = 4; value = 42 } ∷ empty_client ∷ record { kind = 2; value = 258 } ∷ replicate 5 empty_client }
          ∷ replicate 31 empty_rule;
    }

written_all : message_of table_all
    ≡ 51 ∷ 14 ∷ 1 ∷ 4 ∷ 0 ∷ 0 ∷ 244 ∷ 36 ∷ 3 ∷ 2 ∷ 1 ∷ 44 ∷ 4 ∷ 2 ∷ 0 ∷ 0
    ∷ 23 ∷ 25 ∷ 2 ∷ 2 ∷ 0 ∷ 10 ∷ 5 ∷ 1 ∷ 7 ∷ 9 ∷ 16 ∷ 3 ∷ 4 ∷ 10 ∷ 0 ∷ 0 ∷ 1 ∷ 5 ∷ 4 ∷ 239 ∷ 1 ∷ 2 ∷ 3 ∷ 10 ∷ 2 ∷ 19 ∷ 146
    ∷ 50 ∷ 38 ∷ 1 ∷ 1 ∷ 0 ∷ 2 ∷ 1 ∷ 0 ∷ 3 ∷ 2 ∷ 9 ∷ 3 ∷ 4 ∷ 14 ∷ 4 ∷ 2 ∷ 0 ∷ 42 ∷ 1 ∷ 0 ∷ 2 ∷ 6 ∷ 0 ∷ 0 ∷ 0 ∷ 0 ∷ 1 ∷ 2 ∷ 5 ∷ 6 ∷ 1 ∷ 0 ∷ 94 ∷ 5 ∷ 5 ∷ 5 ∷ 6 ∷ 2 ∷ 0 ∷ 10 ∷ []
unfolding message_of elements_of concat rules_of classifiers_of channels_of clients_of numbers_of ucids_of big_endian each client_bytes number_bytes ucid_bytes rule_row rule_bytes part part_row classifier_row classifier_bytes channel_bytes timer timers_row configuration_row
written_all = refl

-- an empty list of elements still gives one piece
written-empty : pieces_of (elements_of empty_table) ≡ [] ∷ []
unfolding elements_of pieces_of pieces_from rules_of classifiers_of channels_of each timer timers_row configuration_row
written-empty = refl
