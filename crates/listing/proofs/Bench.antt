-- Document 01's examples of a table's listing, computed from the definitions: one list, one theorem.
-- Trusts: nothing.
use Prim.Native.Nat.{ℕ}
use mathlib.Core.Path.{◌≡◌, refl}
use mathlib.Core.List.{[], ◌∷◌}
use lib.ListN.{replicate}
use Rattle.table.specs.declared.Rule.{Rule}
use Rattle.table.specs.declared.Classifier.{Classifier}
use Rattle.table.specs.declared.Table.{Table}
use Rattle.table.specs.Table.{rules_of, classifiers_of, channels_of, clients_of, numbers_of, empty_client, empty_rule, empty_classifier, default_timers}
use Rattle.texts.specs.Text.{ascii, digit, decimal, decimal_in, hexadecimal, field, address, each}
use Rattle.listing.specs.Text.{sizes_line, rule_line, classifier_line, channel_line, timers_line, table_text}

-- a rule of message M: application 42, no classifier, no UCID list
pub rule_of : ℕ → ℕ → ℕ → Rule
rule_of number priority tunnel =
    record { number = number; priority = priority; ucidcount = 0; clientcount = 1; numbercount = 0; ucids = replicate 16 0; numbers = replicate 8 0; tunnel = tunnel; clients = record { kind = 4; value = 42 } ∷ replicate 7 empty_client }

-- the table of message M
pub table_m : Table
unfolding rule_of
table_m =
    record {
      rulecount = 2;
      classifiercount = 0;
      channelcount = 1;
      timers = default_timers;
      channels = 603000000
          ∷ replicate 31 0;
      classifiers = replicate 32 empty_classifier;
      rules = rule_of 5 80 0x01005e050505 ∷ rule_of 6 9 0x01005e060606 ∷ replicate 30 empty_rule;
    }

pub classifier10 : Classifier
classifier10 =
    record { destination = 0; source = 0; mask = 0; number = 10; start = 0; end = 0; priority = 1; hassource = 0; hasmask = 0; hasstart = 0; hasend = 0 }

pub listed : (table_text 7 table_m ∷ classifier_line classifier10 ∷ [])
    ≡ (ascii "dcd 7 rules 2 classifiers 0 channels 1\nrule 5 priority 80 tunnel 01005e050505 clients 1 classifiers 0\nrule 6 priority 9 tunnel 01005e060606 clients 1 classifiers 0\nchannel 603000000\ntimers 2 600 300 1800\n"
    ∷ ascii "classifier 10 priority 1\n" ∷ [])
unfolding rule_of table_m classifier10 rules_of classifiers_of channels_of clients_of numbers_of digit decimal decimal_in hexadecimal field address sizes_line rule_line classifier_line channel_line timers_line each table_text
listed = refl
