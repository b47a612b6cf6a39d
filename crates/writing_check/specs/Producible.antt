-- Producible: the test of refusal 19, whether reading can produce a lent table (document 02, Req 01).
--
--   producible t             the test: 19 where it is false
--
-- What it asks of one entry is said by specs/Entries.antt of writing_entries. A count above its limit fails here, though it is read as its
-- limit elsewhere: no reading leaves it. That `producible` holds exactly where a message reads to the table is `refused_exact` in writing_laws.
-- Tested by: each field of accepted tables changed, and random tables against the other program, in host/.
-- Trusts: nothing.
use Rattle.std.specs.Prelude.{Bool, true, false, not, ◌&&◌, drop, leb}
use Rattle.table.specs.Table.{rules_of, classifiers_of, channels_of}
use Rattle.table.specs.declared.Table.{Table}
use Rattle.element_tests.specs.Tests.{no_channel}
use Rattle.listed.specs.Listed.{is_distinct}
use Rattle.named.specs.Named.{Found, Nothing, Number, classifier_numbers, unanswered}
use Rattle.reader.specs.Take.{rule_numbers}
use Rattle.writing_entries.specs.Entries.{all_of, is_zero, sound_rule, unused_rule, sound_classifier, unused_classifier}

abbrev pub is_nothing : Found → Bool
is_nothing Nothing = true
is_nothing (Number i j) = false

unfoldable pub producible : Table → Bool
producible t =
    leb t.channelcount 32 && (all_of is_zero (drop t.channelcount t.channels) && (all_of (λ hertz. not (no_channel hertz)) (channels_of t)
    && (leb t.classifiercount 32 && (all_of unused_classifier (drop t.classifiercount t.classifiers) && (all_of sound_classifier (classifiers_of t)
    && (leb t.rulecount 32 && (all_of unused_rule (drop t.rulecount t.rules) && (all_of sound_rule (rules_of t)
    && (not (is_zero t.timers.tdsg1) && (not (is_zero t.timers.tdsg2)
    && (is_distinct (rule_numbers t) && (is_distinct (classifier_numbers t) && is_nothing (unanswered t)))))))))))))
