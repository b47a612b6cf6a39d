-- Examples, computed: what a frame to the tunnel of application 42 gets, by message M (document 01) and by a table that names a port
-- (document 02, Req 02).
--
--   frame_m             a frame of 15 bytes to the address of rule 5
--   forwarded, lent    it is forwarded with no classifier, and its one byte from 14 on is lent back
--   other, short, unfit   another address; a frame of 13 bytes; a client that no rule lists
--   table_port          rule 5 names classifier 10: destination 224.0.0.1, port 5000
--   frame_alert         a UDP frame to it with a Router Alert in its header, so that the ports stand at byte 38
--   alert, early       it is forwarded by classifier 10; with a header taken for 20 bytes it was filtered
-- Trusts: nothing.
use mathlib.Core.Path.{◌≡◌, refl}
use mathlib.Core.List.{List, [], ◌∷◌, ◌++◌}
use Prim.Native.Nat.{ℕ}
use lib.ListN.{take, replicate}
use Rattle.table.specs.declared.Classifier.{Classifier}
use Rattle.table.specs.declared.Rule.{Rule}
use Rattle.table.specs.declared.Table.{Table}
use Rattle.table.specs.Table.{rules_of, clients_of, ucids_of, classifiers_of, numbers_of, empty_client, empty_rule, empty_classifier, default_timers}
use Rattle.numbers.specs.Numbers.{number_at}
use Rattle.std.specs.Prelude.{None}
use Rattle.order.specs.Best.{comes_before, any_of, first_place, is_best, best_place}
use Rattle.choice.specs.Choose.{is_client, lists_client, lists_ucid, admits_ucid, fits_client, chosen_place, choice_of}
use Rattle.choice.proofs.Bench.{application42, table_m}
use Rattle.payloads.specs.Judged.{Refused, Other, Forward, Filtered}
use Rattle.packets.specs.Packets.{wrong_length, address_at, header_end, is_ipv4, destination_at, has_port, port_at}
use Rattle.listed.specs.Listed.{names_number}
use Rattle.matching.specs.Match.{port_within, fits_source, fits_port, matches_frame}
use Rattle.tunnel.specs.Judge.{match_place, rule_verdict, choice_verdict, verdict_of}
use Rattle.tunnel.proofs.Headers.{choice_by, plain_verdict}
use Rattle.payloads.specs.Payload.{payload_range, payload_of}

abbrev pub frame_m : List ℕ
frame_m = 1 ∷ 0 ∷ 94 ∷ 5 ∷ 5 ∷ 5 ∷ 0 ∷ 0 ∷ 0 ∷ 0 ∷ 0 ∷ 0 ∷ 8 ∷ 0 ∷ 69 ∷ []

pub forwarded : verdict_of table_m application42 None frame_m ≡ Forward 0
unfolding verdict_of wrong_length choice_verdict rule_verdict address_at number_at choice_of chosen_place best_place first_place is_best any_of comes_before fits_client lists_client lists_ucid admits_ucid is_client rules_of clients_of ucids_of
forwarded = refl

pub lent : payload_of (Forward 0) frame_m ≡ 69 ∷ []
unfolding payload_range
lent = refl

pub other : verdict_of table_m application42 None (1 ∷ 0 ∷ 94 ∷ 6 ∷ 6 ∷ 6 ∷ replicate 9 0) ≡ Other
unfolding verdict_of wrong_length choice_verdict rule_verdict address_at number_at choice_of chosen_place best_place first_place is_best any_of comes_before fits_client lists_client lists_ucid admits_ucid is_client rules_of clients_of ucids_of
other = refl

pub short : verdict_of table_m application42 None (take 13 frame_m) ≡ Refused 16
unfolding verdict_of wrong_length
short = refl

pub unfit : verdict_of table_m (record { kind = 3; value = 42 }) None frame_m ≡ Refused 17
unfolding verdict_of wrong_length choice_verdict choice_of chosen_place best_place first_place is_best any_of comes_before fits_client lists_client lists_ucid admits_ucid is_client rules_of clients_of ucids_of
unfit = refl

-- ---- a router that adds an option

abbrev rule_port : Rule
rule_port =
    record {
      number = 5;
      priority = 80;
      ucidcount = 0;
      clientcount = 1;
      numbercount = 1;
      ucids = replicate 16 0;
      numbers = 10 ∷ replicate 7 0;
      tunnel = 0x01005e050505;
      clients = application42 ∷ replicate 7 empty_client;
    }

abbrev classifier_port : Classifier
classifier_port = record { destination = 0xe0000001; source = 0; mask = 0; number = 10; start = 5000; end = 5000; priority = 1; hassource = 0; hasmask = 0; hasstart = 1; hasend = 1 }

abbrev pub table_port : Table
table_port =
    record {
      rulecount = 1;
      classifiercount = 1;
      channelcount = 0;
      timers = default_timers;
      channels = replicate 32 0;
      classifiers = classifier_port ∷ replicate 31 empty_classifier;
      rules = rule_port ∷ replicate 31 empty_rule;
    }

-- 0x46: version 4, six words; 0x94 0x04 0 0: Router Alert; then the ports, 1024 and 5000
abbrev pub frame_alert : List ℕ
frame_alert =
    take 14 frame_m
    ++ 0x46 ∷ 0 ∷ 0 ∷ 32 ∷ 0 ∷ 0 ∷ 0 ∷ 0 ∷ 16 ∷ 17 ∷ 0 ∷ 0 ∷ 10 ∷ 0 ∷ 0 ∷ 2 ∷ 0xe0 ∷ 0 ∷ 0 ∷ 1 ∷ 0x94 ∷ 0x04 ∷ 0 ∷ 0 ∷ 0x04 ∷ 0 ∷ 0x13 ∷ 0x88 ∷ 0 ∷ 8 ∷ 0 ∷ 0 ∷ []

pub alert : verdict_of table_port application42 None frame_alert ≡ Forward 10
unfolding verdict_of wrong_length choice_verdict rule_verdict match_place matches_frame is_ipv4 header_end fits_source fits_port port_within has_port port_at destination_at names_number numbers_of address_at number_at choice_of chosen_place best_place first_place is_best any_of comes_before fits_client lists_client lists_ucid admits_ucid is_client rules_of clients_of ucids_of classifiers_of
alert = refl

pub early : plain_verdict table_port application42 None frame_alert ≡ Filtered
unfolding choice_by wrong_length fits_source destination_at names_number numbers_of address_at number_at choice_of chosen_place best_place first_place is_best any_of comes_before fits_client lists_client lists_ucid admits_ucid is_client rules_of clients_of ucids_of classifiers_of
early = refl
