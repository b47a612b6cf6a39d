-- Listed: document 01's example of `dcdlist`, from the body to the text: `07 01 01`, then M, is listed as the five lines that it shows.
--
-- The text is `body_text` of the definitions; that dcdlist writes it is the contract of bodies::list_body, and what the built program writes for
-- this body is compared at each check.
-- Trusts: nothing.
use Prim.Native.Nat.{ℕ}
use mathlib.Core.Path.{◌≡◌, refl, ap, ◌∙◌}
use mathlib.Core.Bool.{false}
use mathlib.Core.List.{List, [], ◌∷◌}
use Rattle.compare.specs.Compare.{same_bytes}
use Rattle.table.specs.Table.{empty_table, rules_of, classifiers_of, channels_of, clients_of, numbers_of}
use Rattle.collector.specs.Answers.{complete}
use Rattle.body_tests.specs.Refusals.{body_refusal}
use Rattle.collector_demands.specs.Runs.{accepts, lookup, continues, run_from, missing, message, judged, Reply, reply, reply_from, reply_of}
use Rattle.collector_demands.proofs.Bench.{M}
use Rattle.reader.specs.Read.{Reading}
use Rattle.reader.proofs.Bench.{table_m}
use Rattle.receiver.specs.Receive.{reported, taken}
use Rattle.texts.specs.Text.{ascii, digit, decimal, decimal_in, hexadecimal, field, address, each}
use Rattle.listing.specs.Text.{sizes_line, rule_line, classifier_line, channel_line, timers_line, table_text}
use Rattle.bodies.specs.Body.{report_text, body_text}
use Rattle.bodies.proofs.Laws.{body_text-reply}
use Rattle.demands.proofs.Starred.{read_M}

abbrev whole_m : List ℕ
whole_m = 7 ∷ 1 ∷ 1 ∷ M

-- the one piece completes the message
collected : reply_of false [] whole_m ≡ reply (complete 52) M
unfolding reply_from accepts lookup continues run_from judged missing message body_refusal same_bytes
collected = refl

text-M : table_text 7 table_m
    ≡ ascii "dcd 7 rules 2 classifiers 0 channels 1\nrule 5 priority 80 tunnel 01005e050505 clients 1 classifiers 0\nrule 6 priority 9 tunnel 01005e060606 clients 1 classifiers 0\nchannel 603000000\ntimers 2 600 300 1800\n"
unfolding rules_of classifiers_of channels_of clients_of numbers_of digit decimal decimal_in hexadecimal field address sizes_line rule_line classifier_line channel_line timers_line each table_text
text-M = refl

pub listed_M : body_text whole_m
    ≡ ascii "dcd 7 rules 2 classifiers 0 channels 1\nrule 5 priority 80 tunnel 01005e050505 clients 1 classifiers 0\nrule 6 priority 9 tunnel 01005e060606 clients 1 classifiers 0\nchannel 603000000\ntimers 2 600 300 1800\n"
unfolding report_text taken
listed_M =
    body_text-reply whole_m
    ∙ ap (λ (r : Reply). report_text (taken r.answer empty_table r.lent).report 7 (taken r.answer empty_table r.lent).table) collected
    ∙ ap (λ (r : Reading). report_text (reported r.verdict) 7 r.table) (read_M empty_table)
    ∙ text-M
