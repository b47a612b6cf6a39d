-- Controls: wrong programs of document 01, "What the contracts must settle", and of the requests, refuted: none of them meets the promise that it breaks.
--
--   no_refuse-all              reading: one that refuses every message
--   no_one_tunnel              choosing: one that gives every client the same rule
--   no_header_of_20            judging: one that takes every IP header for 20 bytes (document 02, Req 02)
--   no_still_modem             the step: one that returns the record untouched
--   no_first-piece_completes   collecting: one that completes at the first piece of several, whatever it answers later
--   no_invented_slots          collecting: one that once, after some history, answers Waiting with another number than that of the empty slots
--
-- Each is over any function that meets the promise, not over ours. The last two hold from any lent record with nothing collected and any
-- buffers of 24,000 bytes or more. The crates collector_demands, reader, tunnel and modem have controls of their own, cited here.
-- Trusts: nothing.
use Prim.Native.Nat.{ℕ, ◌≤◌}
use mathlib.Core.Path.{◌≡◌, refl, sym, ap, ◌∙◌}
use mathlib.Core.Bool.{true, false}
use mathlib.Core.List.{List, ◌∷◌}
use native.Mathlib.Omega.{arith}
use lib.ListN.{length, replicate}
use Rattle.table.specs.declared.Client.{Client}
use Rattle.table.specs.declared.Rule.{Rule}
use Rattle.table.specs.declared.Table.{Table}
use Rattle.table.specs.Table.{rules_of, clients_of, empty_client, empty_rule, empty_classifier, default_timers}
use Rattle.reader.specs.Read.{number_of, read_table}
use Rattle.reader.specs.Read.{Reading}
use Rattle.reader.proofs.Controls as reader
use Rattle.std.specs.Prelude.{None}
use Rattle.choice.specs.Chose as choice
use Rattle.choice.specs.Chose.{Choice}
use Rattle.order.specs.Best.{comes_before, any_of, first_place, is_best, best_place}
use Rattle.choice.specs.Choose.{Ucid, is_client, lists_client, admits_ucid, fits_client, chosen_place, choice_of}
use Rattle.payloads.specs.Judged.{Verdict}
use Rattle.tunnel.specs.Judge.{verdict_of}
use Rattle.tunnel.proofs.Headers.{plain_verdict}
use Rattle.tunnel.proofs.Controls as tunnel
use Rattle.modem_record.specs.declared.Modem.{Modem}
use Rattle.modem_rows.specs.declared.Event.{Event}
use Rattle.modem_step.specs.Step.{Stepped, stepped_modem}
use Rattle.modem.proofs.Controls as modem
use Rattle.collector.specs.Answers.{waiting}
use Rattle.held.specs.Held.{well_made}
use Rattle.body_tests.specs.Refusals.{number_of as pieces}
use Rattle.collector.specs.Step.{After}
use Rattle.collection.specs.declared.Collection.{Collection}
use Rattle.collector_demands.specs.Runs.{accepts, lookup, stored, run_of, missing, Reply}
use Rattle.collection.specs.Record.{is_strict}
use Rattle.collector_demands.specs.Demand.{Lent, is_complete}
use Rattle.collector_demands.proofs.Controls as collector

-- ---- reading

pub no_refuse-all : (f : Table → List ℕ → Reading) → ((given : Table) (msg : List ℕ) → f given msg ≡ read_table given msg)
    → ((given : Table) (msg : List ℕ) → number_of (f given msg).verdict ≡ 0 → ⊥) → ⊥
no_refuse-all = reader.no_refuse-all

-- ---- choosing

abbrev application : ℕ → Client
application n = record { kind = 4; value = n }

abbrev clients_for : ℕ → List Client
clients_for n = application n ∷ replicate 7 empty_client

-- a rule for one application, with a number of its own and a tunnel of its own
abbrev rule_for : ℕ → Rule
rule_for n =
    record { number = n; priority = 0; ucidcount = 0; clientcount = 1; numbercount = 0; ucids = replicate 16 0; numbers = replicate 8 0; tunnel = n; clients = clients_for n }

abbrev two_rules : Table
two_rules =
    let both = rule_for 1 ∷ rule_for 2 ∷ replicate 30 empty_rule in
    record { rulecount = 2; classifiercount = 0; channelcount = 0; timers = default_timers; channels = replicate 32 0; classifiers = replicate 32 empty_classifier; rules = both }

each_its_own : (choice_of two_rules (application 1) None ≡ choice.Chosen 0) × (choice_of two_rules (application 2) None ≡ choice.Chosen 1)
unfolding choice_of chosen_place best_place is_best first_place any_of comes_before fits_client admits_ucid lists_client is_client rules_of clients_of
each_its_own = (refl, refl)

pub no_one_tunnel : (f : Table → Client → Ucid → Choice) → ((t : Table) (c : Client) (u : Ucid) → f t c u ≡ choice_of t c u)
    → ((t : Table) (c d : Client) (u : Ucid) → f t c u ≡ f t d u) → ⊥
no_one_tunnel f meets same =
    let first = meets two_rules (application 1) None in
    let second = meets two_rules (application 2) None in
    let e : choice.Chosen 0 ≡ choice.Chosen 1 = sym each_its_own.0 ∙ sym first ∙ same two_rules (application 1) (application 2) None ∙ second ∙ each_its_own.1 in
    let z : ◌≡◌ {A = ℕ} 0 1 = cc in
    omega arith

-- ---- judging

pub no_header_of_20 : (f : Table → Client → Ucid → List ℕ → Verdict) → ((t : Table) (c : Client) (u : Ucid) (frame : List ℕ) → f t c u frame ≡ verdict_of t c u frame)
    → ((t : Table) (c : Client) (u : Ucid) (frame : List ℕ) → f t c u frame ≡ plain_verdict t c u frame) → ⊥
no_header_of_20 = tunnel.no_header_of_20

-- ---- the modem

pub no_still_modem : (f : Modem → ℕ → Event → Stepped) → ((m : Modem) (now : ℕ) (ev : Event) → f m now ev ≡ stepped_modem m now ev)
    → ((m : Modem) (now : ℕ) (ev : Event) → (f m now ev).modem ≡ m) → ⊥
no_still_modem = modem.no_still_modem

-- ---- collecting: from a record with nothing collected, over any history of bodies

module _ (f : Collection → List ℕ → List ℕ → List ℕ → After) (meets : collector.Promise f) where
  module _ (s : Lent) (room : 24000 ≤ length s.slots) (space : 24000 ≤ length s.join) (nothing : well_made s.held ≡ false) where
    pub no_first-piece_completes : (b : List ℕ) → accepts b ≡ true → 2 ≤ pieces b → is_complete (f s.held s.slots s.join b).answer ≡ 1 → ⊥
    unfolding collector.lent_by
    no_first-piece_completes b a two completes =
        let waits = ap (λ (r : Reply). is_complete r.answer) (collector.no_first-piece_completes f meets s room space nothing b a two) in
        omega arith

    pub no_invented_slots : (h : List (List ℕ)) (b : List ℕ) (k : ℕ) → (k ≡ missing (lookup (stored (run_of (is_strict s.held) h) b)) (pieces b) → ⊥) → (collector.reply_by f meets s h b).answer ≡ waiting k → ⊥
    no_invented_slots h b k other answers = other (collector.no_invented_slots f meets s room space nothing h b k answers)
