-- Demand2Frames: choosing the tunnel, judging a frame and stepping the modem give exactly their definitions: NAME-met and NAME-gives, as
-- Demand2 says them of bodies and tables.
-- Trusts: nothing.
use mathlib.Core.Path.{◌≡◌, refl, sym, ◌∙◌}
use contract.Lifetimes.{Lfts}
use lib.ListN.{length}
use denote.Triple.Entry.{Args, Res}
use denote.Triple.Clauses.{AtExit}
use Rattle.std.specs.Prelude.{Result}
use Rattle.refusals.specs.declared.Refusal.{Refusal}
use Rattle.demands.proofs.Contract.{Gives, GivesBy, Says, answer}
use Rattle.order.specs.Best.{is_better}
use Rattle.choice.specs.Choose.{choice_of, rule_at}
use Rattle.order.proofs.is_better.Reads as is_better_contract
use Rattle.choice.proofs.rule_at.Reads as choice_rule_at_contract
use Rattle.choice.specs.Chose.{Choice, chose}
use Rattle.choice.proofs.choose_rule.Reads as choose_rule_contract
use Rattle.choice.proofs.choose_rule.Statement as choose_rule'
use Rattle.choice.proofs.choose_rule.Met as choose_rule''
use Rattle.tunnel.specs.Judge.{verdict_of}
use Rattle.wire.specs.Parts.{Part, part}
use Rattle.payloads.specs.Payload.{payload_range, part_over}
use Rattle.tunnel_parts.specs.Prepared.{prepared_verdict}
use Rattle.preparing.specs.Preparing.{prepared_tunnel}
use Rattle.tunnel.proofs.judge_frame.Reads as judge_frame_contract
use Rattle.tunnel.proofs.judge_frame.Statement as judge_frame'
use Rattle.tunnel.proofs.judge_frame.Met as judge_frame''
use Rattle.payloads.specs.Judged.{Verdict, judged}
use Rattle.payloads.proofs.payload_range.Reads as payload_range_contract
use Rattle.payloads.proofs.payload.Reads as payload_contract
use Rattle.preparing.proofs.prepare_tunnel.Reads as prepare_tunnel_contract
use Rattle.prepared.proofs.judge_prepared.Reads as judge_prepared_contract
use Rattle.tunnel_parts.proofs.judge_lent.Reads as judge_lent_contract
use Rattle.modem_record.specs.Record as kept
use Rattle.modem_asked.specs.Asked as asked
use Rattle.modem_record.specs.Record.{empty_modem}
use Rattle.modem_step.specs.Step.{stepped_modem}
use Rattle.modem_step.specs.Numbers.{Numbered, as_numbers, told, answered, numbered_step}
use Rattle.modem_step.proofs.Told.{as_answer, as_result, answered_is, told_only, told_step}
use Rattle.modem.proofs.step_modem.Reads as step_modem_contract
use Rattle.modem.proofs.step_modem.Statement as step_modem'
use Rattle.modem.proofs.step_modem.Met as step_modem''
use Rattle.modem_step.proofs.step_numbered.Reads as step_numbered_contract
use Rattle.modem_asked.proofs.transmits.Reads as transmits_contract
use Rattle.modem_asked.proofs.forwards.Reads as forwards_contract
use Rattle.modem_record.proofs.empty_modem.Reads as empty_modem_contract
use Rattle.modem_record.proofs.counts_idle.Reads as counts_idle_contract
use Rattle.modem_record.specs.States as states
use Rattle.modem_record.specs.declared.Modem.{Modem}
use Rattle.modem_record.proofs.Modem.is_sending.Reads as is_sending_contract
use Rattle.modem_record.proofs.Modem.is_forwarding.Reads as is_forwarding_contract
use Rattle.modem_record.proofs.Modem.is_four.Reads as is_four_contract
use Rattle.modem_rows.specs.Numbers.{event_of}
use Rattle.modem_rows.specs.Events.{event_on}
use Rattle.modem_rows.proofs.act.Reads as act_contract
use Rattle.modem.specs.contracts.on_event as on_event
use Rattle.modem.proofs.on_event.Statement as on_event'
use Rattle.modem.proofs.on_event.Met as on_event''

-- ---- choosing the tunnel for a client

pub choose_rule_met : {M : Type 1} → choose_rule'.statement M
choose_rule_met = choose_rule''.met

pub choose_rule_gives : (κs : Lfts 0) → Gives {L = Choice} (λ x s. chose x) (choose_rule_contract.Post κs) (λ a. choice_of a.0 a.1.0 a.1.1.0)
choose_rule_gives κs a x s h = h

pub choice_rule_at_gives : (κs : Lfts 0) → Gives answer (choice_rule_at_contract.Post κs) (λ a. rule_at a.0 a.1.0)
choice_rule_at_gives κs a x s h = h

pub is_better_gives : (κs : Lfts 0) → Gives answer (is_better_contract.Post κs) (λ a. is_better a.0 a.1.0 a.1.1.0)
is_better_gives κs a x s h = h

-- ---- judging a frame; and by a tunnel that was chosen once

pub judge_frame_met : {M : Type 1} → judge_frame'.statement M
judge_frame_met = judge_frame''.met

pub judge_frame_gives : (κs : Lfts 1) → Gives {L = Verdict} (λ x s. judged x) (judge_frame_contract.Post κs) (λ a. verdict_of a.0 a.1.0 a.1.1.0 a.1.1.1.0.now)
judge_frame_gives κs a x s h = h

pub payload_range_gives : (κs : Lfts 0) → Gives answer (payload_range_contract.Post κs) (λ a. payload_range (judged a.0) a.1.0)
payload_range_gives κs a x s h = h

pub payload_gives : (κs : Lfts 1) → Gives {L = Part} (λ x s. part x.ref_ptr x.now) (payload_contract.Post κs)
    (λ a. part_over (payload_range (judged a.0) (length a.1.0.now)) a.1.0.ref_ptr a.1.0.now)
payload_gives κs a x s h = h

pub prepare_tunnel_gives : (κs : Lfts 0) → Gives answer (prepare_tunnel_contract.Post κs) (λ a. prepared_tunnel a.0 a.1.0 a.1.1.0)
prepare_tunnel_gives κs a x s h = h

pub judge_prepared_gives : (κs : Lfts 1) → Gives {L = Verdict} (λ x s. judged x) (judge_prepared_contract.Post κs) (λ a. prepared_verdict a.0 a.1.0.now)
judge_prepared_gives κs a x s h = h

-- by a tunnel that is lent
pub judge_lent_gives : (κs : Lfts 2) → Gives {L = Verdict} (λ x s. judged x) (judge_lent_contract.Post κs) (λ a. prepared_verdict a.0.now a.1.0.now)
judge_lent_gives κs a x s h = h

-- ---- stepping the modem

pub step_modem_met : {M : Type 1} → step_modem'.statement M
step_modem_met = step_modem''.met

pub step_modem_gives : (κs : Lfts 0) → GivesBy {L = Numbered} (λ a x s. told a.0 x) (step_modem_contract.Post κs) (λ a. as_numbers (stepped_modem a.0 a.1.0 a.1.1.0))
step_modem_gives κs a x s h = h

pub step_numbered_gives : (κs : Lfts 0) → GivesBy {L = Numbered} (λ a x s. told a.0 x) (step_numbered_contract.Post κs)
    (λ a. let n = a.1.1.0 in numbered_step a.0 a.1.0 n.kind n.a n.b n.c n.d)
step_numbered_gives κs a x s h = h

-- the two as the `Result` itself
pub step_modem_result : (κs : Lfts 0) → Gives answer (step_modem_contract.Post κs) (λ a. as_result (stepped_modem a.0 a.1.0 a.1.1.0))
step_modem_result κs a x s h = told_only a.0 _ _ (h ∙ sym (told_step a.0 a.1.0 a.1.1.0))

pub step_numbered_result : (κs : Lfts 0) → Gives answer (step_numbered_contract.Post κs)
    (λ a. let n = a.1.1.0 in as_result (stepped_modem a.0 a.1.0 (event_of n.kind n.a n.b n.c n.d)))
unfolding numbered_step
step_numbered_result κs a x s h = let n = a.1.1.0 in told_only a.0 _ _ (h ∙ sym (told_step a.0 a.1.0 (event_of n.kind n.a n.b n.c n.d)))

pub transmits_gives : (κs : Lfts 0) → Gives answer (transmits_contract.Post κs) (λ a. asked.transmits a.0)
transmits_gives κs a x s h = h

pub forwards_gives : (κs : Lfts 0) → Gives answer (forwards_contract.Post κs) (λ a. asked.forwards a.0)
forwards_gives κs a x s h = h

pub empty_modem_gives : (κs : Lfts 0) → Gives answer (empty_modem_contract.Post κs) (λ a. empty_modem)
empty_modem_gives κs a x s h = h

pub counts_idle_gives : (κs : Lfts 0) → Gives answer (counts_idle_contract.Post κs) (λ a. kept.counts_idle a.0)
counts_idle_gives κs a x s h = h

pub is_sending_gives : (κs : Lfts 0) → Gives answer (is_sending_contract.Post κs) (λ a. states.is_sending a.0)
is_sending_gives κs a x s h = h

pub is_forwarding_gives : (κs : Lfts 0) → Gives answer (is_forwarding_contract.Post κs) (λ a. states.is_forwarding a.0)
is_forwarding_gives κs a x s h = h

pub is_four_gives : (κs : Lfts 0) → Gives answer (is_four_contract.Post κs) (λ a. states.is_four a.0)
is_four_gives κs a x s h = h

pub act_gives : (κs : Lfts 0) → Gives answer (act_contract.Post κs)
    (λ a. let n = a.1.0 in event_on (event_of n.kind n.a n.b n.c n.d) a.0)
act_gives κs a x s h = h

-- the same on a record that is lent
abbrev pub OnEvent : (κs : Lfts 1) → Args on_event.signature κs → Res on_event.signature κs → AtExit on_event.ended κs → Type 0
OnEvent κs a x s = record { answer = answered x; modem = s.0.now } ≡ as_numbers (stepped_modem a.0.now a.1.0 a.1.1.0)

pub on_event_met : {M : Type 1} → on_event'.statement M
on_event_met = on_event''.met

pub on_event_says : Says on_event.ended (λ M 𝓤 𝓛. on_event.clauses 𝓛) OnEvent
on_event_says M 𝓤 𝓛 mem run κs a g x s = refl

pub on_event_gives : (κs : Lfts 1) → Gives {L = Numbered} (λ x s. record { answer = answered x; modem = s.0.now }) (OnEvent κs)
    (λ a. as_numbers (stepped_modem a.0.now a.1.0 a.1.1.0))
on_event_gives κs a x s h = h

-- with the `Result` itself
pub on_event_result : (κs : Lfts 1) → Gives {L = Result Unit Refusal × Modem} (λ x s. (x, s.0.now)) (OnEvent κs)
    (λ a. let s = stepped_modem a.0.now a.1.0 a.1.1.0 in (as_answer s.answer, s.modem))
on_event_result κs a x s h = let p = answered_is x s.0.now (stepped_modem a.0.now a.1.0 a.1.1.0) h in rw (p.0, p.1)
