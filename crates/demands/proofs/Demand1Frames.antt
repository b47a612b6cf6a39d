-- Demand1Frames: the first demand of clients, frames and events: a refusal has one of document 01's numbers for that entry, and leaves the record.
--
--   choice_of_refused         a client: 17
--   verdict_of-refused        a frame: 16 or 17
--   prepared_verdict-refused  a frame by any prepared tunnel: 16 or 17
--   stepped_modem-refused     an event: 18; the modem record is as it was
--   numbered_step-refused     an event by its number: the same, 18 by number
--
-- Trusts: nothing.
use Prim.Native.Nat.{ℕ}
use mathlib.Core.Path.{◌≡◌, refl}
use mathlib.Core.Bool.{Bool, true, false, cond, not}
use mathlib.Core.List.{List}
use mathlib.Core.Logic.{◌⊎◌, inl, inr}
use native.Mathlib.Omega.{arith}
use lib.ListN.{length, get_or}
use lib.Dec.{eqb, ltb}
use Rattle.table.specs.declared.Client.{Client}
use Rattle.table.specs.declared.Table.{Table}
use Rattle.table.specs.Table.{rules_of, limited_to, classifiers_of, empty_classifier}
use Rattle.choice.specs.Chose as choice
use Rattle.choice.specs.Chose.{Choice}
use Rattle.order.specs.Best.{first_place}
use Rattle.choice.specs.Choose.{Ucid, chosen_place, choice_of, rule_at}
use Rattle.tunnel_parts.specs.declared.Tunnel.{Tunnel}
use Rattle.payloads.specs.Judged as verdict
use Rattle.matching.specs.Entry.{matches_entry}
use Rattle.packets.specs.Packets.{wrong_length, address_at}
use Rattle.tunnel.specs.Judge.{match_place, rule_verdict, choice_verdict, verdict_of}
use Rattle.tunnel_parts.specs.Prepared.{entries_of, prepared_verdict}
use Rattle.modem_record.specs.declared.Modem.{Modem}
use Rattle.modem_rows.specs.declared.Event.{Event}
use Rattle.modem_step.specs.Step.{Answer, answer_number, stepped_modem, next_modem}
use Rattle.modem_step.specs.Step as modem
use Rattle.modem_rows.specs.Numbers.{event_of}
use Rattle.modem_step.specs.Numbers.{numbered_step}
use Rattle.modem.proofs.LawsSending as sending

-- ---- choosing

pub choice_of_refused : (t : Table) (c : Client) (u : Ucid) (n : ℕ) → choice_of t c u ≡ choice.Refused n → n ≡ 17
unfolding choice_of
choice_of_refused t c u n = go (ltb (chosen_place c u (rules_of t)) (length (rules_of t))) where
  go : (b : Bool) → cond b (choice.Chosen (chosen_place c u (rules_of t))) (choice.Refused 17) ≡ choice.Refused n → n ≡ 17
  go true e = absurd (let z : ◌≡◌ {A = ℕ} 0 1 = cc in omega arith)
  go false e = cc

-- ---- judging

pub verdict_of-refused : (t : Table) (c : Client) (u : Ucid) (frame : List ℕ) (n : ℕ) → verdict_of t c u frame ≡ verdict.Refused n → (n ≡ 16) ⊎ (n ≡ 17)
unfolding verdict_of choice_verdict rule_verdict
verdict_of-refused t c u frame n = go (wrong_length frame) (choice_of t c u) refl where
  chosen : (k : ℕ) → rule_verdict t (rule_at t k) frame ≡ verdict.Refused n → ⊥
  chosen k = among (not (eqb (address_at frame) (rule_at t k).tunnel)) (eqb (rule_at t k).numbercount 0) (ltb (match_place t (rule_at t k) frame) (length (classifiers_of t))) where
    matching : ℕ
    matching = (get_or (classifiers_of t) (match_place t (rule_at t k) frame) empty_classifier).number

    among : (x y z : Bool) → cond x verdict.Other (cond y (verdict.Forward 0) (cond z (verdict.Forward matching) verdict.Filtered)) ≡ verdict.Refused n → ⊥
    among true y z e = let q : ◌≡◌ {A = ℕ} 0 1 = cc in omega arith
    among false true z e = let q : ◌≡◌ {A = ℕ} 0 1 = cc in omega arith
    among false false true e = let q : ◌≡◌ {A = ℕ} 0 1 = cc in omega arith
    among false false false e = let q : ◌≡◌ {A = ℕ} 0 1 = cc in omega arith

  go : (w : Bool) (k : Choice) → choice_of t c u ≡ k → cond w (verdict.Refused 16) (choice_verdict t frame k) ≡ verdict.Refused n → (n ≡ 16) ⊎ (n ≡ 17)
  go true k f e = inl (cc)
  go false (choice.Refused m) f e = inr (let d : m ≡ 17 = choice_of_refused t c u m f in cc)
  go false (choice.Chosen place) f e = absurd (chosen place e)

pub prepared_verdict-refused : (tu : Tunnel) (frame : List ℕ) (n : ℕ) → prepared_verdict tu frame ≡ verdict.Refused n → (n ≡ 16) ⊎ (n ≡ 17)
unfolding prepared_verdict
prepared_verdict-refused tu frame n =
    go (wrong_length frame) (eqb tu.mode 0) (not (eqb (address_at frame) tu.address)) (eqb tu.mode 1) (ltb (first_place (matches_entry frame) (entries_of tu)) (limited_to 32 tu.count)) where
      go : (v w x y z : Bool) → cond v (verdict.Refused 16) (cond w (verdict.Refused 17) (cond x verdict.Other (cond y (verdict.Forward 0)
          (cond z (verdict.Forward (get_or tu.numbers (first_place (matches_entry frame) (entries_of tu)) 0)) verdict.Filtered)))) ≡ verdict.Refused n → (n ≡ 16) ⊎ (n ≡ 17)
      go true w x y z e = inl (cc)
      go false true x y z e = inr (cc)
      go false false true y z e = absurd (let q : ◌≡◌ {A = ℕ} 0 1 = cc in omega arith)
      go false false false true z e = absurd (let q : ◌≡◌ {A = ℕ} 0 1 = cc in omega arith)
      go false false false false true e = absurd (let q : ◌≡◌ {A = ℕ} 0 1 = cc in omega arith)
      go false false false false false e = absurd (let q : ◌≡◌ {A = ℕ} 0 1 = cc in omega arith)

-- ---- stepping the modem

pub stepped_modem-refused : (m : Modem) (now : ℕ) (ev : Event) → (stepped_modem m now ev).answer ≡ modem.ClockBack → next_modem m now ev ≡ m
stepped_modem-refused = sending.stepped_modem-refused

-- an answer that is not 0 is 18
answer_back : (a : Answer) → (answer_number a ≡ 0 → ⊥) → (a ≡ modem.ClockBack) × (answer_number a ≡ 18)
answer_back modem.Done some = absurd (some refl)
answer_back modem.ClockBack some = (refl, refl)

pub numbered_step-refused : (m : Modem) (now kind a b c d : ℕ) → ((numbered_step m now kind a b c d).answer ≡ 0 → ⊥)
    → ((numbered_step m now kind a b c d).answer ≡ 18) × ((numbered_step m now kind a b c d).modem ≡ m)
unfolding numbered_step
numbered_step-refused m now kind a b c d some =
    let back = answer_back (stepped_modem m now (event_of kind a b c d)).answer some in
    (back.1, stepped_modem-refused m now (event_of kind a b c d) back.0)
