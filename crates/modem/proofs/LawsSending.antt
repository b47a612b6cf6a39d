-- Laws of refusals and of the transmitter.
--
--   stepped_modem-refused     a refusal changes nothing
--   transmits-idle, forwards-idle   a record that counts as Idle neither transmits nor forwards
--   transmits→permitted      the transmitter is on only with permission, whatever the record
--   next_modem-transmits      so after any step from any record
--   next_modem-disable        after a Disable that is not refused the transmitter is off
--   next_modem-silent         and without permission no event but Start and Enable turns it on, no Tick either
-- Trusts: nothing.
use Prim.Native.Nat.{ℕ, ◌≤◌}
use mathlib.Core.Path.{◌≡◌, refl, sym, ◌∙◌, ap, subst}
use mathlib.Core.Bool.{Bool, true, false, cond, not, ◌&&◌}
use native.Mathlib.Omega.{arith}
use borrow.Author.Tests.{not-true}
use Rattle.std.proofs.lemmas.Bool.{and_parts}
use Rattle.modem_record.specs.declared.Modem.{Modem}
use Rattle.modem_rows.specs.declared.Event.{Event}
use Rattle.modem_rows.specs.declared.Event.TheVariants.{Disable}
use Rattle.modem_record.specs.States.{is_sending}
use Rattle.modem_record.specs.Record.{counts_idle}
use Rattle.modem_asked.specs.Asked.{transmits, forwards}
use Rattle.modem_rows.specs.Events.{disable_row, disable_event, event_on}
use Rattle.modem_step.specs.Step.{Answer, Done, ClockBack, Stepped, is_back, is_start, aged, answer_number, stepped_modem, next_modem}
use Rattle.modem_step.proofs.Laws.{stepped_modem_ignored, stepped_modem_back, stepped_modem-taken}
use Rattle.modem.proofs.LawsKept.{counts_idle→Kept}
use Rattle.modem.proofs.LawsFrame.{cond-field, cond_same, sets_permission, next_modem_permission}

abbrev stay : Answer → Modem → Stepped
stay answer m = record { answer = answer; modem = m }

-- the three ways out of a step
abbrev way : Bool → Bool → Modem → Modem → Stepped
way ignored back m n = cond ignored (stay Done m) (cond back (stay ClockBack m) (stay Done n))

way_refused : (ignored back : Bool) (m n : Modem) → (way ignored back m n).answer ≡ ClockBack → (way ignored back m n).modem ≡ m
way_refused true back m n h = refl
way_refused false true m n h = refl
way_refused false false m n h = let z : ◌≡◌ {A = ℕ} 0 18 = ap answer_number h in absurd (omega arith)

pub stepped_modem-refused : (m : Modem) (now : ℕ) (ev : Event) → (stepped_modem m now ev).answer ≡ ClockBack → next_modem m now ev ≡ m
unfolding stepped_modem
stepped_modem-refused m now ev h = way_refused (not (is_start ev) && counts_idle m) (not (is_start ev) && is_back now m.last) m (event_on ev (aged m now)) h

module _ (m : Modem) where
  pub transmits-idle : counts_idle m ≡ true → transmits m ≡ false
  unfolding transmits
  transmits-idle h = rw h

  pub forwards-idle : counts_idle m ≡ true → forwards m ≡ false
  unfolding forwards
  forwards-idle h = rw h

  pub transmits→permitted : transmits m ≡ true → m.permission ≡ 1
  unfolding transmits
  transmits→permitted h =
      let k = counts_idle→Kept m (not-true (counts_idle m) (and_parts (not (counts_idle m)) (is_sending m) h).0) in
      let p : 1 ≤ m.permission = subst (λ (b : Bool). cond b 1 0 ≤ m.permission) (and_parts (not (counts_idle m)) (is_sending m) h).1 k.sends in
      omega (arith, k.permission)

pub next_modem-transmits : (m : Modem) (now : ℕ) (ev : Event) → transmits (next_modem m now ev) ≡ true → (next_modem m now ev).permission ≡ 1
next_modem-transmits m now ev = transmits→permitted (next_modem m now ev)

abbrev permission_of : Modem → ℕ
permission_of m = m.permission

silenced : (m : Modem) → permission_of (event_on Disable m) ≡ 0
unfolding event_on disable_event disable_row
silenced m = simp (cond-field permission_of, cond_same)

no_start : is_start Disable ≡ false
unfolding is_start
no_start = refl

-- a record without permission does not transmit
unpermitted_silent : (m : Modem) → m.permission ≡ 0 → transmits m ≡ false
unpermitted_silent m h = go (transmits m) refl
  where
    go : (b : Bool) → transmits m ≡ b → b ≡ false
    go true e = absurd (omega (arith, transmits→permitted m e))
    go false e = refl

pub next_modem-disable : (m : Modem) (now : ℕ) → (stepped_modem m now Disable).answer ≡ Done → transmits (next_modem m now Disable) ≡ false
next_modem-disable m now h = go (counts_idle m) (is_back now m.last) refl refl
  where
    go : (i b : Bool) → counts_idle m ≡ i → is_back now m.last ≡ b → transmits (next_modem m now Disable) ≡ false
    go true b hi hb = ap (λ (s : Stepped). transmits s.modem) (stepped_modem_ignored m now Disable no_start hi) ∙ transmits-idle m hi
    go false true hi hb = let z : ◌≡◌ {A = ℕ} 18 0 = ap (λ (s : Stepped). answer_number s.answer) (sym (stepped_modem_back m now Disable no_start hi hb)) ∙ ap answer_number h in absurd (omega arith)
    go false false hi hb = ap (λ (s : Stepped). transmits s.modem) (stepped_modem-taken m now Disable no_start hi hb) ∙ unpermitted_silent (event_on Disable (aged m now)) (silenced (aged m now))

pub next_modem-silent : (m : Modem) (now : ℕ) (ev : Event) → is_start ev ≡ false → sets_permission ev ≡ false → m.permission ≡ 0 → transmits (next_modem m now ev) ≡ false
next_modem-silent m now ev s h p = unpermitted_silent (next_modem m now ev) (next_modem_permission m now ev s h ∙ p)
