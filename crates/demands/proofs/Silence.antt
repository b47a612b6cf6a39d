-- Silence: after a Disable that is done the transmitter stays off, whatever happens until the next Start or Enable: no Tick with an ended
-- Tdsg3, no lost or found upstream and no table turns it on (document 01, "Modem record" and "Easy errors here").
--
--   Happened, allows    an event and its clock; whether it is a Start or an Enable
--   after m h           the record after the events of h, in their order
--   silent_disabled     the theorem, from any record
--
-- It says nothing of a Disable that is refused because its clock went back: that one changes nothing.
-- Trusts: nothing.
use Prim.Native.Nat.{ℕ}
use mathlib.Core.Path.{◌≡◌, refl, sym, ap, ◌∙◌}
use mathlib.Core.Bool.{Bool, true, false, ◌||◌, true≢false}
use mathlib.Core.List.{List, [], ◌∷◌}
use mathlib.Core.Logic.{◌⊎◌, inl, inr}
use native.Mathlib.Omega.{arith}
use Rattle.modem_record.specs.declared.Modem.{Modem}
use Rattle.modem_rows.specs.declared.Event.{Event}
use Rattle.modem_rows.specs.declared.Event.TheVariants.{Start, Locked, ScanEmpty, TableAccepted, Packet, Tick, Enable, UpstreamUp, UpstreamLost, Disable, Hunt, DownstreamLost, Unnamed}
use Rattle.modem_record.specs.Record.{counts_idle}
use Rattle.modem_asked.specs.Asked.{transmits}
use Rattle.modem_rows.specs.Events.{disable_row, disable_event, event_on}
use Rattle.modem_step.specs.Step.{Done, Stepped, is_back, is_start, aged, answer_number, stepped_modem, next_modem}
use Rattle.modem_step.proofs.Laws.{stepped_modem_ignored, stepped_modem_back, stepped_modem-taken}
use Rattle.modem.proofs.LawsFrame.{cond-field, cond_same, sets_permission, next_modem_permission}
use Rattle.modem.proofs.LawsSending.{transmits-idle, transmits→permitted}

pub record Happened : Type 0 where
  pub clock : ℕ
  pub event : Event

abbrev pub allows : Event → Bool
allows (Start p) = true
allows Locked = false
allows ScanEmpty = false
allows (TableAccepted t) = false
allows Packet = false
allows Tick = false
allows Enable = true
allows (UpstreamUp u) = false
allows UpstreamLost = false
allows Disable = false
allows Hunt = false
allows DownstreamLost = false
allows Unnamed = false

abbrev pub any_allows : List Happened → Bool
any_allows [] = false
any_allows (x ∷ h) = allows x.event || any_allows h

abbrev pub after : Modem → List Happened → Modem
after m [] = m
after m (x ∷ h) = after (next_modem m x.clock x.event) h

or_left : (a b : Bool) → a || b ≡ false → a ≡ false
or_left true b h = h
or_left false b h = refl

or_right : (a b : Bool) → a || b ≡ false → b ≡ false
or_right true b h = absurd (true≢false h)
or_right false b h = h

-- ---- a record that stays silent: it counts as Idle, or has no permission

Mute : Modem → Type 0
Mute m = (counts_idle m ≡ true) ⊎ (m.permission ≡ 0)

mute_silent : (m : Modem) → Mute m → transmits m ≡ false
unfolding Mute
mute_silent m (inl i) = transmits-idle m i
mute_silent m (inr p) = go (transmits m) refl where
  go : (b : Bool) → transmits m ≡ b → b ≡ false
  go true e = absurd (omega (arith, transmits→permitted m e))
  go false e = refl

silenced : (m : Modem) → (event_on Disable m).permission ≡ 0
unfolding event_on disable_event disable_row
silenced m = simp (cond-field (λ (n : Modem). n.permission), cond_same)

no_start : is_start Disable ≡ false
unfolding is_start
no_start = refl

module _ (m : Modem) (now : ℕ) where
  -- a Disable that is done, or that finds the record mute
  disabled : ((stepped_modem m now Disable).answer ≡ Done) ⊎ Mute m → Mute (next_modem m now Disable)
  unfolding Mute
  disabled = go (counts_idle m) (is_back now m.last) refl refl where
    go : (i b : Bool) → counts_idle m ≡ i → is_back now m.last ≡ b → ((stepped_modem m now Disable).answer ≡ Done) ⊎ Mute m → Mute (next_modem m now Disable)
    go true b hi hb h = inl (ap (λ (s : Stepped). counts_idle s.modem) (stepped_modem_ignored m now Disable no_start hi) ∙ hi)
    go false true hi hb (inl d) =
        let back = stepped_modem_back m now Disable no_start hi hb in
        let z : ◌≡◌ {A = ℕ} 18 0 = ap (λ (s : Stepped). answer_number s.answer) (sym back) ∙ ap answer_number d in
        absurd (omega arith)
    go false true hi hb (inr (inl i)) = absurd (true≢false (sym i ∙ hi))
    go false true hi hb (inr (inr p)) = inr (ap (λ (s : Stepped). s.modem.permission) (stepped_modem_back m now Disable no_start hi hb) ∙ p)
    go false false hi hb h = inr (ap (λ (s : Stepped). s.modem.permission) (stepped_modem-taken m now Disable no_start hi hb) ∙ silenced (aged m now))

  -- an event that sets no permission finds it mute and leaves it so
  kept : (ev : Event) → is_start ev ≡ false → sets_permission ev ≡ false → Mute m → Mute (next_modem m now ev)
  unfolding Mute
  kept ev s h (inl i) = inl (ap (λ (x : Stepped). counts_idle x.modem) (stepped_modem_ignored m now ev s i) ∙ i)
  kept ev s h (inr p) = inr (next_modem_permission m now ev s h ∙ p)

  stays : (ev : Event) → allows ev ≡ false → Mute m → Mute (next_modem m now ev)
  unfolding is_start
  stays (Start p) a mute = absurd (true≢false a)
  stays Locked a mute = kept Locked refl refl mute
  stays ScanEmpty a mute = kept ScanEmpty refl refl mute
  stays (TableAccepted t) a mute = kept (TableAccepted t) refl refl mute
  stays Packet a mute = kept Packet refl refl mute
  stays Tick a mute = kept Tick refl refl mute
  stays Enable a mute = absurd (true≢false a)
  stays (UpstreamUp u) a mute = kept (UpstreamUp u) refl refl mute
  stays UpstreamLost a mute = kept UpstreamLost refl refl mute
  stays Disable a mute = disabled (inr mute)
  stays Hunt a mute = kept Hunt refl refl mute
  stays DownstreamLost a mute = kept DownstreamLost refl refl mute
  stays Unnamed a mute = kept Unnamed refl refl mute

all_stay : (h : List Happened) (m : Modem) → any_allows h ≡ false → Mute m → Mute (after m h)
all_stay [] m a mute = mute
all_stay (x ∷ h) m a mute =
    all_stay h (next_modem m x.clock x.event) (or_right (allows x.event) (any_allows h) a) (stays m x.clock x.event (or_left (allows x.event) (any_allows h) a) mute)

pub silent_disabled : (m : Modem) (now : ℕ) → (stepped_modem m now Disable).answer ≡ Done → (h : List Happened) → any_allows h ≡ false
    → transmits (after (next_modem m now Disable) h) ≡ false
silent_disabled m now done h a = mute_silent (after (next_modem m now Disable) h) (all_stay h (next_modem m now Disable) a (disabled m now (inl done)))
