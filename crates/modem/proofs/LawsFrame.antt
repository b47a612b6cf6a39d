-- Laws of what a step leaves alone.
--
--   next_modem_permission     only Start, Enable and Disable change the permission
--   next_modem-values         only Start and an accepted table change the four timer values
-- Trusts: nothing.
use Prim.Native.Nat.{ℕ}
use mathlib.Core.Path.{◌≡◌, refl, ◌∙◌, ap}
use mathlib.Core.List.{List, [], ◌∷◌}
use mathlib.Core.Bool.{Bool, true, false, cond, true≢false}
use Rattle.modem_record.specs.declared.Modem.{Modem}
use Rattle.modem_rows.specs.declared.Event.{Event}
use Rattle.modem_rows.specs.declared.Event.TheVariants.{Start, Locked, ScanEmpty, TableAccepted, Packet, Tick, Enable, UpstreamUp, UpstreamLost, Disable, Hunt, DownstreamLost, Unnamed}
use Rattle.modem_record.specs.Record.{counts_idle}
use Rattle.modem_rows.specs.Events.{locked_row, empty_row, table_row, heard_row, retry_row, enable_row, up_row, lost_row, disable_row, rest_row, hunt_row, wake_row, table_event, tick_event, enable_event, disable_event, event_on}
use Rattle.modem_step.specs.Step.{Stepped, is_back, is_start, aged, next_modem}
use Rattle.modem_step.proofs.Laws.{stepped_modem_ignored, stepped_modem_back, stepped_modem-taken}

module _ {A : Type 0} where
  pub cond_same : (b : Bool) (n : A) → cond b n n ≡ n
  cond_same true n = refl
  cond_same false n = refl

  -- a field of either arm of a test
  pub cond-field : (field : Modem → A) (b : Bool) (x y : Modem) → field (cond b x y) ≡ cond b (field x) (field y)
  cond-field field true x y = refl
  cond-field field false x y = refl

  -- what the clock and an event leave alone, a step leaves alone
  next_modem-field : (field : Modem → A) (m : Modem) (now : ℕ) (ev : Event) → is_start ev ≡ false → field (event_on ev (aged m now)) ≡ field m → field (next_modem m now ev) ≡ field m
  next_modem-field field m now ev s h = go (counts_idle m) (is_back now m.last) refl refl
    where
      go : (i b : Bool) → counts_idle m ≡ i → is_back now m.last ≡ b → field (next_modem m now ev) ≡ field m
      go true b hi hb = ap (λ (x : Stepped). field x.modem) (stepped_modem_ignored m now ev s hi)
      go false true hi hb = ap (λ (x : Stepped). field x.modem) (stepped_modem_back m now ev s hi hb)
      go false false hi hb = ap (λ (x : Stepped). field x.modem) (stepped_modem-taken m now ev s hi hb) ∙ h

-- beside Start
abbrev pub sets_permission : Event → Bool
sets_permission (Start p) = false
sets_permission Locked = false
sets_permission ScanEmpty = false
sets_permission (TableAccepted t) = false
sets_permission Packet = false
sets_permission Tick = false
sets_permission Enable = true
sets_permission (UpstreamUp u) = false
sets_permission UpstreamLost = false
sets_permission Disable = true
sets_permission Hunt = false
sets_permission DownstreamLost = false
sets_permission Unnamed = false

abbrev permission_of : Modem → ℕ
permission_of m = m.permission

event_on_permission : (ev : Event) (m : Modem) → is_start ev ≡ false → sets_permission ev ≡ false → permission_of (event_on ev m) ≡ permission_of m
unfolding is_start event_on locked_row empty_row table_event table_row heard_row tick_event rest_row wake_row retry_row up_row lost_row hunt_row
event_on_permission (Start p) m s h = absurd (true≢false s)
event_on_permission Locked m s h = simp (cond-field permission_of, cond_same)
event_on_permission ScanEmpty m s h = simp (cond-field permission_of, cond_same)
event_on_permission (TableAccepted t) m s h = simp (cond-field permission_of, cond_same)
event_on_permission Packet m s h = simp (cond-field permission_of, cond_same)
event_on_permission Tick m s h = simp (cond-field permission_of, cond_same)
event_on_permission Enable m s h = absurd (true≢false h)
event_on_permission (UpstreamUp u) m s h = simp (cond-field permission_of, cond_same)
event_on_permission UpstreamLost m s h = simp (cond-field permission_of, cond_same)
event_on_permission Disable m s h = absurd (true≢false h)
event_on_permission Hunt m s h = simp (cond-field permission_of, cond_same)
event_on_permission DownstreamLost m s h = simp (cond-field permission_of, cond_same)
event_on_permission Unnamed m s h = refl

pub next_modem_permission : (m : Modem) (now : ℕ) (ev : Event) → is_start ev ≡ false → sets_permission ev ≡ false → (next_modem m now ev).permission ≡ m.permission
next_modem_permission m now ev s h = next_modem-field permission_of m now ev s (event_on_permission ev (aged m now) s h)

-- beside Start
abbrev pub sets_values : Event → Bool
sets_values (Start p) = false
sets_values Locked = false
sets_values ScanEmpty = false
sets_values (TableAccepted t) = true
sets_values Packet = false
sets_values Tick = false
sets_values Enable = false
sets_values (UpstreamUp u) = false
sets_values UpstreamLost = false
sets_values Disable = false
sets_values Hunt = false
sets_values DownstreamLost = false
sets_values Unnamed = false

abbrev pub values_of : Modem → List ℕ
values_of m = m.tdsg1 ∷ m.tdsg2 ∷ m.tdsg3 ∷ m.tdsg4 ∷ []

event_on-values : (ev : Event) (m : Modem) → is_start ev ≡ false → sets_values ev ≡ false → values_of (event_on ev m) ≡ values_of m
unfolding is_start event_on locked_row empty_row heard_row tick_event rest_row wake_row retry_row enable_event enable_row up_row lost_row disable_event disable_row hunt_row
event_on-values (Start p) m s h = absurd (true≢false s)
event_on-values Locked m s h = simp (cond-field values_of, cond_same)
event_on-values ScanEmpty m s h = simp (cond-field values_of, cond_same)
event_on-values (TableAccepted t) m s h = absurd (true≢false h)
event_on-values Packet m s h = simp (cond-field values_of, cond_same)
event_on-values Tick m s h = simp (cond-field values_of, cond_same)
event_on-values Enable m s h = simp (cond-field values_of, cond_same)
event_on-values (UpstreamUp u) m s h = simp (cond-field values_of, cond_same)
event_on-values UpstreamLost m s h = simp (cond-field values_of, cond_same)
event_on-values Disable m s h = simp (cond-field values_of, cond_same)
event_on-values Hunt m s h = simp (cond-field values_of, cond_same)
event_on-values DownstreamLost m s h = simp (cond-field values_of, cond_same)
event_on-values Unnamed m s h = refl

pub next_modem-values : (m : Modem) (now : ℕ) (ev : Event) → is_start ev ≡ false → sets_values ev ≡ false → values_of (next_modem m now ev) ≡ values_of m
next_modem-values m now ev s h = next_modem-field values_of m now ev s (event_on-values ev (aged m now) s h)
