-- Laws of events and steps: a step from any record gives a well-kept record, or the record as it was.
--
--   FitsEvent ev        timer values are 16 bits wide, as the event's type says
--   event_on_kept        each event that is no Start keeps a well-kept record well kept
--   stepped_modem_kept   a step from any record gives a well-kept record, or the record as it was
-- Trusts: nothing.
use Prim.Native.Nat.{ℕ, ◌≤◌}
use mathlib.Core.Path.{◌≡◌, refl, sym, ap, subst}
use mathlib.Core.Bool.{Bool, true, false, cond, ◌&&◌, false≢true}
use mathlib.Core.Logic.{◌⊎◌, inl, inr}
use native.Mathlib.Omega.{arith}
use lib.Dec.{eqb}
use Rattle.std.proofs.lemmas.Bool.{cond_both}
use Rattle.modem_record.specs.declared.Modem.{Modem}
use Rattle.modem_rows.specs.declared.Event.{Event}
use Rattle.modem_rows.specs.declared.Event.TheVariants.{Start, Locked, ScanEmpty, TableAccepted, Packet, Tick, Enable, UpstreamUp, UpstreamLost, Disable, Hunt, DownstreamLost, Unnamed}
use Rattle.modem_record.specs.States.{is_at, is_sending, is_permitted, off, receive_of, ucid_of}
use Rattle.modem_record.specs.Record.{is_broken, well_kept, counts_idle, allowed, defaulted, valued}
use Rattle.modem_rows.specs.Events.{start_row, heard_row, enable_row, disable_row, table_event, tick_event, enable_event, stopped, disable_event, event_on}
use Rattle.modem_step.specs.Step.{Stepped, is_back, is_start, aged, next_modem}
use Rattle.modem_step.proofs.Laws.{stepped_modem-start, stepped_modem_ignored, stepped_modem_back, stepped_modem-taken}
use Rattle.modem.proofs.LawsKept.{Kept, counts_idle→Kept, Kept→well_kept, moved_kept, aged_kept}
use Rattle.modem.proofs.LawsRows.{Fits, row_at, locked_row_kept, empty_row_kept, table_row_kept, heard_row_kept, retry_row_kept, up_row_kept}
use Rattle.modem.proofs.LawsRows.{sending_facts, lost_row_kept, rest_row_kept, hunt_row_kept, wake_row_kept}

abbrev pub FitsEvent : Event → Type 0
FitsEvent (Start p) = Unit {0}
FitsEvent Locked = Unit {0}
FitsEvent ScanEmpty = Unit {0}
FitsEvent (TableAccepted t) = t.tdsg2 ≤ 65535
FitsEvent Packet = Unit {0}
FitsEvent Tick = Unit {0}
FitsEvent Enable = Unit {0}
FitsEvent (UpstreamUp u) = Unit {0}
FitsEvent UpstreamLost = Unit {0}
FitsEvent Disable = Unit {0}
FitsEvent Hunt = Unit {0}
FitsEvent DownstreamLost = Unit {0}
FitsEvent Unnamed = Unit {0}

nonzero : (value default : ℕ) → eqb default 0 ≡ false → eqb (defaulted value default) 0 ≡ false
nonzero value default d = go (eqb value 0) refl
  where
    go : (b : Bool) → eqb value 0 ≡ b → eqb (cond b default value) 0 ≡ false
    go true e = d
    go false e = e

valued_kept : (m : Modem) (a b c d : ℕ) → Kept m → Kept (valued m a b c d)
valued_kept m a b c d k =
    record {
      state = k.state;
      permission = k.permission;
      receive = k.receive;
      retry = k.retry;
      ucid = k.ucid;
      sends = k.sends;
      first = nonzero a 2 refl;
      second = nonzero b 600 refl;
      receive-fits = k.receive-fits;
      retry_fits = k.retry_fits;
    }

defaulted_le : (value default : ℕ) → value ≤ 65535 → default ≤ 65535 → defaulted value default ≤ 65535
defaulted_le value default h g = go (eqb value 0)
  where
    go : (b : Bool) → cond b default value ≤ 65535
    go true = g
    go false = h

enabled_kept : (m : Modem) → Kept m → Kept (allowed m 1)
enabled_kept m k =
    record {
      state = k.state;
      permission = omega arith;
      receive = k.receive;
      retry = more (is_at 3 m) (is_permitted m) k.retry;
      ucid = k.ucid;
      sends = least (is_sending m);
      first = k.first;
      second = k.second;
      receive-fits = k.receive-fits;
      retry_fits = k.retry_fits;
    }
  where
    more : (b p : Bool) → m.retryon ≤ cond (b && p) 1 0 → m.retryon ≤ cond (b && true) 1 0
    more true true h = h
    more true false h = omega arith
    more false p h = h

    least : (b : Bool) → cond b 1 0 ≤ 1
    least true = omega arith
    least false = omega arith

enable_event_kept : (m : Modem) → Kept m → Kept (enable_event m)
unfolding enable_event enable_row
enable_event_kept m k =
    let n = allowed m 1 in
    let kn = enabled_kept m k in
    row_at n n kn 3 _ (λ z.
    moved_kept n kn 4 (ucid_of n) (receive_of n) off (omega arith) (rw z at k).receive (omega arith) (rw z at k).ucid (omega arith) k.receive-fits refl)

disable_event_kept : (m : Modem) → Kept m → Fits m → Kept (disable_event m)
unfolding disable_event disable_row
disable_event_kept m k f =
    cond_both (is_sending m) _ (stopped m) Kept
    (λ e. record {
      state = omega arith;
      permission = omega arith;
      receive = (sending_facts m k f m k e).0;
      retry = omega arith;
      ucid = refl;
      sends = omega arith;
      first = k.first;
      second = k.second;
      receive-fits = k.receive-fits;
      retry_fits = refl;
    })
    (λ e. record {
      state = k.state;
      permission = omega arith;
      receive = k.receive;
      retry = omega arith;
      ucid = k.ucid;
      sends = rw e (omega arith);
      first = k.first;
      second = k.second;
      receive-fits = k.receive-fits;
      retry_fits = refl;
    })

pub event_on_kept : (ev : Event) → is_start ev ≡ false → FitsEvent ev → (m : Modem) → Kept m → Fits m → Kept (event_on ev m)
unfolding event_on is_start table_event tick_event
event_on_kept (Start p) h g m k f = absurd (false≢true (sym h))
event_on_kept Locked h g m k f = locked_row_kept m k f m k
event_on_kept ScanEmpty h g m k f = empty_row_kept m k f m k
event_on_kept (TableAccepted t) h g m k f =
    let n = valued m t.tdsg1 t.tdsg2 t.tdsg3 t.tdsg4 in
    let kn = valued_kept m t.tdsg1 t.tdsg2 t.tdsg3 t.tdsg4 k in let two = defaulted_le t.tdsg2 600 g (omega arith) in
    table_row_kept n kn two (heard_row n m) (heard_row_kept n kn two m k)
event_on_kept Packet h g m k f = heard_row_kept m k f.two m k
event_on_kept Tick h g m k f = rest_row_kept m k f _ (wake_row_kept m k f _ (retry_row_kept m k f m k))
event_on_kept Enable h g m k f = enable_event_kept m k
event_on_kept (UpstreamUp u) h g m k f = up_row_kept m k f m k u
event_on_kept UpstreamLost h g m k f = lost_row_kept m k f m k
event_on_kept Disable h g m k f = disable_event_kept m k f
event_on_kept Hunt h g m k f = hunt_row_kept m k f m k
event_on_kept DownstreamLost h g m k f = hunt_row_kept m k f m k
event_on_kept Unnamed h g m k f = k

start_row_kept : (p : Bool) (now : ℕ) → well_kept (start_row p now) ≡ true
unfolding well_kept is_broken start_row
start_row_kept true now = refl
start_row_kept false now = refl

other_kept : (m : Modem) (now : ℕ) (ev : Event) → is_start ev ≡ false → Fits m → FitsEvent ev → (well_kept (next_modem m now ev) ≡ true) ⊎ (next_modem m now ev ≡ m)
other_kept m now ev hs f g = go (counts_idle m) (is_back now m.last) refl refl
  where
    go : (i b : Bool) → counts_idle m ≡ i → is_back now m.last ≡ b → (well_kept (next_modem m now ev) ≡ true) ⊎ (next_modem m now ev ≡ m)
    go true b hi hb = inr (ap (λ (s : Stepped). s.modem) (stepped_modem_ignored m now ev hs hi))
    go false true hi hb = inr (ap (λ (s : Stepped). s.modem) (stepped_modem_back m now ev hs hi hb))
    go false false hi hb =
        let fits : Fits (aged m now) = record { one = f.one; two = f.two; three = f.three; four = f.four } in
        let kept = event_on_kept ev hs g (aged m now) (aged_kept m now (counts_idle→Kept m hi)) fits in
        inl (subst (λ (s : Stepped). well_kept s.modem ≡ true) (sym (stepped_modem-taken m now ev hs hi hb)) (Kept→well_kept (event_on ev (aged m now)) kept))

pub stepped_modem_kept : (m : Modem) (now : ℕ) (ev : Event) → Fits m → FitsEvent ev → (well_kept (next_modem m now ev) ≡ true) ⊎ (next_modem m now ev ≡ m)
unfolding is_start
stepped_modem_kept m now (Start p) f g = inl (subst (λ (s : Stepped). well_kept s.modem ≡ true) (sym (stepped_modem-start m now p)) (start_row_kept p now))
stepped_modem_kept m now Locked f g = other_kept m now Locked refl f g
stepped_modem_kept m now ScanEmpty f g = other_kept m now ScanEmpty refl f g
stepped_modem_kept m now (TableAccepted t) f g = other_kept m now (TableAccepted t) refl f g
stepped_modem_kept m now Packet f g = other_kept m now Packet refl f g
stepped_modem_kept m now Tick f g = other_kept m now Tick refl f g
stepped_modem_kept m now Enable f g = other_kept m now Enable refl f g
stepped_modem_kept m now (UpstreamUp u) f g = other_kept m now (UpstreamUp u) refl f g
stepped_modem_kept m now UpstreamLost f g = other_kept m now UpstreamLost refl f g
stepped_modem_kept m now Disable f g = other_kept m now Disable refl f g
stepped_modem_kept m now Hunt f g = other_kept m now Hunt refl f g
stepped_modem_kept m now DownstreamLost f g = other_kept m now DownstreamLost refl f g
stepped_modem_kept m now Unnamed f g = other_kept m now Unnamed refl f g
