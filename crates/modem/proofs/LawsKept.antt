-- Laws of well-kept records (specs/Record.antt of modem_record): what the test says, as claims.
--
--   Kept m             what `well_kept m` says, claim by claim;  well_kept→Kept, Kept→well_kept
--   counts_idle→Kept    a record that does not count as Idle is well kept
--   moved_kept         a move keeps it so, if the new state's marks are due and the timers fit
--   aged_kept          so do the clock and the timers
-- Trusts: nothing.
use Prim.Native.Nat.{ℕ, ◌≤◌, ◌*◌, ◌-◌}
use mathlib.Core.Path.{◌≡◌, refl}
use mathlib.Core.Bool.{Bool, true, false, cond, not, ◌&&◌, ◌||◌, true≢false}
use native.Mathlib.Omega.{arith}
use lib.Dec.{ltb, eqb}
use borrow.Author.Tests.{ltb-false, eqb-true, not-true, not-false, le-ltb, eq-eqb}
use Rattle.std.proofs.lemmas.Bool.{or_parts}
use Rattle.modem_record.specs.declared.Modem.{Modem}
use Rattle.modem_record.specs.States.{Marked, is_at, receive_of, retry_of, loaded}
use Rattle.modem_record.specs.Record.{receive_mark, retry_mark, ucid_mark, least_permission, is_over, is_spoilt, is_broken, well_kept, counts_idle, moved}
use Rattle.modem_step.specs.Step.{clock_step, fallen, aged}

pub record Kept (m : Modem) : Type 0 where
  pub state : m.state ≤ 6
  pub permission : m.permission ≤ 1
  pub receive : m.receiveon ≡ receive_mark m
  pub retry : m.retryon ≤ retry_mark m
  pub ucid : m.hasucid ≡ ucid_mark m
  pub sends : least_permission m ≤ m.permission
  pub first : eqb m.tdsg1 0 ≡ false
  pub second : eqb m.tdsg2 0 ≡ false
  pub receive-fits : is_over (receive_of m) ≡ false
  pub retry_fits : is_over (retry_of m) ≡ false

-- each part of a chain that is false
or4 : (a b c d : Bool) → a || b || c || d ≡ false → (a ≡ false) × (b ≡ false) × (c ≡ false) × (d ≡ false)
or4 true b c d h = absurd (true≢false h)
or4 false true c d h = absurd (true≢false h)
or4 false false true d h = absurd (true≢false h)
or4 false false false d h = (refl, refl, refl, h)

or7 : (a b c d e f g : Bool) → a || b || c || d || e || f || g ≡ false
    → (a ≡ false) × (b ≡ false) × (c ≡ false) × (d ≡ false) × (e ≡ false) × (f ≡ false) × (g ≡ false)
or7 true b c d e f g h = absurd (true≢false h)
or7 false true c d e f g h = absurd (true≢false h)
or7 false false true d e f g h = absurd (true≢false h)
or7 false false false d e f g h = let r = or4 d e f g h in (refl, refl, refl, r.0, r.1, r.2, r.3)

is_broken→Kept : (m : Modem) → is_broken m ≡ false → Kept m
unfolding is_broken
is_broken→Kept m h =
    let q = or7 (ltb 6 m.state) (ltb 1 m.permission) (not (eqb m.receiveon (receive_mark m))) (ltb (retry_mark m) m.retryon)
    (not (eqb m.hasucid (ucid_mark m))) (ltb m.permission (least_permission m)) (is_spoilt m) h in
    let s = or4 (eqb m.tdsg1 0) (eqb m.tdsg2 0) (is_over (receive_of m)) (is_over (retry_of m)) q.6 in
    record {
      state = ltb-false 6 m.state q.0;
      permission = ltb-false 1 m.permission q.1;
      receive = eqb-true m.receiveon (receive_mark m) (not-false _ q.2);
      retry = ltb-false (retry_mark m) m.retryon q.3;
      ucid = eqb-true m.hasucid (ucid_mark m) (not-false _ q.4);
      sends = ltb-false m.permission (least_permission m) q.5;
      first = s.0;
      second = s.1;
      receive-fits = s.2;
      retry_fits = s.3;
    }

pub well_kept→Kept : (m : Modem) → well_kept m ≡ true → Kept m
unfolding well_kept
well_kept→Kept m h = is_broken→Kept m (not-true (is_broken m) h)

pub counts_idle→Kept : (m : Modem) → counts_idle m ≡ false → Kept m
unfolding counts_idle
counts_idle→Kept m h = is_broken→Kept m (or_parts (is_at 0 m) (is_broken m) h).1

pub Kept→well_kept : (m : Modem) → Kept m → well_kept m ≡ true
unfolding well_kept is_broken
Kept→well_kept m k =
    let state = le-ltb 6 m.state k.state in
    let permission = le-ltb 1 m.permission k.permission in
    let receive = eq-eqb m.receiveon (receive_mark m) k.receive in
    let retry = le-ltb (retry_mark m) m.retryon k.retry in
    let ucid = eq-eqb m.hasucid (ucid_mark m) k.ucid in
    let sends = le-ltb m.permission (least_permission m) k.sends in
    rw (state, permission, receive, retry, ucid, sends, k.first, k.second, k.receive-fits, k.retry_fits)

module _ (m : Modem) (k : Kept m) (s : ℕ) (u r t : Marked) where
  pub moved_kept : s ≤ 6 → r.mark ≡ receive_mark (moved m s u r t) → t.mark ≤ retry_mark (moved m s u r t) → u.mark ≡ ucid_mark (moved m s u r t)
      → least_permission (moved m s u r t) ≤ m.permission → is_over r ≡ false → is_over t ≡ false → Kept (moved m s u r t)
  moved_kept hs hr ht hu hp fr ft =
      record { state = hs; permission = k.permission; receive = hr; retry = ht; ucid = hu; sends = hp; first = k.first; second = k.second; receive-fits = fr; retry_fits = ft }

pub loaded-fits : (seconds : ℕ) → seconds ≤ 65535 → is_over (loaded seconds) ≡ false
loaded-fits seconds h = le-ltb 65535000 (seconds * 1000) (omega arith)

fallen_le : (mark value by : ℕ) → fallen mark value by ≤ value
unfolding fallen
fallen_le mark value by = go (eqb mark 0)
  where
    go : (b : Bool) → cond b value (value - by) ≤ value
    go true = omega arith
    go false = omega arith

is_over_le : (mark v w : ℕ) → w ≤ v → is_over (record { mark = mark; value = v }) ≡ false → is_over (record { mark = mark; value = w }) ≡ false
is_over_le mark v w h = go (not (eqb mark 0))
  where
    go : (b : Bool) → b && ltb 65535000 v ≡ false → b && ltb 65535000 w ≡ false
    go true k = le-ltb 65535000 w (omega (arith, ltb-false 65535000 v k))
    go false k = refl

-- a timer that fits still fits when it has fallen
fallen-fits : (mark value by : ℕ) → is_over (record { mark = mark; value = value }) ≡ false → is_over (record { mark = mark; value = fallen mark value by }) ≡ false
fallen-fits mark value by = is_over_le mark value (fallen mark value by) (fallen_le mark value by)

pub aged_kept : (m : Modem) (now : ℕ) → Kept m → Kept (aged m now)
aged_kept m now k =
    let by = clock_step now m.last in
    record {
      state = k.state;
      permission = k.permission;
      receive = k.receive;
      retry = k.retry;
      ucid = k.ucid;
      sends = k.sends;
      first = k.first;
      second = k.second;
      receive-fits = fallen-fits m.receiveon m.receive by k.receive-fits;
      retry_fits = fallen-fits m.retryon m.retry by k.retry_fits;
    }
