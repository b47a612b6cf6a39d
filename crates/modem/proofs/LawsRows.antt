-- Laws of the rows (specs/Events.antt of modem_rows): each row keeps a well-kept record well kept.
--
--   Fits m         timer values are 16 bits wide, as the record's type says
--   row, row_at    a row where it is taken, and the record as it was where it is not
--   ..Row-kept     one for each row, in the table's order but for the two that load Tdsg2
-- Trusts: nothing.
use Prim.Native.Nat.{ℕ, ◌≤◌}
use mathlib.Core.Path.{◌≡◌, refl}
use mathlib.Core.Bool.{Bool, true, false, cond, ◌&&◌, ◌||◌}
use mathlib.Core.Logic.{◌⊎◌, inl, inr}
use native.Mathlib.Omega.{arith}
use borrow.Author.Tests.{eqb-true, eq-eqb, ne_eqb}
use Rattle.modem_record.specs.declared.Modem.{Modem}
use Rattle.modem_record.specs.States.{is_at, is_forwarding, is_sending, is_four, is_permitted, is_at_zero, off, none, known, loaded, receive_of, retry_of, ucid_of}
use Rattle.modem_record.specs.Record.{receive_mark, is_over, moved}
use Rattle.modem_rows.specs.Events.{locked_row, empty_row, table_row, heard_row, retry_row, up_row, lost_row, rest_row, hunt_row, wake_row}
use Rattle.std.proofs.lemmas.Bool.{and_parts, or_cases, cond_both}
use Rattle.modem.proofs.LawsKept.{Kept, moved_kept, loaded-fits}

pub record Fits (m : Modem) : Type 0 where
  pub one : m.tdsg1 ≤ 65535
  pub two : m.tdsg2 ≤ 65535
  pub three : m.tdsg3 ≤ 65535
  pub four : m.tdsg4 ≤ 65535

-- the numbers of the three forwarding states, and of the two that transmit
sending_at : (m : Modem) → is_sending m ≡ true → (m.state ≡ 4) ⊎ (m.state ≡ 5)
sending_at m h = go (or_cases (is_at 4 m) (is_at 5 m) h)
  where
    go : (is_at 4 m ≡ true) ⊎ (is_at 5 m ≡ true) → (m.state ≡ 4) ⊎ (m.state ≡ 5)
    go (inl e) = inl (eqb-true m.state 4 e)
    go (inr e) = inr (eqb-true m.state 5 e)

forwarding_from : (m : Modem) → is_forwarding m ≡ true → 3 ≤ m.state
forwarding_from m h = go (or_cases (is_at 3 m || is_at 4 m) (is_at 5 m) h)
  where
    low : (is_at 3 m ≡ true) ⊎ (is_at 4 m ≡ true) → 3 ≤ m.state
    low (inl e) = omega (arith, eqb-true m.state 3 e)
    low (inr e) = omega (arith, eqb-true m.state 4 e)

    go : (is_at 3 m || is_at 4 m ≡ true) ⊎ (is_at 5 m ≡ true) → 3 ≤ m.state
    go (inl e) = low (or_cases (is_at 3 m) (is_at 4 m) e)
    go (inr e) = omega (arith, eqb-true m.state 5 e)

module _ (m : Modem) (other : Modem) (ko : Kept other) where
  -- a row that is taken where b holds, and one that is taken in the state n
  row : (b : Bool) (x : Modem) → (b ≡ true → Kept x) → Kept (cond b x other)
  row b x taken = cond_both b x other Kept taken (λ e. ko)

  pub row_at : (n : ℕ) (x : Modem) → (m.state ≡ n → Kept x) → Kept (cond (is_at n m) x other)
  row_at n x taken = row (is_at n m) x (λ e. taken (eqb-true m.state n e))

module _ (m : Modem) (k : Kept m) (f : Fits m) (other : Modem) (ko : Kept other) where
  pub locked_row_kept : Kept (locked_row m other)
  unfolding locked_row
  locked_row_kept = row_at m other ko 1 _ (λ z.
      moved_kept m k 2 (ucid_of m) (loaded m.tdsg1) (retry_of m)
      (omega arith) refl (rw z at k).retry (rw z at k).ucid (omega arith) (loaded-fits m.tdsg1 f.one) k.retry_fits)

  pub empty_row_kept : Kept (empty_row m other)
  unfolding empty_row
  empty_row_kept = row_at m other ko 1 _ (λ z.
      moved_kept m k 6 (ucid_of m) (loaded m.tdsg4) (retry_of m)
      (omega arith) refl (rw z at k).retry (rw z at k).ucid (omega arith) (loaded-fits m.tdsg4 f.four) k.retry_fits)

  pub retry_row_kept : Kept (retry_row m other)
  unfolding retry_row
  retry_row_kept = row m other ko (is_at 3 m && is_at_zero (retry_of m) && is_permitted m) _ (λ e.
      let q = and_parts (is_at 3 m && is_at_zero (retry_of m)) (is_permitted m) e in
      let z = eqb-true m.state 3 (and_parts (is_at 3 m) (is_at_zero (retry_of m)) q.0).0 in
      let p = eqb-true m.permission 1 q.1 in
      moved_kept m k 4 (ucid_of m) (receive_of m) off
      (omega arith) (rw z at k).receive (omega arith) (rw z at k).ucid (omega arith) k.receive-fits refl)

  pub up_row_kept : (u : ℕ) → Kept (up_row u m other)
  unfolding up_row
  up_row_kept u = row_at m other ko 4 _ (λ z.
      moved_kept m k 5 (known u) (receive_of m) (retry_of m)
      (omega arith) (rw z at k).receive (rw z at k).retry refl (rw z at k).sends k.receive-fits k.retry_fits)

  -- a record that transmits has the permission, and its receive timer runs
  pub sending_facts : is_sending m ≡ true → (m.receiveon ≡ 1) × (1 ≤ m.permission)
  sending_facts h = go (sending_at m h)
    where
      go : (m.state ≡ 4) ⊎ (m.state ≡ 5) → (m.receiveon ≡ 1) × (1 ≤ m.permission)
      go (inl z) = ((rw z at k).receive, (rw z at k).sends)
      go (inr z) = ((rw z at k).receive, (rw z at k).sends)

  pub lost_row_kept : Kept (lost_row m other)
  unfolding lost_row
  lost_row_kept = row m other ko (is_sending m) _ (λ e.
      let q = sending_facts e in
      let p : m.permission ≡ 1 = omega (arith, q.1, k.permission) in
      moved_kept m k 3 none (receive_of m) (loaded m.tdsg3)
      (omega arith) q.0 (rw (eq-eqb m.permission 1 p) (omega arith)) refl (omega arith) k.receive-fits (loaded-fits m.tdsg3 f.three))

  pub rest_row_kept : Kept (rest_row m other)
  unfolding rest_row
  rest_row_kept = row m other ko (is_four m && is_at_zero (receive_of m)) _ (λ e.
      moved_kept m k 6 none (loaded m.tdsg4) off (omega arith) refl (omega arith) refl (omega arith) (loaded-fits m.tdsg4 f.four) refl)

  pub hunt_row_kept : Kept (hunt_row m other)
  unfolding hunt_row
  hunt_row_kept = row m other ko (is_four m) _ (λ e. moved_kept m k 1 none off off (omega arith) refl (omega arith) refl (omega arith) refl refl)

  pub wake_row_kept : Kept (wake_row m other)
  unfolding wake_row
  wake_row_kept = row m other ko (is_at 6 m && is_at_zero (receive_of m)) _ (λ e.
      let z = eqb-true m.state 6 (and_parts (is_at 6 m) (is_at_zero (receive_of m)) e).0 in
      moved_kept m k 1 (ucid_of m) off (retry_of m) (omega arith) refl (rw z at k).retry (rw z at k).ucid (omega arith) refl k.retry_fits)

module _ (m : Modem) (k : Kept m) (two : m.tdsg2 ≤ 65535) (other : Modem) (ko : Kept other) where
  pub table_row_kept : Kept (table_row m other)
  unfolding table_row
  table_row_kept = row_at m other ko 2 _ (go (is_permitted m) refl)
    where
      timed : is_over (loaded m.tdsg2) ≡ false
      timed = loaded-fits m.tdsg2 two

      go : (b : Bool) → is_permitted m ≡ b → m.state ≡ 2 → Kept (moved m (cond b 4 3) (ucid_of m) (loaded m.tdsg2) (retry_of m))
      go true p z =
          moved_kept m k 4 (ucid_of m) (loaded m.tdsg2) (retry_of m)
          (omega arith) refl (rw z at k).retry (rw z at k).ucid (omega (arith, eqb-true m.permission 1 p)) timed k.retry_fits
      go false p z =
          moved_kept m k 3 (ucid_of m) (loaded m.tdsg2) (retry_of m)
          (omega arith) refl (rw p (rw z at k).retry) (rw z at k).ucid (omega arith) timed k.retry_fits

  pub heard_row_kept : Kept (heard_row m other)
  unfolding heard_row
  heard_row_kept = row m other ko (is_forwarding m) _ (λ e.
      moved_kept m k m.state (ucid_of m) (loaded m.tdsg2) (retry_of m)
      k.state (due (forwarding_from m e)) k.retry k.ucid k.sends (loaded-fits m.tdsg2 two) k.retry_fits)
    where
      due : 3 ≤ m.state → 1 ≡ receive_mark m
      due h = rw (ne_eqb m.state 0 (λ q. omega arith), ne_eqb m.state 1 (λ q. omega arith))
