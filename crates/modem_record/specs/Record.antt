-- Record: which modem records keep the rules, and how one is changed (document 01, "Modem record").
--
--   is_broken m             the record breaks a rule;  well_kept m   it breaks none
--   counts_idle m           it is Idle, or counts as Idle because it breaks a rule
--   empty_modem             an idle record
--   moved m state ucid receive retry   the record in that state, with that UCID and those two timers
--   allowed m p, valued m a b c d      its permission set; its timer values set, a Tdsg1 or Tdsg2 of 0 as its default
--
-- A value beside a mark of 0 breaks no rule, and only a move that writes the pair changes it.
-- Tested by: random records and events against the other program in host/. Trusts: nothing.
use Rattle.std.specs.Prelude.{ℕ, Bool, cond, not, ◌&&◌, ◌||◌, ltb, eqb}
use Rattle.modem_record.specs.declared.Modem.{Modem}
use Rattle.modem_record.specs.States.{idle, scanning, one_way, two_way, resting, is_at, is_sending, is_permitted, Marked, receive_of, retry_of, is_on}

-- the mark of the receive timer: it runs outside Idle and Scanning
abbrev pub receive_mark : Modem → ℕ
receive_mark m = cond (is_at idle m || is_at scanning m) 0 1

-- the mark of the UCID: it exists in TwoWay and only there
abbrev pub ucid_mark : Modem → ℕ
ucid_mark m = cond (is_at two_way m) 1 0

-- the greatest mark of the retry timer: it may run in OneWay with permission
abbrev pub retry_mark : Modem → ℕ
retry_mark m = cond (is_at one_way m && is_permitted m) 1 0

-- the least permission: Ranging and TwoWay transmit
abbrev pub least_permission : Modem → ℕ
least_permission m = cond (is_sending m) 1 0

abbrev pub is_over : Marked → Bool
is_over t = is_on t && ltb 65535000 t.value

-- Tdsg1 or Tdsg2 of 0; a timer over 65,535,000 ms
abbrev pub is_spoilt : Modem → Bool
is_spoilt m = eqb m.tdsg1 0 || eqb m.tdsg2 0 || is_over (receive_of m) || is_over (retry_of m)

-- what breaks a record: first the numbers that no record has, then the list of document 01 in its order.
-- A mark that is neither 0 nor 1 is never the one that is due. (Of an Idle record nothing depends on this.)
unfoldable pub is_broken : Modem → Bool
is_broken m =
    ltb resting m.state || ltb 1 m.permission
    -- receive off in Checking, Resting or a forwarding state, or running in Scanning
    || not (eqb m.receiveon (receive_mark m))
    -- retry outside OneWay or without permission
    || ltb (retry_mark m) m.retryon
    -- a UCID outside TwoWay or none in it
    || not (eqb m.hasucid (ucid_mark m))
    -- Ranging or TwoWay without permission
    || ltb m.permission (least_permission m)
    || is_spoilt m

unfoldable pub well_kept : Modem → Bool
well_kept m = not (is_broken m)

unfoldable pub counts_idle : Modem → Bool
counts_idle m = is_at idle m || is_broken m

abbrev pub empty_modem : Modem
empty_modem =
    record { last = 0; receive = 0; retry = 0; tdsg1 = 2; tdsg2 = 600; tdsg3 = 300; tdsg4 = 1800; receiveon = 0; retryon = 0; state = idle; permission = 0; hasucid = 0; ucid = 0 }

abbrev pub moved_to : Modem → ℕ → ℕ → ℕ → ℕ → ℕ → ℕ → ℕ → Modem
moved_to m state hasucid ucid receiveon receive retryon retry =
    record { last = m.last; receive = receive; retry = retry; tdsg1 = m.tdsg1; tdsg2 = m.tdsg2; tdsg3 = m.tdsg3; tdsg4 = m.tdsg4; receiveon = receiveon; retryon = retryon; state = state; permission = m.permission; hasucid = hasucid; ucid = ucid }

abbrev pub moved : Modem → ℕ → Marked → Marked → Marked → Modem
moved m state ucid receive retry = moved_to m state ucid.mark ucid.value receive.mark receive.value retry.mark retry.value

abbrev pub allowed : Modem → ℕ → Modem
allowed m p =
    record { last = m.last; receive = m.receive; retry = m.retry; tdsg1 = m.tdsg1; tdsg2 = m.tdsg2; tdsg3 = m.tdsg3; tdsg4 = m.tdsg4; receiveon = m.receiveon; retryon = m.retryon; state = m.state; permission = p; hasucid = m.hasucid; ucid = m.ucid }

abbrev pub defaulted : ℕ → ℕ → ℕ
defaulted value default = cond (eqb value 0) default value

abbrev pub valued : Modem → ℕ → ℕ → ℕ → ℕ → Modem
valued m a b c d =
    record { last = m.last; receive = m.receive; retry = m.retry; tdsg1 = defaulted a 2; tdsg2 = defaulted b 600; tdsg3 = c; tdsg4 = d; receiveon = m.receiveon; retryon = m.retryon; state = m.state; permission = m.permission; hasucid = m.hasucid; ucid = m.ucid }
