-- States: the states of a modem by their numbers, and its marked values: two timers and the UCID (document 01, "Modem record").
--
--   idle .. resting        the numbers of the states;  is_at s m   the record is in state s
--   is_forwarding, is_sending, is_four   the states in which tunnels are forwarded, in which the transmitter is on, and
--                          the "same four" of the table
--   Marked                 a timer in milliseconds, or the UCID, with its mark;  off, loaded seconds; none, known ucid
--   receive_of, retry_of, ucid_of   the three of a record;  is_on t   it runs, or is known;  is_at_zero t   it runs and shows 0
--
-- A value beside a mark of 0 says nothing.
-- Trusts: nothing.
use Rattle.std.specs.Prelude.{ℕ, ◌*◌, Bool, not, ◌&&◌, ◌||◌, eqb}
use Rattle.modem_record.specs.declared.Modem.{Modem}

abbrev pub idle : ℕ
idle = 0

abbrev pub scanning : ℕ
scanning = 1

abbrev pub checking : ℕ
checking = 2

abbrev pub one_way : ℕ
one_way = 3

abbrev pub ranging : ℕ
ranging = 4

abbrev pub two_way : ℕ
two_way = 5

abbrev pub resting : ℕ
resting = 6

abbrev pub is_at : ℕ → Modem → Bool
is_at s m = eqb m.state s

abbrev pub is_forwarding : Modem → Bool
is_forwarding m = is_at one_way m || is_at ranging m || is_at two_way m

abbrev pub is_sending : Modem → Bool
is_sending m = is_at ranging m || is_at two_way m

abbrev pub is_four : Modem → Bool
is_four m = is_at checking m || is_at one_way m || is_at ranging m || is_at two_way m

abbrev pub is_permitted : Modem → Bool
is_permitted m = eqb m.permission 1

-- a mark of 1: the timer runs, the UCID is known; 0: it does not, it is not
pub record Marked : Type 0 where
  pub mark : ℕ
  pub value : ℕ

abbrev pub off : Marked
off = record { mark = 0; value = 0 }

abbrev pub loaded : ℕ → Marked
loaded seconds = record { mark = 1; value = seconds * 1000 }

abbrev pub none : Marked
none = record { mark = 0; value = 0 }

abbrev pub known : ℕ → Marked
known ucid = record { mark = 1; value = ucid }

abbrev pub receive_of : Modem → Marked
receive_of m = record { mark = m.receiveon; value = m.receive }

abbrev pub retry_of : Modem → Marked
retry_of m = record { mark = m.retryon; value = m.retry }

abbrev pub ucid_of : Modem → Marked
ucid_of m = record { mark = m.hasucid; value = m.ucid }

abbrev pub is_on : Marked → Bool
is_on t = not (eqb t.mark 0)

-- a timer that runs and shows 0
abbrev pub is_at_zero : Marked → Bool
is_at_zero t = is_on t && eqb t.value 0
