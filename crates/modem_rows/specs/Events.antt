-- Events: the table of document 01, "Modem record", row by row, and what each event does.
--
--   ..Row m other          one row of the table: where its state and condition fit, what it says; else `other`
--   event_on ev m           an event: the rows that name it, and the two sentences on Enable and Disable below the table
--
-- Rows act on a record whose clock and timers have moved already (`aged` of crate modem_step). A pair that no row names gives m itself.
-- Tested by: random records and events against the other program in host/. Trusts: nothing.
use Rattle.std.specs.Prelude.{ℕ, Bool, cond, ◌&&◌}
use Rattle.modem_record.specs.declared.Modem.{Modem}
use Rattle.modem_rows.specs.declared.Event.{Event}
use Rattle.modem_rows.specs.declared.Event.TheVariants.{Start, Locked, ScanEmpty, TableAccepted, Packet, Tick, Enable, UpstreamUp, UpstreamLost, Disable, Hunt, DownstreamLost, Unnamed}
use Rattle.modem_record.specs.States.{scanning, checking, one_way, ranging, two_way, resting, is_at, is_forwarding, is_sending, is_four, is_permitted, off, loaded, none, known, receive_of, retry_of, ucid_of, is_at_zero}
use Rattle.modem_record.specs.Record.{moved, allowed, valued}

-- any | Start (carries the permission) | Scanning; clock set untested; permission set; default timer values; timers off, no UCID
unfoldable pub start_row : Bool → ℕ → Modem
start_row p now =
    record { last = now; receive = 0; retry = 0; tdsg1 = 2; tdsg2 = 600; tdsg3 = 300; tdsg4 = 1800; receiveon = 0; retryon = 0; state = scanning; permission = cond p 1 0; hasucid = 0; ucid = 0 }

-- Scanning | Locked | Checking, receive = Tdsg1
unfoldable pub locked_row : Modem → Modem → Modem
locked_row m other = cond (is_at scanning m) (moved m checking (ucid_of m) (loaded m.tdsg1) (retry_of m)) other

-- Scanning | Scan empty | Resting, receive = Tdsg4
unfoldable pub empty_row : Modem → Modem → Modem
empty_row m other = cond (is_at scanning m) (moved m resting (ucid_of m) (loaded m.tdsg4) (retry_of m)) other

-- Checking | Table accepted | Ranging if permitted, else OneWay
unfoldable pub table_row : Modem → Modem → Modem
table_row m other = cond (is_at checking m) (moved m (cond (is_permitted m) ranging one_way) (ucid_of m) (loaded m.tdsg2) (retry_of m)) other

-- OneWay, Ranging, TwoWay | Packet or Table accepted | stay; receive = Tdsg2
unfoldable pub heard_row : Modem → Modem → Modem
heard_row m other = cond (is_forwarding m) (moved m m.state (ucid_of m) (loaded m.tdsg2) (retry_of m)) other

-- OneWay | Tick, retry at 0, permitted | Ranging
unfoldable pub retry_row : Modem → Modem → Modem
retry_row m other = cond (is_at one_way m && is_at_zero (retry_of m) && is_permitted m) (moved m ranging (ucid_of m) (receive_of m) off) other

-- OneWay | Enable | Ranging
unfoldable pub enable_row : Modem → Modem → Modem
enable_row m other = cond (is_at one_way m) (moved m ranging (ucid_of m) (receive_of m) off) other

-- Ranging | Upstream up | TwoWay, UCID kept
unfoldable pub up_row : ℕ → Modem → Modem → Modem
up_row u m other = cond (is_at ranging m) (moved m two_way (known u) (receive_of m) (retry_of m)) other

-- Ranging, TwoWay | Upstream lost | OneWay, retry = Tdsg3
unfoldable pub lost_row : Modem → Modem → Modem
lost_row m other = cond (is_sending m) (moved m one_way none (receive_of m) (loaded m.tdsg3)) other

-- Ranging, TwoWay | Disable | OneWay, retry off
unfoldable pub disable_row : Modem → Modem → Modem
disable_row m other = cond (is_sending m) (moved m one_way none (receive_of m) off) other

-- Checking, OneWay, Ranging, TwoWay | Tick, receive at 0 | Resting, receive = Tdsg4
unfoldable pub rest_row : Modem → Modem → Modem
rest_row m other = cond (is_four m && is_at_zero (receive_of m)) (moved m resting none (loaded m.tdsg4) off) other

-- same four | Hunt or Downstream lost | Scanning
unfoldable pub hunt_row : Modem → Modem → Modem
hunt_row m other = cond (is_four m) (moved m scanning none off off) other

-- Resting | Tick, receive at 0 | Scanning
unfoldable pub wake_row : Modem → Modem → Modem
wake_row m other = cond (is_at resting m && is_at_zero (receive_of m)) (moved m scanning (ucid_of m) off (retry_of m)) other

-- the values come first, in Checking and the forwarding states only
unfoldable pub table_event : ℕ → ℕ → ℕ → ℕ → Modem → Modem
table_event a b c d m = table_row (valued m a b c d) (heard_row (valued m a b c d) m)

-- receive first; if it acts, retry does not
unfoldable pub tick_event : Modem → Modem
tick_event m = rest_row m (wake_row m (retry_row m m))

-- Enable and Disable set the permission in every state, and Disable stops retry
unfoldable pub enable_event : Modem → Modem
enable_event m = enable_row (allowed m 1) (allowed m 1)

abbrev pub stopped : Modem → Modem
stopped m = moved (allowed m 0) m.state (ucid_of m) (receive_of m) off

unfoldable pub disable_event : Modem → Modem
disable_event m = disable_row (stopped m) (stopped m)

unfoldable pub event_on : Event → Modem → Modem
event_on (Start p) m = start_row p m.last
event_on Locked m = locked_row m m
event_on ScanEmpty m = empty_row m m
event_on (TableAccepted t) m = table_event t.tdsg1 t.tdsg2 t.tdsg3 t.tdsg4 m
event_on Packet m = heard_row m m
event_on Tick m = tick_event m
event_on Enable m = enable_event m
event_on (UpstreamUp u) m = up_row u m m
event_on UpstreamLost m = lost_row m m
event_on Disable m = disable_event m
event_on Hunt m = hunt_row m m
event_on DownstreamLost m = hunt_row m m
event_on Unnamed m = m
