-- Numbers: the events as a C host names them, by a number and four arguments.
--
--   event_of kind a b c d   1 to 12 in the order in which the table first names the events; `a` is the permission of a
--                          Start and the UCID of an Upstream up, `a` to `d` the Tdsg1 to Tdsg4 of an accepted table
--   numbers_of event       the numbers of an event, 0 for each argument that it does not carry
--
-- A number that names no event, a permission that is neither 0 nor 1 and a UCID that is no byte give `Unnamed`, which
-- no row of the table names. Arguments that an event does not carry are not looked at. `event_of` gives the event of `numbers_of`
-- back: so `Numbers::from` promises. Trusts: nothing.
use Rattle.std.specs.Prelude.{ℕ, cond, ltb, eqb}
use Rattle.modem_rows.specs.declared.Event.{Event}
use Rattle.modem_rows.specs.declared.Numbers.{Numbers}
use Rattle.modem_rows.specs.declared.Event.TheVariants.{Start, Locked, ScanEmpty, TableAccepted, Packet, Tick, Enable, UpstreamUp, UpstreamLost, Disable, Hunt, DownstreamLost, Unnamed}

abbrev pub start_of : ℕ → Event
start_of a = cond (ltb a 2) (Start (eqb a 1)) Unnamed

abbrev pub up_of : ℕ → Event
up_of a = cond (ltb a 256) (UpstreamUp a) Unnamed

unfoldable pub event_of : ℕ → ℕ → ℕ → ℕ → ℕ → Event
event_of kind a b c d =
    cond (eqb kind 1) (start_of a)
    (cond (eqb kind 2) Locked
    (cond (eqb kind 3) ScanEmpty
    (cond (eqb kind 4) (TableAccepted (record { tdsg1 = a; tdsg2 = b; tdsg3 = c; tdsg4 = d }))
    (cond (eqb kind 5) Packet
    (cond (eqb kind 6) Tick
    (cond (eqb kind 7) Enable
    (cond (eqb kind 8) (up_of a)
    (cond (eqb kind 9) UpstreamLost
    (cond (eqb kind 10) Disable
    (cond (eqb kind 11) Hunt
    (cond (eqb kind 12) DownstreamLost Unnamed)))))))))))

-- an event that carries nothing
abbrev pub bare_numbers : ℕ → Numbers
bare_numbers kind = record { kind = kind; a = 0; b = 0; c = 0; d = 0 }

abbrev pub numbers_of : Event → Numbers
numbers_of (Start p) = record { kind = 1; a = cond p 1 0; b = 0; c = 0; d = 0 }
numbers_of Locked = bare_numbers 2
numbers_of ScanEmpty = bare_numbers 3
numbers_of (TableAccepted t) = record { kind = 4; a = t.tdsg1; b = t.tdsg2; c = t.tdsg3; d = t.tdsg4 }
numbers_of Packet = bare_numbers 5
numbers_of Tick = bare_numbers 6
numbers_of Enable = bare_numbers 7
numbers_of (UpstreamUp u) = record { kind = 8; a = u; b = 0; c = 0; d = 0 }
numbers_of UpstreamLost = bare_numbers 9
numbers_of Disable = bare_numbers 10
numbers_of Hunt = bare_numbers 11
numbers_of DownstreamLost = bare_numbers 12
numbers_of Unnamed = bare_numbers 0
