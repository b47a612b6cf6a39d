-- Asked: what a host asks of a modem record (document 01, "Modem record").
--
--   transmits, forwards    the transmitter is on; tunnels are forwarded
--
-- A record that counts as Idle (`counts_idle` of crate modem_record) does neither.
-- Tested by: random records and events against the other program in host/. Trusts: nothing.
use Rattle.std.specs.Prelude.{Bool, not, ◌&&◌}
use Rattle.modem_record.specs.declared.Modem.{Modem}
use Rattle.modem_record.specs.States.{is_forwarding, is_sending}
use Rattle.modem_record.specs.Record.{counts_idle}

unfoldable pub transmits : Modem → Bool
transmits m = not (counts_idle m) && is_sending m

unfoldable pub forwards : Modem → Bool
forwards m = not (counts_idle m) && is_forwarding m
