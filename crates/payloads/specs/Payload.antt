-- Payload: the part of a judged frame that is lent back (document 01, "Choosing and judging").
--
--   payload_range v n     where it begins and where it ends in a frame of n bytes: from byte 14 on with Forward, else nowhere
--   bytes_over r frame    the bytes of a frame over a range
--   part_over r at frame  the part over a range of a frame that stands at `at`: where it stands itself, and its bytes
--   payload_of v frame    the bytes that are lent back
--
-- Tested by: `lent` in proofs/Bench.antt of crate tunnel; random tables and frames against the other program.
-- Trusts: nothing.
use Rattle.std.specs.Prelude.{ℕ, ◌+◌, ◌-◌, cond, List, length, take, drop, ltb}
use Rattle.wire.specs.Parts.{Part, part}
use Rattle.payloads.specs.declared.Range.{Range}
use Rattle.payloads.specs.Judged.{Verdict, Refused, Other, Forward, Filtered}

abbrev pub nowhere : Range
nowhere = record { start = 0; end = 0 }

-- what a verdict lends back of a frame of n bytes: `start` is the first of its bytes, `end` the first behind them
unfoldable pub payload_range : Verdict → ℕ → Range
payload_range (Refused k) n = nowhere
payload_range Other n = nowhere
payload_range (Forward k) n = cond (ltb n 14) nowhere (record { start = 14; end = n })
payload_range Filtered n = nowhere

abbrev pub bytes_over : Range → List ℕ → List ℕ
bytes_over r frame = take (r.end - r.start) (drop r.start frame)

-- the part over a range of a frame that stands at `at`
abbrev pub part_over : Range → ℕ × ℕ → List ℕ → Part
part_over r at frame = part (at.0, r.start + at.1) (bytes_over r frame)

abbrev pub payload_of : Verdict → List ℕ → List ℕ
payload_of v frame = bytes_over (payload_range v (length frame)) frame
