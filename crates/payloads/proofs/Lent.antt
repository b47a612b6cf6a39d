-- Laws of the payload (specs/Payload.antt).
--
--   payload_range_lies   it begins before its end, and ends within the frame
--   payload_of-forward   of a forwarded frame of 14 bytes or more, the bytes from 14 on
-- Trusts: nothing.
use mathlib.Core.Path.{◌≡◌, refl}
use mathlib.Core.Bool.{Bool, true, false, cond}
use mathlib.Core.List.{List}
use Prim.Native.Nat.{ℕ, ◌≤◌, ◌-◌}
use native.Mathlib.Nat.{le_refl, le_of_eq}
use native.Mathlib.Omega.{arith}
use lib.Dec.{ltb}
use lib.ListN.{length, drop, length-drop}
use lib.Seq.{take_all}
use borrow.Author.Tests.{ltb-false, le-ltb}
use Rattle.payloads.specs.declared.Range.{Range}
use Rattle.payloads.specs.Judged.{Verdict, Refused, Other, Forward, Filtered}
use Rattle.payloads.specs.Payload.{nowhere, payload_range, payload_of}

-- a range in a frame of n bytes
abbrev pub LiesIn : Range → ℕ → Type 0
LiesIn r n = (r.start ≤ r.end) × (r.end ≤ n)

pub payload_range_lies : (v : Verdict) (n : ℕ) → LiesIn (payload_range v n) n
unfolding payload_range
payload_range_lies (Refused k) n = (omega arith, omega arith)
payload_range_lies Other n = (omega arith, omega arith)
payload_range_lies (Forward k) n = go (ltb n 14) refl
  where
    go : (b : Bool) → ltb n 14 ≡ b → LiesIn (cond b nowhere (record { start = 14; end = n })) n
    go true e = (omega arith, omega arith)
    go false e = (ltb-false n 14 e, le_refl n)
payload_range_lies Filtered n = (omega arith, omega arith)

pub payload_of-forward : (n : ℕ) (frame : List ℕ) → 14 ≤ length frame → payload_of (Forward n) frame ≡ drop 14 frame
unfolding payload_range
payload_of-forward n frame h =
    rw (le-ltb (length frame) 14 h) (take_all (length frame - 14) (drop 14 frame) (le_of_eq (length-drop 14 frame)))
