-- `Modem::is_unsuited` gives `is_unsuited`: each return cites the law of its test; the last is the bit of the four.
-- Trusts: nothing.
use mathlib.Core.Path.{sym}
use native.Mathlib.Omega.{arith}
use Rattle.modem_record.proofs.LawsIdle.{or_left, or_right, is_unsuited_state, is_unsuited_over}
use lib.Bits.{bit_or}
use Rattle.modem_record.proofs.Modem.is_unsuited.Goals as goal

pub returns-then-self-gt7 : goal.returns-then-self-gt7
returns-then-self-gt7 c = sym (is_unsuited_state _ _ _ _ c.if-self-gt7.true)

pub returns-then-r-u-gt1 : goal.returns-then-r-u-gt1
returns-then-r-u-gt1 c = sym (is_unsuited_over _ _ _ _ (rw (c.from-r.ensures, c.from-u.ensures, c.from-p.ensures) at c.if-r-u-gt1.true))

-- the test passed: none is over 1
pub suited_bit-requires : goal.suited_bit-requires
suited_bit-requires c =
    let r = c.from-r.result in
    let u = c.from-u.result in
    let p = c.from-p.result in
    let l = or_left r u in
    let k = or_right r u in
    let n = or_left (bit_or r u) p in
    let o = or_right (bit_or r u) p in
    (omega arith, omega arith, omega arith, omega arith)
