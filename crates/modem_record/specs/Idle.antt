-- Idle: the parts of `counts_idle` (specs/Record.antt) as the code tests them.
--
--   is_unsuited state receiveon hasucid permission   Idle, no state at all, or marks or a permission that the state has not
--   is_late state permission retryon retry           the retry timer runs where it must not, or shows too much
--   is_held_over receiveon receive                    the receive timer shows too much
--
-- Nothing here is new: proofs/LawsIdle.antt says that these three and the two timer values of 0 are `counts_idle`.
-- Trusts: nothing.
use Rattle.std.specs.Prelude.{ℕ, Bool, cond, not, ◌&&◌, ◌||◌, ltb, eqb}
use Rattle.modem_record.specs.States.{idle, scanning, one_way, ranging, two_way, resting}

unfoldable pub is_unsuited : ℕ → ℕ → ℕ → ℕ → Bool
is_unsuited state receiveon hasucid permission =
    eqb state idle || ltb resting state || ltb 1 permission
    || not (eqb receiveon (cond (eqb state idle || eqb state scanning) 0 1))
    || not (eqb hasucid (cond (eqb state two_way) 1 0))
    || ltb permission (cond (eqb state ranging || eqb state two_way) 1 0)

unfoldable pub is_held_over : ℕ → ℕ → Bool
is_held_over on left = not (eqb on 0) && ltb 65535000 left

unfoldable pub is_late : ℕ → ℕ → ℕ → ℕ → Bool
is_late state permission retryon retry = ltb (cond (eqb state one_way && eqb permission 1) 1 0) retryon || is_held_over retryon retry
