-- Laws of configuration_at (specs/Configurations.antt).
--
--   with_timer_child, with_channel_child, full-channel_child   a child of 51: no channel, one more, one that has no place
--   channels-room    no more channels than there is room for
-- Trusts: nothing.
use Prim.Native.Nat.{ℕ, ◌+◌, ◌≤◌, ◌<◌}
use mathlib.Core.Path.{◌≡◌, refl}
use mathlib.Core.Bool.{Bool, true, false, cond}
use mathlib.Core.List.{List}
use native.Mathlib.Omega.{arith}
use borrow.Author.Tests.{ltb-true, lt-ltb, le-ltb, ne_eqb}
use lib.ListN.{set}
use lib.Dec.{eqb, ltb}
use Rattle.numbers.specs.Numbers.{number_at}
use Rattle.table.specs.declared.TimerValues.{TimerValues}
use Rattle.children.specs.Rows.{type_at, row_inside}
use Rattle.configurations.specs.Configurations.{empty_configuration, with_channel, with_timers, with_timer, with_configuration_child, configuration_at}
use Rattle.configurations.specs.declared.Configuration.{Configuration}
use Rattle.children.proofs.LawsFolds.{fold_keeps}

-- a child of 51: a timer value or nothing, one channel more, and one that has no place
module _ (msg : List ℕ) (at len : ℕ) (q : Configuration) where
  pub with_timer_child : (type_at msg at ≡ 1 → ⊥) → {t : TimerValues} → t ≡ with_timer msg at q.timers → with_timers t q ≡ with_configuration_child msg at len q
  unfolding with_configuration_child with_timer
  with_timer_child n e = simp (e, ne_eqb _ _ n) (on (eqb (type_at msg at) 2) (eqb (type_at msg at) 3) (eqb (type_at msg at) 4) (eqb (type_at msg at) 5) _ _ _ _)
    where
      -- the timer values chosen, then put in, or put in and then chosen
      on : (b c d e : Bool) (w x y z : TimerValues)
          → with_timers (cond b w (cond c x (cond d y (cond e z q.timers)))) q
          ≡ cond b (with_timers w q) (cond c (with_timers x q) (cond d (with_timers y q) (cond e (with_timers z q) q)))
      on true c d e w x y z = refl
      on false true d e w x y z = refl
      on false false true e w x y z = refl
      on false false false true w x y z = refl
      on false false false false w x y z = refl

  module _ (k : type_at msg at ≡ 1) where
    pub with_channel_child : q.channelcount < 32 → {v : ℕ} → v ≡ number_at 4 msg (at + 2)
        → record { channelcount = q.channelcount + 1; channels = set q.channels q.channelcount v; timers = q.timers } ≡ with_configuration_child msg at len q
    unfolding with_configuration_child with_channel
    with_channel_child h e = simp (k, lt-ltb q.channelcount 32 h, e)

    pub full-channel_child : 32 ≤ q.channelcount → q ≡ with_configuration_child msg at len q
    unfolding with_configuration_child with_channel
    full-channel_child h = simp (k, le-ltb q.channelcount 32 h)

-- of two configurations with room, the one that is chosen has room
cond-room : (b : Bool) (p q : Configuration) → (b ≡ true → p.channelcount ≤ 32) → q.channelcount ≤ 32 → (cond b p q).channelcount ≤ 32
cond-room true p q g h = g refl
cond-room false p q g h = h

with_channel-room : (v : ℕ) (q : Configuration) → q.channelcount ≤ 32 → (with_channel v q).channelcount ≤ 32
unfolding with_channel
with_channel-room v q h = cond-room (ltb q.channelcount 32) _ _ (λ e. let l = ltb-true q.channelcount 32 e in omega arith) h

with_configuration_child-room : (msg : List ℕ) (at len : ℕ) (q : Configuration) → q.channelcount ≤ 32 → (with_configuration_child msg at len q).channelcount ≤ 32
unfolding with_configuration_child
with_configuration_child-room msg at len q h =
    let is : ℕ → Bool = eqb (type_at msg at) in
    cond-room (is 1) _ _ (λ e. with_channel-room (number_at 4 msg (at + 2)) q h)
    (cond-room (is 2) _ _ (λ e. h) (cond-room (is 3) _ _ (λ e. h) (cond-room (is 4) _ _ (λ e. h) (cond-room (is 5) _ _ (λ e. h) h))))

pub channels-room : (msg : List ℕ) (at : ℕ) → (configuration_at msg at).channelcount ≤ 32
unfolding configuration_at
channels-room msg at =
    fold_keeps (λ (q : Configuration). q.channelcount ≤ 32) (with_configuration_child msg) (λ a len q h. with_configuration_child-room msg a len q h)
    (row_inside msg at) empty_configuration (omega arith)
