-- The configuration of a 51 that passes its tests is one that reading can produce (specs/Producible.antt).
--
--   ConfigurationMade q     the filling of a good list of channels, with good timer values
--   configuration_made      the configuration of a 51 that passes
-- Trusts: nothing.
use Prim.Native.Nat.{ℕ, ◌+◌, ◌^◌, ◌≤◌, ◌<◌}
use mathlib.Core.Path.{◌≡◌, refl, ap, ◌∙◌}
use mathlib.Core.Bool.{Bool, true, false, cond, not, ◌&&◌}
use mathlib.Core.List.{List, [], ◌∷◌, ◌++◌}
use native.Mathlib.Omega.{arith}
use borrow.Author.Tests.{eqb-true, eqb-false, ltb-true, lt-ltb}
use lib.ListN.{length}
use lib.Dec.{eqb, ltb}
use Rattle.numbers.specs.Numbers.{number_at}
use Rattle.numbers.proofs.Laws.{number_at_below}
use Rattle.types.specs.Places.{type_under}
use Rattle.types.specs.declared.Length.TheVariants.{Bytes}
use Rattle.types.specs.declared.Values.TheVariants.{NotZero, Channel}
use Rattle.table.specs.declared.TimerValues.{TimerValues}
use Rattle.element_tests.specs.Tests.{wrong_length, bad_value}
use Rattle.rows.specs.Tests.{none_counted}
use Rattle.rows.specs.Rows.{row_of, element_of}
use Rattle.children.specs.Rows.{type_at, row_in, row_fold}
use Rattle.configurations.specs.Configurations.{empty_configuration, with_channel, with_timers, with_configuration_child}
use Rattle.configurations.specs.declared.Configuration.{Configuration}
use Rattle.table.specs.Table.{padded}
use Rattle.table.proofs.Padded.{padded-more}
use Rattle.writing_laws.specs.Claims.{All, none, NumberGood, ChannelGood}
use Rattle.writing_laws.proofs.Known.{known, configuration_1, configuration_2, configuration_3}
use Rattle.writing_laws.proofs.Lists.{length_more, all_more}
use Rattle.writing_laws.proofs.Configuration.{configuration_so}
use Rattle.writing_laws.proofs.Keeps.{Bytes as Octets, Sees, element_sees, row_keeps}

pub record ConfigurationMade (q : Configuration) : Type 0 where
  pub cs : List ℕ
  pub a : ℕ
  pub b : ℕ
  pub c : ℕ
  pub d : ℕ
  pub is : q ≡ configuration_so cs a b c d
  pub few : length cs ≤ 32
  pub channel : All ChannelGood cs
  pub tdsg1 : NumberGood a
  pub tdsg2 : NumberGood b
  pub tdsg3 : c < 256 ^ 2
  pub tdsg4 : d < 256 ^ 2

with_channel-more : (cs : List ℕ) (a b c d x : ℕ) → length cs < 32 → with_channel x (configuration_so cs a b c d) ≡ configuration_so (cs ++ (x ∷ [])) a b c d
unfolding with_channel
with_channel-more cs a b c d x h = simp (lt-ltb (length cs) 32 h, padded-more 32 0 cs x h, length_more cs x)

with_channel-full : (cs : List ℕ) (a b c d x : ℕ) → ltb (length cs) 32 ≡ false → with_channel x (configuration_so cs a b c d) ≡ configuration_so cs a b c d
unfolding with_channel
with_channel-full cs a b c d x e = simp e

channel-more : {q : Configuration} (x : ℕ) → ChannelGood x → ConfigurationMade q → ConfigurationMade (with_channel x q)
channel-more x g m = rw m.is (on (ltb (length m.cs) 32) refl)
  where
    on : (t : Bool) → ltb (length m.cs) 32 ≡ t → ConfigurationMade (with_channel x (configuration_so m.cs m.a m.b m.c m.d))
    on true e =
        let h = ltb-true (length m.cs) 32 e in
        record {
          cs = m.cs ++ (x ∷ []);
          a = m.a;
          b = m.b;
          c = m.c;
          d = m.d;
          is = with_channel-more m.cs m.a m.b m.c m.d x h;
          few = omega (arith, length_more m.cs x);
          channel = all_more m.channel g;
          tdsg1 = m.tdsg1;
          tdsg2 = m.tdsg2;
          tdsg3 = m.tdsg3;
          tdsg4 = m.tdsg4;
        }
    on false e =
        record { cs = m.cs; a = m.a; b = m.b; c = m.c; d = m.d; is = with_channel-full m.cs m.a m.b m.c m.d x e; few = m.few; channel = m.channel; tdsg1 = m.tdsg1; tdsg2 = m.tdsg2; tdsg3 = m.tdsg3; tdsg4 = m.tdsg4 }

module _ (msg : List ℕ) (octets : Octets msg) (at len : ℕ) (u : List ℕ) (fine : (element_of msg 2 at len u).bad ≡ 0) where
  abbrev v : ℕ
  v = number_at 2 msg (at + 2)

  -- a number of two bytes that is not 0
  some_number : (p l : ℕ) → p < 26 → type_under 2 (type_at msg at) ≡ known p (Bytes 2) false NotZero 255 l → NumberGood v
  unfolding wrong_length bad_value
  some_number p l h e = pick (eqb len 2) (eqb v 0) s.size s.value refl
    where
      s : Sees msg 2 at len u (known p (Bytes 2) false NotZero 255 l)
      s = element_sees msg 2 at len u (known p (Bytes 2) false NotZero 255 l) e (λ z. omega (arith, z)) fine

      pick : (b c : Bool) → not b ≡ false → b && c ≡ false → eqb v 0 ≡ c → NumberGood v
      pick false c p q r = absurd (let z : ◌≡◌ {A = ℕ} 0 1 = ap (λ (t : Bool). cond {A = ℕ} t 0 1) p in omega arith)
      pick true true p q r = absurd (let z : ◌≡◌ {A = ℕ} 0 1 = ap (λ (t : Bool). cond {A = ℕ} t 0 1) q in omega arith)
      pick true false p q r = (omega (arith, eqb-false v 0 r), number_at_below 2 msg (at + 2) octets)

  channel_in : type_at msg at ≡ 1 → ChannelGood (number_at 4 msg (at + 2))
  unfolding bad_value
  channel_in e =
      ((element_sees msg 2 at len u (known 21 (Bytes 4) true Channel 32 0) (ap (type_under 2) e ∙ configuration_1) (λ z. omega (arith, z)) fine).value, number_at_below 4 msg (at + 2) octets)

  child_made : (q : Configuration) → ConfigurationMade q → ConfigurationMade (with_configuration_child msg at len q)
  unfolding with_configuration_child
  child_made q m = on (eqb (type_at msg at) 1) (eqb (type_at msg at) 2) (eqb (type_at msg at) 3) (eqb (type_at msg at) 4) (eqb (type_at msg at) 5) refl refl refl
    where
      below : v < 256 ^ 2
      below = number_at_below 2 msg (at + 2) octets

      t : TimerValues
      t = q.timers

      on : (f g h i j : Bool) → eqb (type_at msg at) 1 ≡ f → eqb (type_at msg at) 2 ≡ g → eqb (type_at msg at) 3 ≡ h
          → ConfigurationMade (cond f (with_channel (number_at 4 msg (at + 2)) q)
          (cond g (with_timers (record { tdsg1 = v; tdsg2 = t.tdsg2; tdsg3 = t.tdsg3; tdsg4 = t.tdsg4 }) q)
          (cond h (with_timers (record { tdsg1 = t.tdsg1; tdsg2 = v; tdsg3 = t.tdsg3; tdsg4 = t.tdsg4 }) q)
          (cond i (with_timers (record { tdsg1 = t.tdsg1; tdsg2 = t.tdsg2; tdsg3 = v; tdsg4 = t.tdsg4 }) q)
          (cond j (with_timers (record { tdsg1 = t.tdsg1; tdsg2 = t.tdsg2; tdsg3 = t.tdsg3; tdsg4 = v }) q) q)))))
      on true g h i j x y z = channel-more (number_at 4 msg (at + 2)) (channel_in (eqb-true _ _ x)) m
      on false true h i j x y z =
          record {
            cs = m.cs;
            a = v;
            b = m.b;
            c = m.c;
            d = m.d;
            is = ap (λ (k : Configuration). with_timers (record { tdsg1 = v; tdsg2 = k.timers.tdsg2; tdsg3 = k.timers.tdsg3; tdsg4 = k.timers.tdsg4 }) k) m.is;
            few = m.few;
            channel = m.channel;
            tdsg1 = some_number 22 1 (omega arith) (ap (type_under 2) (eqb-true _ _ y) ∙ configuration_2);
            tdsg2 = m.tdsg2;
            tdsg3 = m.tdsg3;
            tdsg4 = m.tdsg4;
          }
      on false false true i j x y z =
          record {
            cs = m.cs;
            a = m.a;
            b = v;
            c = m.c;
            d = m.d;
            is = ap (λ (k : Configuration). with_timers (record { tdsg1 = k.timers.tdsg1; tdsg2 = v; tdsg3 = k.timers.tdsg3; tdsg4 = k.timers.tdsg4 }) k) m.is;
            few = m.few;
            channel = m.channel;
            tdsg1 = m.tdsg1;
            tdsg2 = some_number 23 2 (omega arith) (ap (type_under 2) (eqb-true _ _ z) ∙ configuration_3);
            tdsg3 = m.tdsg3;
            tdsg4 = m.tdsg4;
          }
      on false false false true j x y z =
          record {
            cs = m.cs;
            a = m.a;
            b = m.b;
            c = v;
            d = m.d;
            is = ap (λ (k : Configuration). with_timers (record { tdsg1 = k.timers.tdsg1; tdsg2 = k.timers.tdsg2; tdsg3 = v; tdsg4 = k.timers.tdsg4 }) k) m.is;
            few = m.few;
            channel = m.channel;
            tdsg1 = m.tdsg1;
            tdsg2 = m.tdsg2;
            tdsg3 = below;
            tdsg4 = m.tdsg4;
          }
      on false false false false true x y z =
          record {
            cs = m.cs;
            a = m.a;
            b = m.b;
            c = m.c;
            d = v;
            is = ap (λ (k : Configuration). with_timers (record { tdsg1 = k.timers.tdsg1; tdsg2 = k.timers.tdsg2; tdsg3 = k.timers.tdsg3; tdsg4 = v }) k) m.is;
            few = m.few;
            channel = m.channel;
            tdsg1 = m.tdsg1;
            tdsg2 = m.tdsg2;
            tdsg3 = m.tdsg3;
            tdsg4 = below;
          }
      on false false false false false x y z = m

-- nothing configured
pub configuration_none : ConfigurationMade empty_configuration
unfolding padded
configuration_none =
    record { cs = []; a = 2; b = 600; c = 300; d = 1800; is = refl; few = omega arith; channel = none; tdsg1 = (omega arith, omega arith); tdsg2 = (omega arith, omega arith); tdsg3 = omega arith; tdsg4 = omega arith }

-- the configuration in the row from `at` to `end`
pub configuration_made : (msg : List ℕ) → Octets msg → (own at end : ℕ) → (row_of msg 2 own at end none_counted).bad ≡ 0
    → ConfigurationMade (row_fold (with_configuration_child msg) (row_in msg at end) empty_configuration)
configuration_made msg octets own at end z =
    (row_keeps msg 2 own (with_configuration_child msg) end (λ u q. ConfigurationMade q) (λ at len u q head fine m. child_made msg octets at len u fine q m) at none_counted empty_configuration z configuration_none).holds
