-- The configuration, written and read back (specs/Configurations.antt of configurations, configuration_row of encoding).
--
--   configuration_of t       what a table holds of its configuration
--   configuration_good      its row takes its tests and its fold from nothing to all of it
--   configuration_tested, configuration_back    so its element passes and gives it back
--   configuration_empty     where nothing is written it is the empty one
-- Trusts: nothing.
use Prim.Native.Nat.{ℕ, ◌+◌, ◌^◌, ◌<◌}
use mathlib.Core.Path.{◌≡◌, refl, sym, ap, subst, ◌∙◌}
use mathlib.Core.Bool.{Bool, true, false, cond}
use mathlib.Core.List.{List, [], ◌∷◌, ◌++◌}
use native.Mathlib.Omega.{arith}
use borrow.Author.Tests.{ne_eqb, lt-ltb, le-ltb, lt-leb, eqb-true}
use lib.ListN.{length, get_or}
use lib.Dec.{eqb}
use Rattle.table.specs.Table.{channels_of, padded}
use Rattle.table.specs.declared.Table.{Table}
use Rattle.table.proofs.Laws.{length-channels_of_le}
use Rattle.table.proofs.Padded.{padded-more}
use Rattle.types.specs.declared.Length.TheVariants.{Row, Bytes}
use Rattle.types.specs.declared.Values.TheVariants.{Any, NotZero, Channel}
use Rattle.element_tests.specs.Tests.{second_copy, wrong_length, bad_value, is_full}
use Rattle.rows.specs.Tests.{is_row, none_counted}
use Rattle.rows.specs.Rows.{element_of}
use Rattle.children.specs.Rows.{row_from, row_in, row_fold}
use Rattle.children.proofs.Laws.{row_inside-row}
use Rattle.configurations.specs.Configurations.{empty_configuration, with_channel, with_configuration_child, configuration_at}
use Rattle.configurations.specs.declared.Configuration.{Configuration}
use Rattle.writing_elements.specs.Encode.{big_endian, element, channel_bytes, timer, timers_row, configuration_row}
use Rattle.writing_elements.proofs.Sizes.{configuration_row-most}
use Rattle.writing_elements.proofs.Stands.{Stands, stands_byte, stands_value, stands_number, stands_head}
use Rattle.writing_laws.specs.Claims.{NumberGood, ChannelGood, Producible}
use Rattle.writing_laws.proofs.Known.{known, top_51, configuration_1, configuration_2, configuration_3, configuration_4, configuration_5, configuration_musts}
use Rattle.writing_laws.proofs.Lists.{length_more}
use Rattle.writing_laws.proofs.Segments.{passed, Good, good_none, good_then, good_each, good_leaf, good_plain, row_fine, row-tested, row_folded}

abbrev pub configuration_so : List ℕ → (a b c d : ℕ) → Configuration
configuration_so cs a b c d = record { channelcount = length cs; channels = padded 32 0 cs; timers = record { tdsg1 = a; tdsg2 = b; tdsg3 = c; tdsg4 = d } }

abbrev pub configuration_of : Table → Configuration
configuration_of t = record { channelcount = t.channelcount; channels = t.channels; timers = t.timers }

abbrev counted : (k a b c d : ℕ) → List ℕ
counted k a b c d = k ∷ a ∷ b ∷ c ∷ d ∷ 0 ∷ 0 ∷ 0 ∷ []

-- whether a timer is written
abbrev some : ℕ → ℕ → ℕ
some usual v = cond (eqb v usual) 0 1

whole : (t : Table) → Producible t → configuration_so (channels_of t) t.timers.tdsg1 t.timers.tdsg2 t.timers.tdsg3 t.timers.tdsg4 ≡ configuration_of t
whole t g = simp (← g.channels.array, ← g.channels.count)

module _ (msg : List ℕ) (own : ℕ) where
  good_channel : (xs : List ℕ) (x : ℕ) → length xs < 32 → ChannelGood x
      → Good msg 2 own (with_configuration_child msg) (channel_bytes x) (counted (length xs) 0 0 0 0) (configuration_so xs 2 600 300 1800) (counted (length xs + 1) 0 0 0 0) (configuration_so (xs ++ (x ∷ [])) 2 600 300 1800)
  unfolding second_copy wrong_length is_full bad_value is_row with_configuration_child with_channel channel_bytes big_endian
  good_channel xs x h g =
      good_leaf msg 2 own (with_configuration_child msg) (known 21 (Bytes 4) true Channel 32 0) 1 (big_endian 4 x) (counted (length xs) 0 0 0 0) configuration_1
      (record {
        listed = λ z. omega (arith, z);
        few = omega arith;
        copy = refl;
        size = refl;
        value = λ at s. simp (stands_number msg (at + 2) 4 x g.1 (stands_value s), g.0);
        room = simp (lt-leb 32 (length xs) h);
      }) refl
      (λ at s. simp (stands_byte s, stands_number msg (at + 2) 4 x g.1 (stands_value s), lt-ltb (length xs) 32 h, padded-more 32 0 xs x h, length_more xs x))

  module _ (cs : List ℕ) where
    good_1 : (k v : ℕ) → NumberGood v → Good msg 2 own (with_configuration_child msg) (timer 2 2 v) (counted k 0 0 0 0) (configuration_so cs 2 600 300 1800) (counted k (some 2 v) 0 0 0) (configuration_so cs v 600 300 1800)
    unfolding timer bad_value with_configuration_child
    good_1 k v g = on (eqb v 2) refl
      where
        on : (b : Bool) → eqb v 2 ≡ b
            → Good msg 2 own (with_configuration_child msg) (cond b [] (element 2 (big_endian 2 v))) (counted k 0 0 0 0) (configuration_so cs 2 600 300 1800) (counted k (cond b 0 1) 0 0 0) (configuration_so cs v 600 300 1800)
        on true e = rw (eqb-true v 2 e) (good_none msg 2 own (with_configuration_child msg))
        on false e =
            good_plain msg 2 own (with_configuration_child msg) 22 2 1 2 v NotZero (counted k 0 0 0 0) configuration_2 (omega arith) (omega arith) refl
            (λ at s. simp (stands_number msg (at + 2) 2 v g.1 (stands_value s), ne_eqb v 0 (λ z. omega (arith, z))))
            (λ at s. simp (stands_byte s, stands_number msg (at + 2) 2 v g.1 (stands_value s)))

    good_2 : (k m a v : ℕ) → NumberGood v → Good msg 2 own (with_configuration_child msg) (timer 3 600 v) (counted k m 0 0 0) (configuration_so cs a 600 300 1800) (counted k m (some 600 v) 0 0) (configuration_so cs a v 300 1800)
    unfolding timer bad_value with_configuration_child
    good_2 k m a v g = on (eqb v 600) refl
      where
        on : (b : Bool) → eqb v 600 ≡ b
            → Good msg 2 own (with_configuration_child msg) (cond b [] (element 3 (big_endian 2 v))) (counted k m 0 0 0) (configuration_so cs a 600 300 1800) (counted k m (cond b 0 1) 0 0) (configuration_so cs a v 300 1800)
        on true e = rw (eqb-true v 600 e) (good_none msg 2 own (with_configuration_child msg))
        on false e =
            good_plain msg 2 own (with_configuration_child msg) 23 3 2 2 v NotZero (counted k m 0 0 0) configuration_3 (omega arith) (omega arith) refl
            (λ at s. simp (stands_number msg (at + 2) 2 v g.1 (stands_value s), ne_eqb v 0 (λ z. omega (arith, z))))
            (λ at s. simp (stands_byte s, stands_number msg (at + 2) 2 v g.1 (stands_value s)))

    good_3 : (k m n a b v : ℕ) → v < 256 ^ 2 → Good msg 2 own (with_configuration_child msg) (timer 4 300 v) (counted k m n 0 0) (configuration_so cs a b 300 1800) (counted k m n (some 300 v) 0) (configuration_so cs a b v 1800)
    unfolding timer bad_value with_configuration_child
    good_3 k m n a b v g = on (eqb v 300) refl
      where
        on : (t : Bool) → eqb v 300 ≡ t
            → Good msg 2 own (with_configuration_child msg) (cond t [] (element 4 (big_endian 2 v))) (counted k m n 0 0) (configuration_so cs a b 300 1800) (counted k m n (cond t 0 1) 0) (configuration_so cs a b v 1800)
        on true e = rw (eqb-true v 300 e) (good_none msg 2 own (with_configuration_child msg))
        on false e =
            good_plain msg 2 own (with_configuration_child msg) 24 4 3 2 v Any (counted k m n 0 0) configuration_4 (omega arith) (omega arith) refl (λ at s. refl)
            (λ at s. simp (stands_byte s, stands_number msg (at + 2) 2 v g (stands_value s)))

    good_4 : (k m n o a b c v : ℕ) → v < 256 ^ 2 → Good msg 2 own (with_configuration_child msg) (timer 5 1800 v) (counted k m n o 0) (configuration_so cs a b c 1800) (counted k m n o (some 1800 v)) (configuration_so cs a b c v)
    unfolding timer bad_value with_configuration_child
    good_4 k m n o a b c v g = on (eqb v 1800) refl
      where
        on : (t : Bool) → eqb v 1800 ≡ t
            → Good msg 2 own (with_configuration_child msg) (cond t [] (element 5 (big_endian 2 v))) (counted k m n o 0) (configuration_so cs a b c 1800) (counted k m n o (cond t 0 1)) (configuration_so cs a b c v)
        on true e = rw (eqb-true v 1800 e) (good_none msg 2 own (with_configuration_child msg))
        on false e =
            good_plain msg 2 own (with_configuration_child msg) 25 5 4 2 v Any (counted k m n o 0) configuration_5 (omega arith) (omega arith) refl (λ at s. refl)
            (λ at s. simp (stands_byte s, stands_number msg (at + 2) 2 v g (stands_value s)))

  pub configuration_good : (t : Table) → Producible t
      → Good msg 2 own (with_configuration_child msg) (configuration_row t) none_counted empty_configuration
      (counted (length (channels_of t)) (some 2 t.timers.tdsg1) (some 600 t.timers.tdsg2) (some 300 t.timers.tdsg3) (some 1800 t.timers.tdsg4)) (configuration_of t)
  unfolding configuration_row timers_row padded
  configuration_good t g = subst (λ (r : Configuration). Good msg 2 own (with_configuration_child msg) (configuration_row t) none_counted empty_configuration
      (counted (length (channels_of t)) (some 2 t.timers.tdsg1) (some 600 t.timers.tdsg2) (some 300 t.timers.tdsg3) (some 1800 t.timers.tdsg4)) r) (whole t g) segments
    where
      cs : List ℕ
      cs = channels_of t

      segments : Good msg 2 own (with_configuration_child msg) (configuration_row t) none_counted empty_configuration
          (counted (length (channels_of t)) (some 2 t.timers.tdsg1) (some 600 t.timers.tdsg2) (some 300 t.timers.tdsg3) (some 1800 t.timers.tdsg4))
          (configuration_so (channels_of t) t.timers.tdsg1 t.timers.tdsg2 t.timers.tdsg3 t.timers.tdsg4)
      segments =
          good_then msg 2 own (with_configuration_child msg) _ _
          (good_each msg 2 own (with_configuration_child msg) channel_bytes ChannelGood 32 (λ k. counted k 0 0 0 0) (λ xs. configuration_so xs 2 600 300 1800) good_channel [] (omega (arith, length-channels_of_le t)) g.channel)
          (good_then msg 2 own (with_configuration_child msg) _ _ (good_1 cs _ t.timers.tdsg1 g.tdsg1)
          (good_then msg 2 own (with_configuration_child msg) _ _ (good_2 cs _ _ _ t.timers.tdsg2 g.tdsg2)
          (good_then msg 2 own (with_configuration_child msg) _ _ (good_3 cs _ _ _ _ _ t.timers.tdsg3 g.tdsg3)
          (good_4 cs _ _ _ _ _ _ _ t.timers.tdsg4 g.tdsg4))))

module _ (t : Table) (g : Producible t) where
  pub configuration_back : (msg : List ℕ) (at : ℕ) → Stands msg at (element 51 (configuration_row t)) → configuration_at msg at ≡ configuration_of t
  unfolding configuration_at
  configuration_back msg at s =
      ap (λ row. row_fold (with_configuration_child msg) row empty_configuration)
      (row_inside-row msg at (sym ((stands_head {v = configuration_row t} s (length msg) (omega (arith, configuration_row-most t)) (omega (arith, s.fits))))) refl)
      ∙ row_folded msg 2 at (with_configuration_child msg) (configuration_good msg at t g (at + 2) (stands_value s))

  pub configuration_tested : (msg : List ℕ) (at : ℕ) (u : List ℕ) → Stands msg at (element 51 (configuration_row t)) → get_or u 2 0 ≡ 0
      → element_of msg 26 at (length (configuration_row t)) u ≡ passed at 2 (get_or u 2 0 + 1)
  unfolding second_copy wrong_length is_full bad_value is_row
  configuration_tested msg at u s first =
      row_fine msg 26 (known 2 Row false Any 255 2) 51 (configuration_row t) u top_51
      (record { listed = λ z. omega (arith, z); few = omega (arith, configuration_row-most t); copy = simp first; size = refl; value = λ at s. refl; room = simp (le-ltb 255 (length (configuration_row t)) (omega (arith, configuration_row-most t))) }) at s refl
      (ap (λ f. f.bad) (row-tested msg 2 at (with_configuration_child msg) (configuration_good msg at t g (at + 2) (stands_value s)) (configuration_musts _ _ _ _ _)))

  -- nothing written: nothing to read
  pub configuration_empty : configuration_row t ≡ [] → configuration_of t ≡ empty_configuration
  unfolding row_in row_from
  configuration_empty e =
      let s : Stands [] 0 (configuration_row t) = rw e (record { fits = omega arith; rest = []; bytes = refl }) in
      sym (row_folded [] 2 0 (with_configuration_child []) (configuration_good [] 0 t g 0 s)) ∙ rw e refl
