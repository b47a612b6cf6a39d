-- Laws of the tests of a table (specs/Producible.antt).
--
--   answers                     test 15 gives no place where the search finds nothing
--   producible_not, producible_as   the test of a table, by what its lists come to: false, or what test 15 says
-- Trusts: nothing.
use Prim.Native.Nat.{ℕ}
use mathlib.Core.Path.{◌≡◌, refl, sym, ap, ◌∙◌}
use mathlib.Core.Bool.{Bool, true, false, not, ◌&&◌, and_assoc}
use mathlib.Core.List.{List, map}
use native.Mathlib.Omega.{arith}
use borrow.Author.Tests.{not-true, not-false}
use lib.Dec.{leb}
use lib.ListN.{length, take, drop}
use Rattle.table.specs.Table.{limited_to, rules_of, classifiers_of, channels_of}
use Rattle.table.specs.declared.Table.{Table}
use Rattle.element_tests.specs.Tests.{no_channel}
use Rattle.listed.specs.Listed.{is_distinct}
use Rattle.listed.proofs.Laws.{front-all, back_all}
use Rattle.named.specs.Named.{Found, Nothing, Number, Lone, Answered, At, unanswered, placed, lone_number}
use Rattle.std.proofs.Common.{Option, Some, None}
use Rattle.std.specs.Option.{is_some}
use Rattle.named.specs.Sought.{sought}
use Rattle.named.proofs.Laws.{lone_number-answered}
use Rattle.writing_entries.specs.Entries.{all_of, list_fits, is_zero, sound_rule, unused_rule, sound_classifier, unused_classifier}
use Rattle.writing_lists.specs.Lists.{rules_fit, classifiers_fit}
use Rattle.writing_check.specs.Producible.{is_nothing, producible}

pub answers : (msg : List ℕ) (t : Table) (o : Option ℕ) → sought o ≡ lone_number msg t → {b : Bool} → is_some o ≡ not b → b ≡ is_nothing (unanswered t)
unfolding lone_number sought
answers msg t o e {b} f = on o (unanswered t) b e f
  where
    on : (o : Option ℕ) (u : Found) (b : Bool) → sought o ≡ placed msg u → is_some o ≡ not b → b ≡ is_nothing u
    on None Nothing true e f = refl
    on None Nothing false e f = cc
    on (Some at) Nothing b e f = cc
    on None (Number i j) b e f = cc
    on (Some at) (Number i j) true e f = cc
    on (Some at) (Number i j) false e f = refl

swap : (a b c : Bool) → a && (b && c) ≡ b && (a && c)
swap true b c = refl
swap false true c = refl
swap false false c = refl

-- the tests in the order in which they are made, and in that of the definition
order : (a u s b v p d c w q e x y n : Bool)
    → a && (u && s && (b && (v && p && d && (c && (w && q && e && (x && y)))))) && n ≡ a && (u && (s && (b && (v && (p && (c && (w && (q && (x && (y && (e && (d && n))))))))))))
order a u s b v p d c w q e x y n = simp (and_assoc, swap)

module _ (t : Table) (k : length t.channels ≡ 32) (l : length t.classifiers ≡ 32) (j : length t.rules ≡ 32) {channels classifiers rules : Bool}
    (e : channels ≡ list_fits (λ hertz. not (no_channel hertz)) is_zero t.channelcount t.channels)
    (f : classifiers ≡ classifiers_fit (limited_to 32 t.classifiercount) t.classifiers)
    (g : rules ≡ rules_fit (limited_to 32 t.rulecount) t.rules) where
  -- what the code says of the lists and the timers
  abbrev fit : Bool
  fit = leb t.channelcount 32 && (channels && (leb t.classifiercount 32 && (classifiers && (leb t.rulecount 32 && (rules && (not (is_zero t.timers.tdsg1) && not (is_zero t.timers.tdsg2)))))))

  whole : fit && is_nothing (unanswered t) ≡ producible t
  unfolding producible rules_of classifiers_of channels_of rules_fit classifiers_fit
  whole =
      let n = limited_to 32 t.classifiercount in
      let m = limited_to 32 t.rulecount in
      rw (e, f, g, back_all t.classifiers 32 t.classifiercount l, back_all t.rules 32 t.rulecount j, front-all t.channels 32 t.channelcount k)
      (order
      (leb t.channelcount 32)
      (all_of is_zero (drop t.channelcount t.channels))
      (all_of (λ hertz. not (no_channel hertz)) (take t.channelcount t.channels))
      (leb t.classifiercount 32)
      (all_of unused_classifier (drop t.classifiercount t.classifiers))
      (all_of sound_classifier (take n t.classifiers))
      (is_distinct (map (λ q. q.number) (take n t.classifiers)))
      (leb t.rulecount 32)
      (all_of unused_rule (drop t.rulecount t.rules))
      (all_of sound_rule (take m t.rules))
      (is_distinct (map (λ q. q.number) (take m t.rules)))
      (not (is_zero t.timers.tdsg1))
      (not (is_zero t.timers.tdsg2))
      (is_nothing (unanswered t)))

  pub producible_not : not fit ≡ true → false ≡ producible t
  producible_not y = ap (λ (b : Bool). b && is_nothing (unanswered t)) (sym (not-true fit y)) ∙ whole

  pub producible_as : not fit ≡ false → {b : Bool} → b ≡ is_nothing (unanswered t) → b ≡ producible t
  producible_as y h = h ∙ ap (λ (b : Bool). b && is_nothing (unanswered t)) (sym (not-false fit y)) ∙ whole
