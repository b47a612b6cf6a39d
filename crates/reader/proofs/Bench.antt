-- The starred messages of document 01 ("Bench examples" and "Listing"): one list, one theorem, by computation. Those that are refused are in
-- BenchRefused.antt, M is in BenchM.antt.
--
--   messages   the messages, M last          readings given   what reading each gives, whatever table is lent
--   starred    read_table gives those readings
-- Trusts: nothing.
pub use Rattle.reader.proofs.BenchSteps.{accepted}
pub use Rattle.reader.proofs.BenchM.{M, rule_for42, table_m}
use mathlib.Core.Path.{◌≡◌, refl, sym, ap, ◌∙◌}
use mathlib.Core.List.{List, [], ◌∷◌, map}
use Prim.Native.Nat.{ℕ}
use native.Mathlib.Omega.{arith}
use lib.ListN.{replicate}
use Rattle.numbers.specs.Numbers.{number_at}
use Rattle.elements.specs.Elements.{head_at}
use Rattle.types.specs.Types.{known_types}
use Rattle.types.specs.Places.{child_of, under, placed, type_of, parent_in, table, line_at, place_in, known_at, type_under}
use Rattle.musts.specs.Musts.{missing_in, lacks_must}
use Rattle.element_tests.specs.Tests.{second_copy, wrong_length, no_channel, bad_value, is_full, own_tests}
use Rattle.rows.specs.Tests.{is_row, row_end, empty_tally}
use Rattle.rows.specs.Rows.{element_with, row_step, row_from as testedFrom, row_of, element_of, tested_at}
use Rattle.table.specs.Table.{empty_rule, empty_classifier, empty_table}
use Rattle.table.specs.declared.Table.{Table}
use Rattle.children.specs.Rows.{done, item, row_from, row_in, row_inside, type_at}
use Rattle.configurations.specs.Configurations.{empty_configuration, with_timers, with_channel, with_configuration_child, configuration_at}
use Rattle.reader.specs.Read.{refusal, read_table}
use Rattle.reader.specs.Read.{Reading}
use Rattle.reader.proofs.LawsRead.{is_taken_configuration, is_taken_other, with_element_configuration, with_element-other}
use Rattle.reader.proofs.BenchSteps.{counted, answered, whole, goes, ends}
use Rattle.reader.proofs.BenchRefused.{twice, tdsg1_zero, read_lone_lem, read_255, read_bare, read_twice, read_tdsg1}
use Rattle.reader.proofs.BenchM.{read_M}

abbrev pub with_tdsg3 : ℕ → Table
with_tdsg3 seconds =
    record {
      rulecount = 0;
      classifiercount = 0;
      channelcount = 0;
      timers = record { tdsg1 = 2; tdsg2 = 600; tdsg3 = seconds; tdsg4 = 1800 };
      channels = replicate 32 0;
      classifiers = replicate 32 empty_classifier;
      rules = replicate 32 empty_rule;
    }

abbrev tdsg3_zero : List ℕ
tdsg3_zero = 51 ∷ 4 ∷ 4 ∷ 2 ∷ 0 ∷ 0 ∷ []

abbrev other : List ℕ
other = 99 ∷ 1 ∷ 0 ∷ []

abbrev pub messages : List (List ℕ)
messages = [] ∷ (50 ∷ []) ∷ (50 ∷ 255 ∷ []) ∷ (50 ∷ 0 ∷ []) ∷ twice ∷ tdsg1_zero ∷ tdsg3_zero ∷ other ∷ M ∷ []

abbrev pub readings : Table → List Reading
readings given =
    accepted empty_table
    ∷ refusal 6 0 given
    ∷ refusal 7 0 given
    ∷ refusal 13 0 given
    ∷ refusal 9 2 given
    ∷ refusal 11 2 given
    ∷ accepted (with_tdsg3 0)
    ∷ accepted empty_table
    ∷ accepted table_m
    ∷ []

-- Tdsg3 of 0, and a type that is not listed: the tests, the rows, and what the configuration says
tested : (tested_at tdsg3_zero 0 (counted 0 0) ≡ (record { bad = 0; off = 0; next = 6; tally = counted 0 1 }))
    × (tested_at other 0 (counted 0 0) ≡ (record { bad = 0; off = 0; next = 3; tally = counted 0 0 }))
unfolding number_at head_at known_types child_of under placed type_of parent_in table line_at place_in known_at type_under missing_in lacks_must second_copy wrong_length no_channel bad_value is_full own_tests is_row row_end element_with row_step testedFrom row_of element_of tested_at
tested = (refl, refl)

rows_are : (row_in [] 0 0 ≡ done) × (row_in tdsg3_zero 0 6 ≡ item 0 4 done) × (row_in other 0 3 ≡ item 0 1 done)
unfolding head_at row_from row_in
rows_are = (refl, refl, refl)

configured : configuration_at tdsg3_zero 0 ≡ with_timers (with_tdsg3 0).timers empty_configuration
unfolding number_at head_at row_from row_in row_inside with_channel with_configuration_child configuration_at
configured = refl

not_type : (n : ℕ) → (99 ≡ n → ⊥) → type_at other 0 ≡ n → ⊥
not_type n apart z = apart z

module _ (given : Table) where
  read_empty : read_table given [] ≡ accepted empty_table
  read_empty = whole given [] done refl rows_are.0 ∙ ends given [] empty_tally empty_table (answered empty_table refl)

  read_tdsg3 : read_table given tdsg3_zero ≡ accepted (with_tdsg3 0)
  read_tdsg3 =
      let with = with_element_configuration tdsg3_zero 0 empty_table refl (sym configured) in
      whole given tdsg3_zero (item 0 4 done) refl rows_are.1
      ∙ goes given tdsg3_zero 0 4 done empty_tally empty_table tested.0 refl (is_taken_configuration tdsg3_zero 0 empty_table refl) (sym with)
      ∙ ends given tdsg3_zero (counted 0 1) (with_tdsg3 0) (answered (with_tdsg3 0) refl)

  read_other : read_table given other ≡ accepted empty_table
  read_other =
      let a = not_type 50 (λ z. omega arith) in
      let b = not_type 23 (λ z. omega arith) in
      let c = not_type 51 (λ z. omega arith) in
      whole given other (item 0 1 done) refl rows_are.2
      ∙ goes given other 0 1 done empty_tally empty_table tested.1 refl (is_taken_other other 0 empty_table a b) (sym (with_element-other other 0 empty_table a b c))
      ∙ ends given other empty_tally empty_table (answered empty_table refl)

next : {x y : Reading} {xs ys : List Reading} → x ≡ y → xs ≡ ys → x ∷ xs ≡ y ∷ ys
next {x} {y} {xs} {ys} p q = ap (λ (r : Reading). r ∷ xs) p ∙ ap (λ (l : List Reading). y ∷ l) q

pub starred : (given : Table) → map (read_table given) messages ≡ readings given
starred given =
    next (read_empty given)
    (next (read_lone_lem given)
    (next (read_255 given)
    (next (read_bare given)
    (next (read_twice given)
    (next (read_tdsg1 given)
    (next (read_tdsg3 given)
    (next (read_other given)
    (next (read_M given) refl))))))))
