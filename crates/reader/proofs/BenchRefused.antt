-- The starred messages that are refused (document 01, "Bench examples"), by computation: one theorem for each, whatever table is lent.
--
--   read_lone_lem     32                   6 at 0         read_twice    33 00 33 00            9 at 2
--   read_255      32 FF                7 at 0         read_tdsg1    33 04 02 02 00 00     11 at 2
--   read_bare     32 00               13 at 0
-- Trusts: nothing.
use mathlib.Core.Path.{◌≡◌, refl, sym, ◌∙◌}
use mathlib.Core.List.{List, [], ◌∷◌}
use Prim.Native.Nat.{ℕ}
use Rattle.numbers.specs.Numbers.{number_at}
use Rattle.elements.specs.Elements.{head_at}
use Rattle.types.specs.Types.{known_types}
use Rattle.types.specs.Places.{child_of, under, placed, type_of, parent_in, table, line_at, place_in, known_at, type_under}
use Rattle.musts.specs.Musts.{missing_in, lacks_must}
use Rattle.element_tests.specs.Tests.{second_copy, wrong_length, no_channel, bad_value, is_full, own_tests}
use Rattle.rows.specs.Tests.{is_row, row_end, empty_tally}
use Rattle.rows.specs.Rows.{element_with, row_step, row_from as testedFrom, row_of, element_of, tested_at}
use Rattle.table.specs.Table.{empty_table}
use Rattle.table.specs.declared.Table.{Table}
use Rattle.children.specs.Rows.{done, bad, item, row_from, row_in, row_inside}
use Rattle.configurations.specs.Configurations.{empty_configuration, with_channel, with_configuration_child, configuration_at}
use Rattle.reader.specs.Read.{refusal, read_table}
use Rattle.reader.proofs.LawsRead.{is_taken_configuration, with_element_configuration}
use Rattle.reader.proofs.BenchSteps.{counted, whole, stops, goes}

abbrev pub twice : List ℕ
twice = 51 ∷ 0 ∷ 51 ∷ 0 ∷ []

abbrev pub tdsg1_zero : List ℕ
tdsg1_zero = 51 ∷ 4 ∷ 2 ∷ 2 ∷ 0 ∷ 0 ∷ []

-- the tests of their elements
tested : (tested_at (50 ∷ 0 ∷ []) 0 (counted 0 0) ≡ (record { bad = 13; off = 0; next = 2; tally = counted 0 0 }))
    × (tested_at twice 0 (counted 0 0) ≡ (record { bad = 0; off = 0; next = 2; tally = counted 0 1 }))
    × (tested_at twice 2 (counted 0 1) ≡ (record { bad = 9; off = 2; next = 4; tally = counted 0 1 }))
    × (tested_at tdsg1_zero 0 (counted 0 0) ≡ (record { bad = 11; off = 2; next = 6; tally = counted 0 0 }))
unfolding number_at head_at known_types child_of under placed type_of parent_in table line_at place_in known_at type_under missing_in lacks_must second_copy wrong_length no_channel bad_value is_full own_tests is_row row_end element_with row_step testedFrom row_of element_of tested_at
tested = (refl, refl, refl, refl)

-- their rows
rows_are : (row_in (50 ∷ []) 0 1 ≡ bad 0 6)
    × (row_in (50 ∷ 255 ∷ []) 0 2 ≡ bad 0 7)
    × (row_in (50 ∷ 0 ∷ []) 0 2 ≡ item 0 0 done)
    × (row_in twice 0 4 ≡ item 0 0 (item 2 0 done))
    × (row_in tdsg1_zero 0 6 ≡ item 0 4 done)
unfolding head_at row_from row_in
rows_are = (refl, refl, refl, refl, refl)

-- the first of the two configurations
twice_configured : configuration_at twice 0 ≡ empty_configuration
unfolding number_at head_at row_from row_in row_inside with_channel with_configuration_child configuration_at
twice_configured = refl

module _ (given : Table) where
  pub read_lone_lem : read_table given (50 ∷ []) ≡ refusal 6 0 given
  read_lone_lem = whole given (50 ∷ []) (bad 0 6) refl rows_are.0

  pub read_255 : read_table given (50 ∷ 255 ∷ []) ≡ refusal 7 0 given
  read_255 = whole given (50 ∷ 255 ∷ []) (bad 0 7) refl rows_are.1

  pub read_bare : read_table given (50 ∷ 0 ∷ []) ≡ refusal 13 0 given
  read_bare = whole given (50 ∷ 0 ∷ []) (item 0 0 done) refl rows_are.2 ∙ stops given (50 ∷ 0 ∷ []) 0 0 done empty_tally empty_table tested.0 refl

  pub read_twice : read_table given twice ≡ refusal 9 2 given
  read_twice =
      let with = with_element_configuration twice 0 empty_table refl (sym twice_configured) in
      whole given twice (item 0 0 (item 2 0 done)) refl rows_are.3
      ∙ goes given twice 0 0 (item 2 0 done) empty_tally empty_table tested.1 refl (is_taken_configuration twice 0 empty_table refl) (sym with)
      ∙ stops given twice 2 0 done (counted 0 1) empty_table tested.2 refl

  pub read_tdsg1 : read_table given tdsg1_zero ≡ refusal 11 2 given
  read_tdsg1 = whole given tdsg1_zero (item 0 4 done) refl rows_are.4 ∙ stops given tdsg1_zero 0 4 done empty_tally empty_table tested.3 refl
