-- The bench messages of document 01 that end in 6 to 13, computed: the first refusal is that of the element asked about.
--
--   asked     a message, the place of a top-level element and the tally of those before it
--   answers   the refusal number and its offset
--   starred   tested_at gives the answers
-- Trusts: nothing.
use mathlib.Core.Path.{◌≡◌, refl}
use mathlib.Core.List.{List, [], ◌∷◌, map}
use Prim.Native.Nat.{ℕ}
use Rattle.numbers.specs.Numbers.{number_at}
use Rattle.elements.specs.Elements.{head_at}
use Rattle.types.specs.Types.{known_types}
use Rattle.types.specs.Places.{child_of, under, placed, type_of, parent_in, table, line_at, place_in, known_at, type_under}
use Rattle.musts.specs.Musts.{missing_in, lacks_must}
use Rattle.element_tests.specs.Tests.{second_copy, wrong_length, no_channel, bad_value, is_full, own_tests}
use Rattle.rows.specs.Tests.{is_row, row_end, empty_tally}
use Rattle.rows.specs.Rows.{element_with, row_step, row_from, row_of, element_of, tested_at}
use Rattle.rows.specs.declared.Tally.{Tally}
use Rattle.rows.specs.Rows.{Tested}

abbrev pub says : Tested → ℕ × ℕ
says r = (r.bad, r.off)

-- the tally after one configuration
abbrev after_one : Tally
after_one = record { counts = 0 ∷ 0 ∷ 1 ∷ 0 ∷ 0 ∷ 0 ∷ 0 ∷ 0 ∷ [] }

abbrev pub asked : List (List ℕ × ℕ × Tally)
asked =
    (50 ∷ [], 0, empty_tally)
    ∷ (50 ∷ 255 ∷ [], 0, empty_tally)
    ∷ (50 ∷ 0 ∷ [], 0, empty_tally)
    ∷ (51 ∷ 0 ∷ 51 ∷ 0 ∷ [], 0, empty_tally)
    ∷ (51 ∷ 0 ∷ 51 ∷ 0 ∷ [], 2, after_one)
    ∷ (51 ∷ 4 ∷ 2 ∷ 2 ∷ 0 ∷ 0 ∷ [], 0, empty_tally)
    ∷ (51 ∷ 4 ∷ 4 ∷ 2 ∷ 0 ∷ 0 ∷ [], 0, empty_tally)
    ∷ (99 ∷ 1 ∷ 0 ∷ [], 0, empty_tally)
    ∷ []

abbrev pub answers : List (ℕ × ℕ)
answers =
    (6, 0)
    ∷ (7, 0)
    ∷ (13, 0)
    ∷ (0, 0)
    ∷ (9, 2)
    ∷ (11, 2)
    ∷ (0, 0)
    ∷ (0, 0)
    ∷ []

pub starred : map (λ q. says (tested_at q.0 q.1 q.2)) asked ≡ answers
unfolding number_at head_at known_types child_of under placed type_of parent_in table line_at place_in known_at type_under missing_in lacks_must second_copy wrong_length no_channel bad_value is_full own_tests is_row row_end element_with row_step row_from row_of element_of tested_at
starred = refl
