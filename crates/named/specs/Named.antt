-- Named: the classifier numbers that rules name, and test 15 (document 01, "Refusal numbers").
--
--   Found                   what the search over a table finds: Nothing, or Number i j, that rule i's number j is the first that is not carried
--   Lone                    what test 15 says: every number is Answered, or the first 50.6 that is not stands At a place
--   classifier_numbers t    the numbers that the classifiers of t carry
--   unanswered t           the first number that a rule of t names and no classifier of t carries, as rule i, number j; or Nothing
--   named_place msg i j     where the j-th 50.6 of the i-th 50 stands (both counted from 0)
--   lone_number msg t       15: where the first number that is not carried stands, t being the table of the message; or Answered
--
-- A table that is not the message's has its numbers looked for at places that the message need not have: such a place is 0.
-- Tested by: proofs/Bench.antt of the crate reader.
-- Trusts: nothing.
use Rattle.std.specs.Prelude.{ℕ, ◌+◌, cond, List, [], ◌∷◌, map, length, get_or}
use Rattle.table.specs.Table.{rules_of, classifiers_of, numbers_of}
use Rattle.table.specs.declared.Rule.{Rule}
use Rattle.table.specs.declared.Table.{Table}
use Rattle.listed.specs.Listed.{is_listed}
use Rattle.children.specs.Rows.{row_in, row_inside, places_of}

pub data Found : Type 0 where
  Nothing : Found
  Number : ℕ → ℕ → Found

pub data Lone : Type 0 where
  Answered : Lone
  At : ℕ → Lone

abbrev pub classifier_numbers : Table → List ℕ
classifier_numbers t = map (λ q. q.number) (classifiers_of t)

-- of the numbers that rule i names, from its j-th on, the first that is not carried; else what `later` says
abbrev pub lone_in : List ℕ → ℕ → ℕ → List ℕ → Found → Found
lone_in carried i j [] later = later
lone_in carried i j (n ∷ ns) later = cond (is_listed n carried) (lone_in carried i (j + 1) ns later) (Number i j)

-- the same of the rules from the i-th on
abbrev pub lone_of : List ℕ → ℕ → List Rule → Found
lone_of carried i [] = Nothing
lone_of carried i (q ∷ qs) = lone_in carried i 0 (numbers_of q) (lone_of carried (i + 1) qs)

unfoldable pub unanswered : Table → Found
unanswered t = lone_of (classifier_numbers t) 0 (rules_of t)

unfoldable pub named_place : List ℕ → ℕ → ℕ → ℕ
named_place msg i j = get_or (places_of msg 6 (row_inside msg (get_or (places_of msg 50 (row_in msg 0 (length msg))) i 0))) j 0

-- where in the message what is found stands
abbrev pub placed : List ℕ → Found → Lone
placed msg Nothing = Answered
placed msg (Number i j) = At (named_place msg i j)

unfoldable pub lone_number : List ℕ → Table → Lone
lone_number msg t = placed msg (unanswered t)
