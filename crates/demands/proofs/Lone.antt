-- Lone: refusal 15 stands at the first 50.6 in byte order that no classifier answers (document 01, "Refusal numbers").
--
--   rule_places msg            where the top-level 50s stand; named_places msg p, of LawsStand, is where the 50.6 of the 50 at p stand
--   is_carried msg at          whether a top-level 23, a classifier of the message, carries the number of the 50.6 at `at`
--   FirstUnanswered msg off   at `off` stands a 50.6 of a top-level 50 and no classifier carries its number; of every 50.6 at a smaller
--                             offset, in whatever top-level 50, a classifier carries the number
--   read_table-first           a message that is refused with 15 at `off`: off is this place
--   lonely_refused            there is such a message
--
-- The definition goes by two indices, the rule's and the number's. That they stand in byte order is LawsOrder and LawsNumbers; that no 50.6 is
-- missing there, and no 23, is LawsRoom; what the search finds is LawsSearch; that what is counted earlier stands at a smaller offset is LawsAscend.
-- Trusts: nothing.
use Prim.Native.Nat.{ℕ, ◌-◌, ◌<◌}
use mathlib.Core.Path.{◌≡◌, refl, sym, ap, subst, ◌∙◌}
use mathlib.Core.Bool.{Bool, true, false}
use mathlib.Core.List.{List, [], ◌∷◌, map, Memᴰ}
use native.Mathlib.Omega.{arith}
use lib.ListN.{length, get_or, take, length-map}
use lib.Seq.{take_all}
use Rattle.numbers.specs.Numbers.{number_at}
use Rattle.wire.specs.Bytes.{pasted}
use Rattle.elements.specs.Elements.{head_at}
use Rattle.types.specs.Types.{known_types}
use Rattle.types.specs.Places.{child_of, under, placed, type_of, parent_in, table, line_at, place_in, known_at, type_under}
use Rattle.musts.specs.Musts.{missing_in, lacks_must}
use Rattle.table.specs.Table.{rules_of, classifiers_of, numbers_of, empty_table}
use Rattle.table.specs.declared.Classifier.{Classifier}
use Rattle.table.specs.declared.Table.{Table}
use Rattle.children.specs.Rows.{done, item, row_from, row_in, row_inside, places_of}
use Rattle.clients.specs.Clients.{with_client, client_at, with_client_child, clients_in}
use Rattle.rules.specs.Rules.{with_named, with_rule_child, rule_at}
use Rattle.classifiers.specs.Classifiers.{classifier_at}
use Rattle.element_tests.specs.Tests.{second_copy, wrong_length, no_channel, bad_value, is_full, own_tests}
use Rattle.rows.specs.Tests.{is_row, row_end, none_counted, empty_tally}
use Rattle.rows.specs.Rows as rows
use Rattle.rows.specs.Rows.{element_with, row_step, row_of, element_of, tested_at}
use Rattle.listed.specs.Listed.{is_listed}
use Rattle.named.specs.Named.{Number, classifier_numbers, unanswered, named_place, lone_number}
use Rattle.reader.specs.Take.{with_rule, with_element, table_of, is_taken}
use Rattle.reader.specs.Read.{read_table}
use Rattle.reader.specs.Read.{Refused}
use Rattle.demands.proofs.LawsOrder.{rules_of_table_of, classifiers_of_table_of}
use Rattle.demands.proofs.LawsAscend.{Apart, places_apart}
use Rattle.demands.proofs.LawsSearch.{FirstLone, unanswered-first}
use Rattle.demands.proofs.LawsStand.{named_places, named, rule_among, number-inside, number_lone, all-before}
use Rattle.demands.proofs.LawsReached.{Reached, message-reached}

abbrev pub rule_places : List ℕ → List ℕ
rule_places msg = places_of msg 50 (row_in msg 0 (length msg))

-- the numbers of the message's classifiers
abbrev pub carried_numbers : List ℕ → List ℕ
carried_numbers msg = map (λ p. (classifier_at msg p).number) (places_of msg 23 (row_in msg 0 (length msg)))

abbrev pub is_carried : List ℕ → ℕ → Bool
is_carried msg at = is_listed (named msg at) (carried_numbers msg)

pub record FirstUnanswered (msg : List ℕ) (off : ℕ) : Type 0 where
  pub rule : ℕ
  pub among : Memᴰ rule (rule_places msg)
  pub inside : Memᴰ off (named_places msg rule)
  pub lone : is_carried msg off ≡ false
  pub before : (p at : ℕ) → Memᴰ p (rule_places msg) → Memᴰ at (named_places msg p) → at < off → is_carried msg at ≡ true

map-map : {A B C : Type 0} (f : A → B) (g : B → C) (l : List A) → map g (map f l) ≡ map (λ a. g (f a)) l
map-map f g [] = refl
map-map f g (x ∷ l) = ap (λ m. g (f x) ∷ m) (map-map f g l)

module _ (msg : List ℕ) (off : ℕ) (r : Reached msg off (row_in msg 0 (length msg)) none_counted empty_table) where
  abbrev carried : List ℕ
  carried = carried_numbers msg

  abbrev classifiers : List Classifier
  classifiers = map (classifier_at msg) (places_of msg 23 (row_in msg 0 (length msg)))

  all_carried : classifier_numbers (table_of msg) ≡ carried
  all_carried =
      let s = length-map (places_of msg 23 (row_in msg 0 (length msg))) (classifier_at msg) in
      let fits = r.classifiers refl (omega arith) in
      ap (λ l. map (λ (q : Classifier). q.number) l) (classifiers_of_table_of msg ∙ take_all 32 classifiers (omega arith))
      ∙ map-map (classifier_at msg) (λ (q : Classifier). q.number) (places_of msg 23 (row_in msg 0 (length msg)))

  searched : unanswered (table_of msg) ≡ Number r.i r.j
  unfolding table_of
  searched = r.found

  table-first : FirstLone carried (take 32 (map (rule_at msg) (rule_places msg))) r.i r.j
  table-first =
      subst (λ c. FirstLone c (take 32 (map (rule_at msg) (rule_places msg))) r.i r.j) all_carried
      (subst (λ l. FirstLone (classifier_numbers (table_of msg)) l r.i r.j) (rules_of_table_of msg) (unanswered-first (table_of msg) r.i r.j searched))

  all_apart : Apart msg (rule_places msg)
  unfolding row_in
  all_apart = places_apart msg (length msg - 0) 0

  stands : off ≡ get_or (named_places msg (get_or (rule_places msg) r.i 0)) r.j 0
  unfolding named_place
  stands = r.place

  first-unanswered : FirstUnanswered msg off
  first-unanswered =
      subst (λ o. FirstUnanswered msg o) (sym stands)
      (record {
        rule = get_or (rule_places msg) r.i 0;
        among = rule_among msg carried (rule_places msg) r.i r.j table-first;
        inside = number-inside msg carried (rule_places msg) r.i r.j table-first;
        lone = number_lone msg carried (rule_places msg) r.i r.j table-first;
        before = all-before msg carried (rule_places msg) r.i r.j table-first all_apart r.room;
      })

pub read_table-first : (given : Table) (msg : List ℕ) (off : ℕ) → (read_table given msg).verdict ≡ Refused 15 off → FirstUnanswered msg off
read_table-first given msg off x = first-unanswered msg off (message-reached given msg off x)

-- ---- such a message: one rule, whose only 50.6 stands at 19 and names 9, and no classifier

abbrev lonely : List ℕ
lonely =
    0x32 ∷ 21 ∷ 1 ∷ 1 ∷ 5 ∷ 4 ∷ 4 ∷ 4 ∷ 2 ∷ 0 ∷ 42 ∷ 5 ∷ 6 ∷ 1 ∷ 0 ∷ 0x5E ∷ 5 ∷ 5 ∷ 5 ∷ 6 ∷ 2 ∷ 0 ∷ 9 ∷ []

row_lonely : row_in lonely 0 23 ≡ item 0 21 done
unfolding row_from row_in head_at
row_lonely = refl

tested_lonely : (tested_at lonely 0 empty_tally).bad ≡ 0
unfolding number_at head_at known_types child_of under placed type_of parent_in table line_at place_in known_at type_under missing_in lacks_must second_copy wrong_length no_channel bad_value is_full own_tests is_row row_end element_with row_step rows.row_from row_of element_of tested_at
tested_lonely = refl

free_lonely : is_taken lonely 0 empty_table ≡ false
unfolding is_taken rules_of number_at pasted head_at row_from row_in row_inside with_client client_at with_client_child clients_in with_named with_rule_child rule_at
free_lonely = refl

lone_lonely : unanswered (with_element lonely 0 empty_table) ≡ Number 0 0
unfolding unanswered rules_of numbers_of classifiers_of number_at pasted head_at row_from row_in row_inside with_client client_at with_client_child clients_in with_named with_rule_child rule_at with_rule with_element
lone_lonely = refl

place_lonely : named_place lonely 0 0 ≡ 19
unfolding named_place head_at row_from row_in row_inside
place_lonely = refl

pub lonely_refused : (given : Table) → (read_table given lonely).verdict ≡ Refused 15 19
unfolding read_table lone_number
lonely_refused given = rw (row_lonely, tested_lonely, free_lonely, lone_lonely, place_lonely) refl
