-- Lists: what refusal 19 asks of the rules and of the classifiers of a lent table (document 02, Req 01).
--
--   rules_fit n l, classifiers_fit n l    the first n places of an array hold entries that a message could have given, no two with one
--                                       number; the others are unused
--
-- Tested by: each field of accepted tables changed, and random tables against the other program, in host/.
-- Trusts: nothing.
use Rattle.std.specs.Prelude.{ℕ, Bool, ◌&&◌, List, map, take}
use Rattle.table.specs.declared.Rule.{Rule}
use Rattle.table.specs.declared.Classifier.{Classifier}
use Rattle.listed.specs.Listed.{is_distinct}
use Rattle.writing_entries.specs.Entries.{list_fits, sound_rule, unused_rule, sound_classifier, unused_classifier}

unfoldable pub rules_fit : ℕ → List Rule → Bool
rules_fit n l = list_fits sound_rule unused_rule n l && is_distinct (map (λ q. q.number) (take n l))

unfoldable pub classifiers_fit : ℕ → List Classifier → Bool
classifiers_fit n l = list_fits sound_classifier unused_classifier n l && is_distinct (map (λ q. q.number) (take n l))
