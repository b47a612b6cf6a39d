-- Every element that is written for a table has 1 to 256 bytes (specs/Encode.antt of writing_elements).
--
--   elements_of_sized     the claim                     sized_append, sized_map     lists joined and made entry by entry
-- Trusts: nothing.
use Prim.Native.Nat.{ℕ, ◌≤◌}
use mathlib.Core.List.{List, [], ◌∷◌, ◌++◌, map}
use native.Mathlib.Omega.{arith}
use lib.ListN.{length}
use Rattle.table.specs.Table.{rules_of, classifiers_of}
use Rattle.table.specs.declared.Rule.{Rule}
use Rattle.table.specs.declared.Classifier.{Classifier}
use Rattle.table.specs.declared.Table.{Table}
use Rattle.writing_cuts.specs.Pieces.{ElementSized, none, more}
use Rattle.writing_elements.specs.Encode.{element, configured, configuration_row, classifier_bytes, rule_bytes, elements_of}
use Rattle.writing_elements.proofs.Sizes.{rule-most, classifier-most, configuration_row-most}

pub sized_append : {a b : List (List ℕ)} → ElementSized a → ElementSized b → ElementSized (a ++ b)
sized_append none q = q
sized_append (more l u p) q = more l u (sized_append p q)

pub sized_map : {X : Type 0} (f : X → List ℕ) → ((x : X) → 1 ≤ length (f x)) → ((x : X) → length (f x) ≤ 256) → (xs : List X) → ElementSized (map f xs)
sized_map f l u [] = none
sized_map f l u (x ∷ xs) = more {e = f x} (l x) (u x) (sized_map f l u xs)

sized_configured : (row : List ℕ) → length row ≤ 254 → ElementSized (configured row)
sized_configured [] h = none
sized_configured (b ∷ row) h = more {e = element 51 (b ∷ row)} (omega arith) (omega arith) none

rule_least : (q : Rule) → 1 ≤ length (rule_bytes q)
unfolding rule_bytes
rule_least q = omega arith

classifier_least : (q : Classifier) → 1 ≤ length (classifier_bytes q)
unfolding classifier_bytes
classifier_least q = omega arith

pub elements_of_sized : (t : Table) → ElementSized (elements_of t)
unfolding elements_of
elements_of_sized t =
    sized_append (sized_configured (configuration_row t) (omega (arith, configuration_row-most t)))
    (sized_append (sized_map classifier_bytes classifier_least (λ q. omega (arith, classifier-most q)) (classifiers_of t))
    (sized_map rule_bytes rule_least (λ q. omega (arith, rule-most q)) (rules_of t)))
