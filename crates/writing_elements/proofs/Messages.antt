-- The message of a table (specs/Encode.antt): its parts, and how many bytes it has.
--
--   concat-map          elements one behind the other, by their entries
--   message_of_parts     the message is the configuration, the classifiers, the rules
--   length-message_of    it has at most 5,618 bytes
-- Trusts: nothing.
use Prim.Native.Nat.{ℕ, ◌≤◌}
use mathlib.Core.Path.{◌≡◌, refl, ap}
use mathlib.Core.List.{List, [], ◌∷◌, ◌++◌, map}
use native.Mathlib.Omega.{arith}
use lib.ListN.{length, length-append}
use Rattle.table.specs.Table.{rules_of, classifiers_of}
use Rattle.table.specs.declared.Table.{Table}
use Rattle.table.proofs.Laws.{length-classifiers_of_le, length-rules_of_le}
use Rattle.wire.specs.Bytes.{concat}
use Rattle.wire.proofs.Laws.{concat-append}
use Rattle.texts.specs.Text.{each}
use Rattle.writing_elements.specs.Encode.{rule_bytes, classifier_bytes, configuration_row, configured, elements_of, message_of}
use Rattle.writing_elements.proofs.Sizes.{each-most, rule-most, classifier-most, configured-most}

pub concat-map : {X : Type 0} (f : X → List ℕ) (xs : List X) → concat (map f xs) ≡ each f xs
unfolding concat each
concat-map f [] = refl
concat-map f (x ∷ xs) = ap (λ (l : List ℕ). f x ++ l) (concat-map f xs)

pub message_of_parts : (t : Table) → message_of t ≡ concat (configured (configuration_row t)) ++ (each classifier_bytes (classifiers_of t) ++ each rule_bytes (rules_of t))
unfolding message_of elements_of
message_of_parts t =
    rw (
      concat-append (configured (configuration_row t)) (map classifier_bytes (classifiers_of t) ++ map rule_bytes (rules_of t)),
      concat-append (map classifier_bytes (classifiers_of t)) (map rule_bytes (rules_of t)),
      concat-map classifier_bytes (classifiers_of t),
      concat-map rule_bytes (rules_of t),
    ) refl

pub length-message_of : (t : Table) → length (message_of t) ≤ 5618
length-message_of t =
    let a = concat (configured (configuration_row t)) in
    let b = each classifier_bytes (classifiers_of t) in
    let c = each rule_bytes (rules_of t) in
    omega (
      arith,
      ap length (message_of_parts t),
      length-append a (b ++ c),
      length-append b c,
      configured-most t,
      each-most classifier_bytes 37 classifier-most (classifiers_of t),
      length-classifiers_of_le t,
      each-most rule_bytes 132 rule-most (rules_of t),
      length-rules_of_le t,
    )
