-- What is written is whole elements (specs/Walks.antt of cuts), and so is every piece: the writer cuts between elements only.
--
--   elements_append     whole elements, one list behind another
--   elements_of-whole    every element that is written for a table is one
--   pieces_whole        every piece is whole elements
-- Trusts: nothing.
use Prim.Native.Nat.{ℕ, zero, suc, ◌≤◌, ◌<◌}
use mathlib.Core.Path.{sym, subst}
use mathlib.Core.List.{List, [], ◌∷◌, ◌++◌, map, append_assoc, append-nil}
use native.Mathlib.Omega.{arith}
use lib.ListN.{length, get_or}
use Rattle.cuts.specs.Walks.{Elements, none, more}
use Rattle.table.specs.Table.{rules_of, classifiers_of}
use Rattle.table.specs.declared.Rule.{Rule}
use Rattle.table.specs.declared.Classifier.{Classifier}
use Rattle.table.specs.declared.Table.{Table}
use Rattle.writing_cuts.specs.Pieces.{pieces_of}
use Rattle.writing_cuts.proofs.Pieces.{pieces_keep}
use Rattle.writing_elements.specs.Encode.{element, configured, configuration_row, classifier_row, classifier_bytes, rule_row, rule_bytes, elements_of}
use Rattle.writing_elements.proofs.Sizes.{rule_row-most, classifier_row-most, configuration_row-most}

pub elements_append : {a b : List ℕ} → Elements a → Elements b → Elements (a ++ b)
elements_append none q = q
elements_append {b = b} (more kind value rest short p) q =
    subst (λ (l : List ℕ). Elements (kind ∷ length value ∷ l)) (sym (append_assoc value rest b)) (more kind value (rest ++ b) short (elements_append p q))

one : (kind : ℕ) (v : List ℕ) → length v ≤ 254 → Elements (element kind v)
one kind v h = subst (λ (l : List ℕ). Elements (kind ∷ length v ∷ l)) (append-nil v) (more kind v [] h none)

-- every entry of a list of lists is whole elements
abbrev Each : List (List ℕ) → Type 0
Each es = (i : ℕ) → i < length es → Elements (get_or es i [])

each_append : (a b : List (List ℕ)) → Each a → Each b → Each (a ++ b)
each_append [] b p q i h = q i h
each_append (e ∷ a) b p q zero h = p 0 (omega arith)
each_append (e ∷ a) b p q (suc i) h = each_append a b (λ j k. p (suc j) (omega arith)) q i (omega arith)

each_map : {X : Type 0} (f : X → List ℕ) → ((x : X) → Elements (f x)) → (xs : List X) → Each (map f xs)
each_map f h [] i l = absurd (omega arith)
each_map f h (x ∷ xs) zero l = h x
each_map f h (x ∷ xs) (suc i) l = each_map f h xs i (omega arith)

each-configured : (row : List ℕ) → length row ≤ 254 → Each (configured row)
each-configured [] h i l = absurd (omega arith)
each-configured (b ∷ row) h zero l = one 51 (b ∷ row) h
each-configured (b ∷ row) h (suc i) l = absurd (omega arith)

rule-whole : (q : Rule) → Elements (rule_bytes q)
unfolding rule_bytes
rule-whole q = one 50 (rule_row q) (omega (arith, rule_row-most q))

classifier-whole : (q : Classifier) → Elements (classifier_bytes q)
unfolding classifier_bytes
classifier-whole q = one 23 (classifier_row q) (omega (arith, classifier_row-most q))

pub elements_of-whole : (t : Table) (i : ℕ) → i < length (elements_of t) → Elements (get_or (elements_of t) i [])
unfolding elements_of
elements_of-whole t =
    each_append (configured (configuration_row t)) (map classifier_bytes (classifiers_of t) ++ map rule_bytes (rules_of t)) (each-configured (configuration_row t) (omega (arith, configuration_row-most t)))
    (each_append (map classifier_bytes (classifiers_of t)) (map rule_bytes (rules_of t)) (each_map classifier_bytes classifier-whole (classifiers_of t)) (each_map rule_bytes rule-whole (rules_of t)))

pub pieces_whole : (t : Table) (k : ℕ) → k < length (pieces_of (elements_of t)) → Elements (get_or (pieces_of (elements_of t)) k [])
pieces_whole t = pieces_keep Elements (λ a b h p q. elements_append p q) (elements_of t) none (elements_of-whole t)
