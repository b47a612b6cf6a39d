-- READING BACK WHAT WAS WRITTEN GIVES THE SAME TABLE, for every table that reading can produce (document 02, Req 01).
--
--   table_so t qs rs    the table on the way: the configuration of t, the classifiers qs, the rules rs, every other place empty
--   length-message_of   a written message has at most 5,618 bytes
--   read_table_back     the theorem
-- Trusts: nothing.
use Prim.Native.Nat.{ℕ, ◌+◌, ◌<◌}
use mathlib.Core.Path.{◌≡◌, refl, sym, ap, subst, ◌∙◌}
use mathlib.Core.Bool.{false}
use mathlib.Core.List.{List, [], ◌∷◌, ◌++◌, map, append-nil}
use native.Mathlib.Omega.{arith}
use borrow.Author.Tests.{lt-ltb, le-ltb}
use lib.ListN.{length}
use Rattle.table.specs.Table.{rules_of, classifiers_of, empty_table, empty_rule, empty_classifier, padded}
use Rattle.table.specs.declared.Rule.{Rule}
use Rattle.table.specs.declared.Classifier.{Classifier}
use Rattle.table.specs.declared.Table.{Table}
use Rattle.table.proofs.Laws.{length-rules_of_le, length-classifiers_of_le}
use Rattle.table.proofs.Padded.{padded-more, take-padded}
use Rattle.configurations.specs.declared.Configuration.{Configuration}
use Rattle.listed.specs.Listed.{is_listed}
use Rattle.named.specs.Named.{lone_number}
use Rattle.rows.specs.Tests.{none_counted}
use Rattle.reader.specs.Take.{with_rule, with_classifier, with_configuration}
use Rattle.reader.specs.Read.{read_table}
use Rattle.reader.specs.Read.{Accepted}
use Rattle.reader.proofs.LawsRead.{read_ends, is_taken_rule, is_taken_classifier, is_taken_configuration, with_element-rule, with_element-classifier, with_element_configuration}
use Rattle.wire.specs.Bytes.{concat}
use Rattle.texts.specs.Text.{each}
use Rattle.writing_elements.specs.Encode.{element, configured, configuration_row, classifier_row, classifier_bytes, rule_row, rule_bytes, message_of}
use Rattle.writing_elements.proofs.Sizes.{rule_row-most, classifier_row-most, configuration_row-most}
use Rattle.writing_elements.proofs.Messages.{message_of_parts, length-message_of}
use Rattle.writing_elements.proofs.Stands.{Stands, stands_byte}
use Rattle.writing_laws.specs.Claims.{RuleGood, ClassifierGood, Producible}
use Rattle.writing_laws.proofs.Lists.{length_more}
use Rattle.writing_laws.proofs.Rule.{rule_back, rule-tested}
use Rattle.writing_laws.proofs.Classifier.{classifier_back, classifier-tested}
use Rattle.writing_laws.proofs.Configuration.{configuration_back, configuration_tested, configuration_empty}
use Rattle.writing_laws.proofs.Tops.{Tops, tops_none, tops_then, tops_element, tops_each}

-- ---- the table on the way

abbrev table_so : Table → List Classifier → List Rule → Table
table_so t qs rs =
    record { rulecount = length rs; classifiercount = length qs; channelcount = t.channelcount; timers = t.timers; channels = t.channels; classifiers = padded 32 empty_classifier qs; rules = padded 32 empty_rule rs }

abbrev counted : (a b c : ℕ) → List ℕ
counted a b c = a ∷ b ∷ c ∷ 0 ∷ 0 ∷ 0 ∷ 0 ∷ 0 ∷ []

-- whether the configuration is written
abbrev some : List ℕ → ℕ
some [] = 0
some (b ∷ bs) = 1

module _ (t : Table) (g : Producible t) (msg : List ℕ) where
  conf : (row : List ℕ) → configuration_row t ≡ row → Tops msg (concat (configured row)) none_counted empty_table (counted 0 0 (some row)) (table_so t [] [])
  unfolding concat padded
  conf [] e = subst (λ (c : Configuration). Tops msg [] none_counted empty_table (counted 0 0 0) (with_configuration c empty_table)) (sym (configuration_empty t g e)) (tops_none msg)
  conf (b ∷ bs) e =
      subst (λ (l : List ℕ). Tops msg l none_counted empty_table (counted 0 0 1) (table_so t [] [])) (sym (append-nil (element 51 (b ∷ bs))))
      (rw e at (tops_element msg 51 2 1 (configuration_row t) (omega (arith, configuration_row-most t)) (λ at s. configuration_tested t g msg at none_counted s refl)
      (λ at s. is_taken_configuration msg at empty_table (stands_byte s))
      (λ at s. sym (with_element_configuration msg at empty_table (stands_byte s) (sym (configuration_back t g msg at s))))))

  module _ (c : ℕ) where
    one_classifier : (xs : List Classifier) (x : Classifier) → length xs < 32 → ClassifierGood x → is_listed x.number (map (λ q. q.number) xs) ≡ false
        → Tops msg (classifier_bytes x) (counted (length xs) 0 c) (table_so t xs []) (counted (length xs + 1) 0 c) (table_so t (xs ++ (x ∷ [])) [])
    unfolding classifier_bytes with_classifier classifiers_of
    one_classifier xs x h p free =
        tops_element msg 23 0 (length xs + 1) (classifier_row x) (omega (arith, classifier_row-most x)) (λ at s. classifier-tested msg at x p s (counted (length xs) 0 c) h)
        (λ at s. sym (is_taken_classifier msg at (table_so t xs []) (stands_byte s) (sym (classifier_back msg at x p s)) refl)
        ∙ rw (take-padded 32 empty_classifier xs (omega arith)) free)
        (λ at s. sym (with_element-classifier msg at (table_so t xs []) (stands_byte s) (sym (classifier_back msg at x p s)))
        ∙ simp (lt-ltb (length xs) 32 h, padded-more 32 empty_classifier xs x h, length_more xs x))

    one_rule : (qs : List Classifier) (xs : List Rule) (x : Rule) → length xs < 32 → RuleGood x → is_listed x.number (map (λ q. q.number) xs) ≡ false
        → Tops msg (rule_bytes x) (counted (length qs) (length xs) c) (table_so t qs xs) (counted (length qs) (length xs + 1) c) (table_so t qs (xs ++ (x ∷ [])))
    unfolding rule_bytes with_rule rules_of
    one_rule qs xs x h p free =
        tops_element msg 50 1 (length xs + 1) (rule_row x) (omega (arith, rule_row-most x)) (λ at s. rule-tested msg at x p s (counted (length qs) (length xs) c) h)
        (λ at s. sym (is_taken_rule msg at (table_so t qs xs) (stands_byte s) (sym (rule_back msg at x p s)) refl)
        ∙ rw (take-padded 32 empty_rule xs (omega arith)) free)
        (λ at s. sym (with_element-rule msg at (table_so t qs xs) (stands_byte s) (sym (rule_back msg at x p s)))
        ∙ simp (lt-ltb (length xs) 32 h, padded-more 32 empty_rule xs x h, length_more xs x))

  whole : table_so t (classifiers_of t) (rules_of t) ≡ t
  whole = simp (← g.classifiers.array, ← g.rules.array, ← g.classifiers.count, ← g.rules.count)

  all : Tops msg (concat (configured (configuration_row t)) ++ (each classifier_bytes (classifiers_of t) ++ each rule_bytes (rules_of t))) none_counted empty_table
      (counted (length (classifiers_of t)) (length (rules_of t)) (some (configuration_row t))) (table_so t (classifiers_of t) (rules_of t))
  all =
      let c = some (configuration_row t) in
      tops_then msg _ _ (conf (configuration_row t) refl)
      (tops_then msg _ _
      (tops_each msg classifier_bytes ClassifierGood (λ q. q.number) 32 (λ k. counted k 0 c) (λ qs. table_so t qs []) (one_classifier c) [] (omega (arith, length-classifiers_of_le t)) g.classifierapart g.classifier)
      (tops_each msg rule_bytes RuleGood (λ q. q.number) 32 (λ k. counted (length (classifiers_of t)) k c) (λ rs. table_so t (classifiers_of t) rs) (one_rule c (classifiers_of t)) []
      (omega (arith, length-rules_of_le t)) g.ruleapart g.rule))

-- REQ 01: what was written reads back as the same table
pub read_table_back : (t : Table) → Producible t → (given : Table) → read_table given (message_of t) ≡ record { verdict = Accepted; table = t }
unfolding read_table lone_number
read_table_back t g given =
    let msg = message_of t in
    let parts = message_of_parts t in
    let s : Stands msg 0 (concat (configured (configuration_row t)) ++ (each classifier_bytes (classifiers_of t) ++ each rule_bytes (rules_of t))) =
    record { fits = omega (arith, ap length parts); rest = []; bytes = parts ∙ sym (append-nil _) } in
    rw (le-ltb 23952 (length msg) (omega (arith, length-message_of t)))
    ((all t g msg 0 s).goes given
    ∙ sym (read_ends msg _ _ given (table_so t (classifiers_of t) (rules_of t)) (omega (arith, ap length parts)))
    ∙ rw (whole t g msg) (simp g.answered))
