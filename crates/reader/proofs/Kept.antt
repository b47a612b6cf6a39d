-- What the top-level loop keeps besides the reading itself: the numbers of the rules and of the classifiers so far, and the room of the table.
--
--   Kept ruleids classifierids t   the first of each list are the numbers in t; every list has its length
--   kept_empty, kept_rule, kept_classifier, kept_configuration   it holds at the start and after each element
--   pushed_rule, pushed_classifier   the table with a rule, a classifier, stored at a place; with_rule_pushed, -full, .. say when it is what is left
-- Trusts: nothing.
use Prim.Native.Nat.{ℕ, ◌+◌, ◌≤◌, ◌<◌}
use mathlib.Core.Path.{◌≡◌, refl, ◌∙◌}
use mathlib.Core.List.{List}
use native.Mathlib.Omega.{arith}
use borrow.Author.Tests.{lt-ltb, le-ltb}
use lib.ListN.{length, take, set, replicate, length-set}
use Rattle.table.specs.Table.{limited_to, rules_of, classifiers_of, empty_table}
use Rattle.table.specs.declared.Rule.{Rule}
use Rattle.table.specs.declared.Classifier.{Classifier}
use Rattle.table.specs.declared.Table.{Table}
use Rattle.configurations.specs.declared.Configuration.{Configuration}
use Rattle.named.specs.Named.{classifier_numbers}
use Rattle.reader.specs.Take.{with_rule, with_classifier, with_configuration, rule_numbers}
use Rattle.reader.proofs.Lists.{front-more}

pub record Kept (ruleids classifierids : List ℕ) (t : Table) : Type 0 where
  pub rules : t.rulecount ≤ 32
  pub classifiers : t.classifiercount ≤ 32
  pub ruleroom : length t.rules ≡ 32
  pub classifierroom : length t.classifiers ≡ 32
  pub ruleidroom : length ruleids ≡ 32
  pub classifieridroom : length classifierids ≡ 32
  pub ruled : take t.rulecount ruleids ≡ rule_numbers t
  pub classified : take t.classifiercount classifierids ≡ classifier_numbers t

pub limited_same : (limit n : ℕ) → n ≤ limit → limited_to limit n ≡ n
limited_same limit n h = simp (le-ltb limit n h)

-- the rule as it goes to a place, and the classifier
abbrev pub pushed_rule : ℕ → Rule → Table → Table
pushed_rule at q t =
    record {
      rulecount = t.rulecount + 1;
      classifiercount = t.classifiercount;
      channelcount = t.channelcount;
      timers = t.timers;
      channels = t.channels;
      classifiers = t.classifiers;
      rules = set t.rules at q;
    }

abbrev pub pushed_classifier : ℕ → Classifier → Table → Table
pushed_classifier at q t =
    record {
      rulecount = t.rulecount;
      classifiercount = t.classifiercount + 1;
      channelcount = t.channelcount;
      timers = t.timers;
      channels = t.channels;
      classifiers = set t.classifiers at q;
      rules = t.rules;
    }

module _ (q : Rule) (t : Table) where
  pub with_rule_pushed : {at : ℕ} → at ≡ t.rulecount → at < 32 → pushed_rule at q t ≡ with_rule q t
  unfolding with_rule
  with_rule_pushed e h = simp (e, lt-ltb t.rulecount 32 (omega arith))

  pub with_rule-full : 32 ≤ t.rulecount → t ≡ with_rule q t
  unfolding with_rule
  with_rule-full h = simp (le-ltb t.rulecount 32 h)

module _ (q : Classifier) (t : Table) where
  pub with_classifier_pushed : {at : ℕ} → at ≡ t.classifiercount → at < 32 → pushed_classifier at q t ≡ with_classifier q t
  unfolding with_classifier
  with_classifier_pushed e h = simp (e, lt-ltb t.classifiercount 32 (omega arith))

  pub with_classifier-full : 32 ≤ t.classifiercount → t ≡ with_classifier q t
  unfolding with_classifier
  with_classifier-full h = simp (le-ltb t.classifiercount 32 h)

pub kept_empty : Kept (replicate 32 0) (replicate 32 0) empty_table
unfolding rules_of classifiers_of
kept_empty =
    record {
      rules = omega arith;
      classifiers = omega arith;
      ruleroom = refl;
      classifierroom = refl;
      ruleidroom = refl;
      classifieridroom = refl;
      ruled = refl;
      classified = refl;
    }

module _ {a b : List ℕ} {t : Table} (k : Kept a b t) where
  pub kept_rule : (q : Rule) {at : ℕ} → at ≡ t.rulecount → at < 32 → {ids : List ℕ} → ids ≡ set a t.rulecount q.number
      → Kept ids b (pushed_rule at q t)
  unfolding rules_of classifiers_of
  kept_rule q f h e =
      rw (f, e)
      record {
        rules = omega arith;
        classifiers = k.classifiers;
        ruleroom = simp length-set k.ruleroom;
        classifierroom = k.classifierroom;
        ruleidroom = simp length-set k.ruleidroom;
        classifieridroom = k.classifieridroom;
        ruled =
            front-more (λ (x : Rule). x.number) t.rules a t.rulecount q (omega arith) (omega arith)
            (k.ruled ∙ simp (limited_same 32 t.rulecount k.rules))
            ∙ simp (limited_same 32 (t.rulecount + 1) (omega arith));
        classified = k.classified;
      }

  pub kept_classifier : (q : Classifier) {at : ℕ} → at ≡ t.classifiercount → at < 32 → {ids : List ℕ} → ids ≡ set b t.classifiercount q.number
      → Kept a ids (pushed_classifier at q t)
  unfolding rules_of classifiers_of
  kept_classifier q f h e =
      rw (f, e)
      record {
        rules = k.rules;
        classifiers = omega arith;
        ruleroom = k.ruleroom;
        classifierroom = simp length-set k.classifierroom;
        ruleidroom = k.ruleidroom;
        classifieridroom = simp length-set k.classifieridroom;
        ruled = k.ruled;
        classified =
            front-more (λ (x : Classifier). x.number) t.classifiers b t.classifiercount q (omega arith) (omega arith)
            (k.classified ∙ simp (limited_same 32 t.classifiercount k.classifiers))
            ∙ simp (limited_same 32 (t.classifiercount + 1) (omega arith));
      }

  pub kept_configuration : (q : Configuration) → Kept a b (with_configuration q t)
  unfolding rules_of classifiers_of
  kept_configuration q =
      record {
        rules = k.rules;
        classifiers = k.classifiers;
        ruleroom = k.ruleroom;
        classifierroom = k.classifierroom;
        ruleidroom = k.ruleidroom;
        classifieridroom = k.classifieridroom;
        ruled = k.ruled;
        classified = k.classified;
      }
