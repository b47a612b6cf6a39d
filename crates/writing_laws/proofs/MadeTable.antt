-- A table on the way to an accepted one, every list of which is good, and one element more (specs/Claims.antt).
--
--   Made t                                               what holds of it
--   made_empty                                           of the empty table
--   made_rule, made_classifier, made_configuration       with an element more
-- Trusts: nothing.
use Prim.Native.Nat.{◌+◌, ◌≤◌, ◌<◌}
use mathlib.Core.Path.{◌≡◌, refl}
use mathlib.Core.Bool.{Bool, true, false, cond}
use mathlib.Core.List.{List, [], ◌∷◌, ◌++◌}
use native.Mathlib.Omega.{arith}
use borrow.Author.Tests.{ltb-true}
use lib.ListN.{length, set}
use lib.Dec.{ltb}
use Rattle.table.specs.Table.{empty_table, empty_rule, empty_classifier, padded}
use Rattle.table.specs.declared.Rule.{Rule}
use Rattle.table.specs.declared.Classifier.{Classifier}
use Rattle.table.specs.declared.Table.{Table}
use Rattle.table.proofs.Padded.{padded-more}
use Rattle.configurations.specs.declared.Configuration.{Configuration}
use Rattle.reader.specs.Take.{with_rule, with_classifier, with_configuration}
use Rattle.writing_laws.specs.Claims.{All, none, RuleGood, ClassifierGood}
use Rattle.writing_laws.proofs.Lists.{length_more, all_more}
use Rattle.writing_laws.proofs.Configuration.{configuration_of}
use Rattle.writing_laws.proofs.MadeConfiguration.{ConfigurationMade, configuration_none}

pub record Made (t : Table) : Type 0 where
  pub qs : List Classifier
  pub rs : List Rule
  pub conf : ConfigurationMade (configuration_of t)
  pub classifiercount : t.classifiercount ≡ length qs
  pub classifiers : t.classifiers ≡ padded 32 empty_classifier qs
  pub classifierroom : length qs ≤ 32
  pub classifier : All ClassifierGood qs
  pub rulecount : t.rulecount ≡ length rs
  pub rules : t.rules ≡ padded 32 empty_rule rs
  pub ruleroom : length rs ≤ 32
  pub rule : All RuleGood rs

pub made_empty : Made empty_table
unfolding padded
made_empty =
    record { qs = []; rs = []; conf = configuration_none; classifiercount = refl; classifiers = refl; classifierroom = omega arith; classifier = none; rulecount = refl; rules = refl; ruleroom = omega arith; rule = none }

module _ {t : Table} (m : Made t) where
  pub made_rule : (q : Rule) → RuleGood q → Made (with_rule q t)
  unfolding with_rule
  made_rule q g = on (ltb t.rulecount 32) refl
    where
      pushed : t.rulecount < 32 → Made (record { rulecount = t.rulecount + 1; classifiercount = t.classifiercount; channelcount = t.channelcount; timers = t.timers; channels = t.channels; classifiers = t.classifiers; rules = set t.rules t.rulecount q })
      pushed h =
          record {
            qs = m.qs;
            rs = m.rs ++ (q ∷ []);
            conf = m.conf;
            classifiercount = m.classifiercount;
            classifiers = m.classifiers;
            classifierroom = m.classifierroom;
            classifier = m.classifier;
            rulecount = omega (arith, length_more m.rs q, m.rulecount);
            rules = rw (m.rules, m.rulecount) (padded-more 32 empty_rule m.rs q (omega (arith, m.rulecount)));
            ruleroom = omega (arith, length_more m.rs q, m.rulecount);
            rule = all_more m.rule g;
          }

      on : (b : Bool) → ltb t.rulecount 32 ≡ b
          → Made (cond b (record { rulecount = t.rulecount + 1; classifiercount = t.classifiercount; channelcount = t.channelcount; timers = t.timers; channels = t.channels; classifiers = t.classifiers; rules = set t.rules t.rulecount q }) t)
      on true e = pushed (ltb-true _ _ e)
      on false e = m

  pub made_classifier : (q : Classifier) → ClassifierGood q → Made (with_classifier q t)
  unfolding with_classifier
  made_classifier q g = on (ltb t.classifiercount 32) refl
    where
      pushed : t.classifiercount < 32
          → Made (record { rulecount = t.rulecount; classifiercount = t.classifiercount + 1; channelcount = t.channelcount; timers = t.timers; channels = t.channels; classifiers = set t.classifiers t.classifiercount q; rules = t.rules })
      pushed h =
          record {
            qs = m.qs ++ (q ∷ []);
            rs = m.rs;
            conf = m.conf;
            classifiercount = omega (arith, length_more m.qs q, m.classifiercount);
            classifiers = rw (m.classifiers, m.classifiercount) (padded-more 32 empty_classifier m.qs q (omega (arith, m.classifiercount)));
            classifierroom = omega (arith, length_more m.qs q, m.classifiercount);
            classifier = all_more m.classifier g;
            rulecount = m.rulecount;
            rules = m.rules;
            ruleroom = m.ruleroom;
            rule = m.rule;
          }

      on : (b : Bool) → ltb t.classifiercount 32 ≡ b
          → Made (cond b (record { rulecount = t.rulecount; classifiercount = t.classifiercount + 1; channelcount = t.channelcount; timers = t.timers; channels = t.channels; classifiers = set t.classifiers t.classifiercount q; rules = t.rules }) t)
      on true e = pushed (ltb-true _ _ e)
      on false e = m

  pub made_configuration : (q : Configuration) → ConfigurationMade q → Made (with_configuration q t)
  made_configuration q g =
      record { qs = m.qs; rs = m.rs; conf = g; classifiercount = m.classifiercount; classifiers = m.classifiers; classifierroom = m.classifierroom; classifier = m.classifier; rulecount = m.rulecount; rules = m.rules; ruleroom = m.ruleroom; rule = m.rule }
