-- Wrong programs, refuted over any function that meets the promise of read_table.
--
--   no_refuse-all     one that refuses every message          no_accept-all   one that accepts every message
--   no_given_kept     one whose accepted table follows the lent one
-- Trusts: nothing.
use mathlib.Core.Path.{◌≡◌, sym, ap, ◌∙◌}
use mathlib.Core.List.{List, [], ◌∷◌}
use Prim.Native.Nat.{ℕ}
use native.Mathlib.Omega.{arith}
use Rattle.table.specs.Table.{rules_of, empty_table}
use Rattle.table.specs.declared.Table.{Table}
use Rattle.elements.specs.Elements.{head_at}
use Rattle.children.specs.Rows.{row_from, row_in}
use Rattle.named.specs.Named.{unanswered, lone_number}
use Rattle.reader.specs.Read.{number_of, read_table}
use Rattle.reader.specs.Read.{Reading}

-- another table than the empty one
abbrev other : Table
other =
    record {
      rulecount = 1;
      classifiercount = empty_table.classifiercount;
      channelcount = empty_table.channelcount;
      timers = empty_table.timers;
      channels = empty_table.channels;
      classifiers = empty_table.classifiers;
      rules = empty_table.rules;
    }

module _ (read : Table → List ℕ → Reading) (promise : (given : Table) (msg : List ℕ) → read given msg ≡ read_table given msg) where
  pub no_refuse-all : ((given : Table) (msg : List ℕ) → number_of (read given msg).verdict ≡ 0 → ⊥) → ⊥
  unfolding rules_of head_at row_from row_in unanswered lone_number read_table
  no_refuse-all all = all empty_table [] (ap (λ (r : Reading). number_of r.verdict) (promise empty_table []))

  pub no_accept-all : ((given : Table) (msg : List ℕ) → number_of (read given msg).verdict ≡ 0) → ⊥
  unfolding head_at row_from row_in read_table
  no_accept-all all =
      let z : ◌≡◌ {A = ℕ} 6 0 = sym (ap (λ (r : Reading). number_of r.verdict) (promise empty_table (50 ∷ []))) ∙ all empty_table (50 ∷ []) in
      omega arith

  pub no_given_kept : ((given : Table) (msg : List ℕ) → (read given msg).table.rulecount ≡ given.rulecount) → ⊥
  unfolding rules_of head_at row_from row_in unanswered lone_number read_table
  no_given_kept all =
      let z : ◌≡◌ {A = ℕ} 0 1 = sym (ap (λ (r : Reading). r.table.rulecount) (promise other [])) ∙ all other [] in
      omega arith
