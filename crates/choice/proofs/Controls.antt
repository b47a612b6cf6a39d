-- Wrong programs that the promise of `choose_rule` excludes (specs/Choose.antt).
--
--   no_one_rule       a function that meets the promise does not give every client the same answer
--   no_text_order     nor does it compare priorities as text: application 42 of message M does not get rule 6
-- Trusts: nothing.
use mathlib.Core.Path.{◌≡◌, sym, ◌∙◌}
use Prim.Native.Nat.{ℕ}
use native.Mathlib.Omega.{arith}
use Rattle.table.specs.declared.Client.{Client}
use Rattle.table.specs.declared.Table.{Table}
use Rattle.std.specs.Prelude.{None}
use Rattle.choice.specs.Chose.{Choice, Chosen, Refused}
use Rattle.choice.specs.Choose.{Ucid, choice_of}
use Rattle.choice.proofs.Bench.{application42, table_m, starred, unlisted}

module _ (choose : Table → Client → Ucid → Choice) (promise : (t : Table) (c : Client) (u : Ucid) → choose t c u ≡ choice_of t c u) where
  pub no_one_rule : ((t : Table) (c d : Client) (u : Ucid) → choose t c u ≡ choose t d u) → ⊥
  no_one_rule same =
      let listed : Client = application42 in
      let other : Client = record { kind = 3; value = 42 } in
      let a : Chosen 0 ≡ Refused 17 = sym (starred None).0 ∙ sym (promise table_m listed None) ∙ same table_m listed other None ∙ promise table_m other None ∙ unlisted None in
      let z : ◌≡◌ {A = ℕ} 0 1 = cc in
      omega arith

  pub no_text_order : choose table_m application42 None ≡ Chosen 1 → ⊥
  no_text_order e =
      let a : Chosen 0 ≡ Chosen 1 = sym (starred None).0 ∙ sym (promise table_m application42 None) ∙ e in
      let z : ◌≡◌ {A = ℕ} 0 1 = cc in
      omega arith
