-- Laws of the tests of an entry, as the code makes them (specs/Entries.antt).
--
--   all_of_append      a joined list
--   or_cond           a place of a list of UCIDs: it is used, or it is 0
--   sound_rule_of, unused_rule_of    a rule, by what its three lists come to
-- Trusts: nothing.
use Prim.Native.Nat.{◌^◌}
use mathlib.Core.Path.{◌≡◌, refl, sym}
use mathlib.Core.Bool.{Bool, true, false, cond, not, ◌&&◌, ◌||◌, and_assoc, and-true}
use mathlib.Core.List.{List, [], ◌∷◌, ◌++◌}
use lib.Dec.{leb, ltb}
use lib.ListN.{length, drop}
use Rattle.table.specs.Table.{clients_of, numbers_of}
use Rattle.table.specs.declared.Rule.{Rule}
use Rattle.listed.proofs.Laws.{front-all}
use Rattle.writing_entries.specs.Entries.{all_of, list_fits, is_zero, sound_client, unused_client, sound_rule, unused_rule}

pub all_of_append : {A : Type 0} (test : A → Bool) (s t : List A) → all_of test (s ++ t) ≡ (all_of test s && all_of test t)
unfolding all_of
all_of_append test [] t = refl
all_of_append test (x ∷ s) t = rw (all_of_append test s t) (sym (and_assoc (test x) (all_of test s) (all_of test t)))

pub or_cond : (a b : Bool) → (a || b) ≡ cond a true b
or_cond true b = refl
or_cond false b = refl

module _ (q : Rule) {ucids clients numbers : Bool} where
  pub sound_rule_of : length q.clients ≡ 8 → length q.numbers ≡ 8 → ucids ≡ all_of is_zero (drop q.ucidcount q.ucids)
      → clients ≡ list_fits sound_client unused_client q.clientcount q.clients → numbers ≡ list_fits (λ m. not (is_zero m)) is_zero q.numbercount q.numbers
      → leb q.ucidcount 16 && (ucids && (leb q.clientcount 8 && (clients && (leb q.numbercount 8 && (numbers && ltb q.tunnel (256 ^ 6)))))) ≡ sound_rule q
  unfolding sound_rule clients_of numbers_of
  sound_rule_of k l e f g = simp (e, f, g, front-all q.clients 8 q.clientcount k, front-all q.numbers 8 q.numbercount l, and_assoc)

  pub unused_rule_of : ucids ≡ all_of is_zero (drop 0 q.ucids) → numbers ≡ list_fits (λ m. not (is_zero m)) is_zero 0 q.numbers → clients ≡ list_fits sound_client unused_client 0 q.clients
      → is_zero q.number && (is_zero q.priority && (is_zero q.ucidcount && (is_zero q.clientcount && (is_zero q.numbercount && (ucids && (numbers && (is_zero q.tunnel && clients)))))))
      ≡ unused_rule q
  unfolding unused_rule all_of
  unused_rule_of e f g = simp (e, f, g, and-true)
