-- `tunnel::judge_rule` gives `rule_verdict`: the address, no classifier named, the matching one.
-- Trusts: nothing.
use borrow.Author.Rules.{rules}
use borrow.Author.Tests.{eq-eqb, ne_eqb, lt-ltb, le-ltb}
use Prim.Native.Nat.{ℕ, ◌<◌}
use mathlib.Core.Path.{◌≡◌, sym, ap, ◌∙◌}
use native.Mathlib.Omega.{arith}
use lib.ListN.{length, length-take, get_or}
use Rattle.table.proofs.Laws.{limited_to_le, length_mapped, length-classifiers_of}
use Rattle.table.specs.declared.Classifier.{Classifier}
use Rattle.table.specs.declared.Table.{Table}
use Rattle.table.specs.Table.{limited_to, classifiers_of, empty_classifier}
use Rattle.choice.proofs.Laws.{taken_at}
use Rattle.payloads.specs.Judged.{judged, Forward}
use Rattle.packets.specs.Packets.{address_at}
use Rattle.std.specs.Prelude.{Some}
use Rattle.order.specs.Best.{within}
use Rattle.order.proofs.Places.{within_some, within_none}
use Rattle.tunnel.specs.Judge.{rule_verdict}
use Rattle.tunnel.proofs.judge_rule.Goals as goal

pub returns-then-number6-rule : goal.returns-then-number6-rule
unfolding rule_verdict address_at judged
returns-then-number6-rule c = simp (← c.number6.ensures, ne_eqb _ _ c.if-number6-rule.true)

pub returns-then-rule-eq0 : goal.returns-then-rule-eq0
unfolding rule_verdict address_at judged
returns-then-rule-eq0 c = simp (← c.number6.ensures, eq-eqb _ _ c.if-number6-rule.false, eq-eqb _ _ c.if-rule-eq0.true)

-- a place that was found is one of the array
found_below : (t : Table) (k j : ℕ) → Some j ≡ within (length (classifiers_of t)) k → j < 32
unfolding classifiers_of
found_below t k j e =
    let n = limited_to 32 t.classifiercount in
    omega (arith, (within_some (length (classifiers_of t)) k j e).1, length-take n t.classifiers, limited_to_le 32 t.classifiercount)

-- and its element is that of the list
found_there : (t : Table) (k j : ℕ) (d : Classifier) → length t.classifiers ≡ 32 → Some j ≡ within (length (classifiers_of t)) k
    → get_or t.classifiers j d ≡ get_or (classifiers_of t) j empty_classifier
unfolding classifiers_of
found_there t k j d l e =
    let few = limited_to_le 32 t.classifiercount in
    let h : j < limited_to 32 t.classifiercount = rw (← length-classifiers_of t l) (within_some (length (classifiers_of t)) k j e).1 in
    taken_at t.classifiers (limited_to 32 t.classifiercount) j d empty_classifier h (omega arith)

pub offset_bounds-table-place : goal.offset_bounds-table-place
offset_bounds-table-place c = let h = found_below c.args.table.now _ _ (sym c.in-Some.is ∙ c.match_place.ensures) in omega arith

pub bounds-table-place : goal.bounds-table-place
bounds-table-place c = found_below c.args.table.now _ _ (sym c.in-Some.is ∙ c.match_place.ensures)

pub returns-in-None : goal.returns-in-None
unfolding rule_verdict address_at judged
returns-in-None c =
    let e = sym c.in-None.is ∙ c.match_place.ensures in
    simp (← c.number6.ensures, eq-eqb _ _ c.if-number6-rule.false, ne_eqb _ _ c.if-rule-eq0.false, le-ltb _ _ (within_none _ _ e))

pub returns-in-Some : goal.returns-in-Some
unfolding rule_verdict address_at judged
returns-in-Some c =
    let t = c.args.table.now in
    let l : length t.classifiers ≡ 32 = search (rules, length_mapped) in
    let e = sym c.in-Some.is ∙ c.match_place.ensures in
    let there = within_some _ _ _ e in
    simp (← c.number6.ensures, eq-eqb _ _ c.if-number6-rule.false, ne_eqb _ _ c.if-rule-eq0.false, there.0, lt-ltb _ _ there.1)
    (ap (λ (cl : Classifier). Forward cl.number) (found_there t _ _ _ l e))
