-- `named::first_unanswered` gives unanswered. The two labelled loops keep that the search from where they stand answers for the whole, and
-- that nothing is found so far; the loop over the classifiers keeps that its number is carried by those from the k-th on if it is carried at all.
-- Trusts: nothing.
use Prim.Native.Nat.{◌+◌}
use mathlib.Core.Path.{◌≡◌}
use lib.ListN.{drop}
use Rattle.std.proofs.Common.{None}
use Rattle.table.specs.Table.{rules_of, numbers_of}
use Rattle.listed.specs.Listed.{is_listed}
use Rattle.named.specs.Named.{classifier_numbers, lone_in, lone_of, unanswered}
use Rattle.named.proofs.LawsLone.{carried_from}
use Rattle.named.proofs.first_unanswered.Given as goal

abbrev pub invariant-loop-k : goal.invariant-loop-k
invariant-loop-k l = is_listed l.number (carried_from l.table l.k) ≡ is_listed l.number (classifier_numbers l.table)

abbrev pub invariant-number : goal.invariant-number
invariant-number l =
    let later = lone_of (classifier_numbers l.table) (l.i + 1) (drop (l.i + 1) (rules_of l.table)) in
    record {
      none : l.found ≡ None;
      rest : lone_in (classifier_numbers l.table) l.i l.j (drop l.j (numbers_of l.rule)) later ≡ unanswered l.table;
    }

abbrev pub invariant-search : goal.invariant-search
invariant-search l = record {
  none : l.found ≡ None;
  rest : lone_of (classifier_numbers l.table) l.i (drop l.i (rules_of l.table)) ≡ unanswered l.table;
}
