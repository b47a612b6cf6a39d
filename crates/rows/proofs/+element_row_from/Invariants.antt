-- The cycle of calls {element, row_from}: a row's measure is its bytes, an element's its value's bytes and one. The loop of `row_from` keeps
-- that the row from `at` on, with what is counted, is the row from `from` on.
-- Trusts: nothing.
use Rattle.std.proofs.Common.{◌≡◌, ◌+◌, ◌≤◌, length, ◌-◌}
use Rattle.rows.specs.Tests.{none_counted}
use Rattle.rows.specs.Rows.{row_of}
use Rattle.rows.proofs.+element_row_from.Given as goal

abbrev pub decreases-element : goal.decreases-element
decreases-element l = l.len + 1

abbrev pub decreases-row_from : goal.decreases-row_from
decreases-row_from l = l.end - l.from

abbrev pub invariant-row_from-loop-counts : goal.invariant-row_from-loop-counts
invariant-row_from-loop-counts l = record {
  begun : l.from ≤ l.at;
  lists : length l.counts ≡ 8;
  rest : row_of l.message l.parent l.own l.at l.end l.counts ≡ row_of l.message l.parent l.own l.from l.end none_counted;
}

abbrev pub decreases-row_from-loop-counts : goal.decreases-row_from-loop-counts
decreases-row_from-loop-counts l = l.end - l.at
