-- Told: what the answers of the row reader and of the element reader say.
--
--   fault_of own r    what a row comes to, whose own type byte is at `own`: fine, or the refusal's number and its offset
--   fault_in s        the same of what an element comes to
--   tested_of at r    what a top-level element at `at` comes to: the place and the tally after it; and fine, or the refusal's number and offset
--
-- They tell answers apart: the laws `fault_of-only` and `tested_of-only` (proofs/Told.antt). Trusts: nothing.
use Rattle.std.specs.Prelude.{ℕ, Result, Ok, Err}
use Rattle.refusals.specs.Refusals.{number_of}
use Rattle.refusals.specs.declared.Fault.{Fault as Refused}
use Rattle.element_tests.specs.Tests.{Step}
use Rattle.rows.specs.Tests.{Fault}
use Rattle.rows.specs.Rows.{Tested}
use Rattle.rows.specs.declared.Next.{Next}
use Rattle.rows.specs.declared.Stopped.{Stopped}

unfoldable pub fault_of : ℕ → Result (Unit {0}) Refused → Fault
fault_of own (Ok u) = record { bad = 0; off = own }
fault_of own (Err f) = record { bad = number_of f.refusal; off = f.offset }

abbrev pub fault_in : Step → Fault
fault_in s = record { bad = s.bad; off = s.off }

unfoldable pub tested_of : ℕ → Result Next Stopped → Tested
tested_of at (Ok n) = record { bad = 0; off = at; next = n.place; tally = n.tally }
tested_of at (Err s) = record { bad = number_of s.fault.refusal; off = s.fault.offset; next = s.next.place; tally = s.next.tally }
