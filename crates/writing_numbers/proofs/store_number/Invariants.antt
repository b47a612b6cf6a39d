-- `writing_numbers::store_number` stores a number from its last byte to its first (`Stored`).
-- Trusts: nothing.
use Rattle.writing_numbers.proofs.Stored.{Stored}
use Rattle.writing_numbers.proofs.store_number.Given as goal

abbrev pub invariant-loop-k : goal.invariant-loop-k
invariant-loop-k l = Stored l.width l.n l.initial.out l.at l.out l.rest l.k
