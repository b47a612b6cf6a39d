-- Only: the answer as numbers (specs/Writing.antt, as_written) tells the writer's answers apart.
--
--   as_written-only     two answers of the same numbers are the same
-- Trusts: nothing.
use Rattle.std.proofs.Common.{◌≡◌, ap, sym}
use Rattle.std.specs.Prelude.{Result, Ok, Err}
use Rattle.refusals.specs.declared.Refusal.{Refusal}
use Rattle.refusals.proofs.Only.{number_of-only, number_of-some}
use Rattle.writing_table.specs.declared.Written.{Written as Bodies}
use Rattle.writing_table.specs.Writing.{Written, as_written}

pub as_written-only : (a b : Result Bodies Refusal) → as_written a ≡ as_written b → a ≡ b
as_written-only (Ok v) (Ok w) e = ap (λ (x : Written). Ok (record { number = x.number; lengths = x.lengths })) e
as_written-only (Ok v) (Err q) e = absurd (number_of-some q (sym (ap (λ (x : Written). x.refused) e)))
as_written-only (Err r) (Ok w) e = absurd (number_of-some r (ap (λ (x : Written). x.refused) e))
as_written-only (Err r) (Err q) e = ap Err (number_of-only r q (ap (λ (x : Written). x.refused) e))
