-- Stepped: what an answer of `own_tests` says that an element comes to.
--
--   step_of at list count r   the answer r of the element at `at`, of whose list `count` elements stand before it: the count after it,
--                             or a refusal with its number, which leaves the count
--
-- It tells answers apart: the law `step_of-only` (proofs/Stepped.antt). Trusts: nothing.
use Rattle.std.specs.Prelude.{ℕ, Result, Ok, Err}
use Rattle.refusals.specs.declared.Refusal.{Refusal}
use Rattle.refusals.specs.Refusals.{number_of}
use Rattle.element_tests.specs.Tests.{Step, stepped}

unfoldable pub step_of : ℕ → ℕ → ℕ → Result ℕ Refusal → Step
step_of at list count (Ok n) = stepped 0 at list n
step_of at list count (Err r) = stepped (number_of r) at list count
