-- Record: the record of a collection with nothing collected (document 01, "Collecting pieces").
--
--   empty_collection strict count number   nothing collected yet under this setting, count and number
--   is_strict r                            whether the setting is strict: 0 is loose, any other number strict
--
-- What a record holds is said in specs/ of held.
-- Tested by: the bench example in proofs/Bench.antt of collector_demands; lent records of every kind against the other program in host/.
-- Trusts: nothing.
use Rattle.std.specs.Prelude.{ℕ, Bool, not, replicate, eqb}
use Rattle.collection.specs.declared.Collection.{Collection}

abbrev pub empty_collection : ℕ → ℕ → ℕ → Collection
empty_collection strict count number = record { count = count; number = number; filled = replicate 16 0; lengths = replicate 16 0; strict = strict }

abbrev pub is_strict : Collection → Bool
is_strict r = not (eqb r.strict 0)
