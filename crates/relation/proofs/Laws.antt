-- Laws of `relation_to` and of what is answered (specs/Relation.antt).
--
--   related_only           two answers that are told alike are the same
--   relation_to-goes_on    where the piece goes on, the record is well made and of the number
-- Trusts: nothing.
use Prim.Native.Nat.{ℕ}
use mathlib.Core.Path.{◌≡◌}
use mathlib.Core.Bool.{true}
use mathlib.Core.List.{List}
use native.Mathlib.Omega.{arith}
use Rattle.std.proofs.lemmas.Bool.Decides.{nat_tests}
use Rattle.collection.specs.declared.Collection.{Collection}
use Rattle.held.specs.Held.{well_made, is_of}
use Rattle.relation.specs.declared.Relation.{Relation}
use Rattle.relation.specs.Relation.{goes_on, related, relation_to}

pub related_only : (x y : Relation) → related x ≡ related y → x ≡ y
related_only x y e = grind arith

pub relation_to-goes_on : (r : Collection) (slots : List ℕ) (count number k : ℕ) (piece : List ℕ) → relation_to r slots count number k piece ≡ goes_on
    → (well_made r ≡ true) × (r.number ≡ number)
unfolding relation_to is_of
relation_to-goes_on r slots count number k piece h = (grind (arith, nat_tests), grind (arith, nat_tests))
