-- `named::nth_place` gives the n-th place. The loop keeps that the place it looks for is the one that is `before` places on in what is left.
-- Trusts: nothing.
use mathlib.Core.Path.{◌≡◌}
use lib.ListN.{get_or}
use Rattle.children.specs.Children.{left, places_in}
use Rattle.named.proofs.nth_place.Given as goal

abbrev pub invariant-loop-child : goal.invariant-loop-child
invariant-loop-child l = get_or (places_in l.kind (left l.child-iterator)) l.before 0 ≡ get_or (places_in l.kind (left l.fn.elements)) l.n 0
