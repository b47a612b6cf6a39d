-- The words of test 15 tell the answers apart (specs/Sought.antt).
--
--   in_words_only  two cases that are told alike are the same
--   sought_only    two answers that are told alike are the same
--   found_nothing, found_number     what the search found
--   sought_none, sought_some        what test 15 says
-- Trusts: nothing.
use mathlib.Core.Path.{◌≡◌, refl, sym, ap, ◌∙◌}
use Rattle.std.proofs.Common.{ℕ, Option, Some, None}
use Rattle.named.specs.Named.{Found, Nothing, Number, Lone, Answered, At}
use Rattle.named.specs.Sought.{found, sought, Sought, answered, refused, in_words}

lone_as : Sought → Lone
lone_as answered = Answered
lone_as (refused n offset) = At offset

lone_as_back : (l : Lone) → lone_as (in_words l) ≡ l
unfolding in_words lone_as
lone_as_back Answered = refl
lone_as_back (At offset) = refl

pub in_words_only : (l k : Lone) → in_words l ≡ in_words k → l ≡ k
in_words_only l k e = sym (lone_as_back l) ∙ ap lone_as e ∙ lone_as_back k

answer_as : Lone → Option ℕ
answer_as Answered = None
answer_as (At offset) = Some offset

answer_as_back : (o : Option ℕ) → answer_as (sought o) ≡ o
unfolding sought answer_as
answer_as_back None = refl
answer_as_back (Some offset) = refl

pub sought_only : (o p : Option ℕ) → sought o ≡ sought p → o ≡ p
sought_only o p e = sym (answer_as_back o) ∙ ap answer_as e ∙ answer_as_back p

pub found_nothing : {o : Option (ℕ × ℕ)} → o ≡ None → found o ≡ Nothing
unfolding found
found_nothing e = simp e

pub found_number : {o : Option (ℕ × ℕ)} {p : ℕ × ℕ} → o ≡ Some p → found o ≡ Number p.0 p.1
unfolding found
found_number e = simp e

pub sought_none : {o : Option ℕ} → o ≡ None → sought o ≡ Answered
unfolding sought
sought_none e = simp e

pub sought_some : {o : Option ℕ} {at : ℕ} → o ≡ Some at → sought o ≡ At at
unfolding sought
sought_some e = simp e
