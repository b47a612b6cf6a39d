-- Laws of a record (specs/Held.antt).
--
--   most_flag_div                     the greatest flag of a slot, as a quotient
--   empty_slots_le, empty_slots_lt     at most n are empty; fewer where one is filled
--   some_more                         one slot more of the loop that looks for a filled one
--   sound_to-at, sound_to-all          what it says of each slot; from each slot
--   slot_sound-len                    a sound slot is not too long
--   well_made-short, is_of_short       a well-made record has no length over 1,497
-- Trusts: nothing.
use Prim.Native.Nat.{ℕ, zero, suc, ◌+◌, ◌-◌, ◌/◌, ◌≤◌, ◌<◌}
use mathlib.Core.Path.{◌≡◌, refl}
use mathlib.Core.Bool.{Bool, true, false, cond, not, ◌||◌}
use mathlib.Core.List.{List}
use mathlib.Core.Logic.{⊎_elim}
use native.Mathlib.Omega.{arith}
use Rattle.std.proofs.lemmas.Bool.Decides.{nat_tests}
use native.Mathlib.Nat.{eq-or-lt_of_le, le_of_suc-le-suc, div-eq_of_lt, div-eq_of_lt-le}
use native.Mathlib.Numerals.{add-one}
use borrow.Author.Tests.{ltb-false, ltb-true, leb-true}
use lib.ListN.{get_or}
use lib.Dec.{ltb, leb, eqb}
use Rattle.wire.proofs.Laws.{both}
use Rattle.held.specs.Held.{is_filled, empty_slots, most_flag, slot_sound, sound_to, well_made, is_of}
use Rattle.collection.specs.declared.Collection.{Collection}

pub most_flag_div : (k n : ℕ) → k < 16 → n ≤ 16 → (31 + n - k) / 32 ≡ most_flag k n
most_flag_div k n p q = go (ltb k n) refl where
  go : (t : Bool) → ltb k n ≡ t → (31 + n - k) / 32 ≡ most_flag k n
  go true e = rw e (div-eq_of_lt-le 32 (omega (arith, ltb-true k n e)) (omega arith))
  go false e = rw e (div-eq_of_lt (omega (arith, ltb-false k n e)))

pub one_le : (t : Bool) → cond t 1 0 ≤ 1
one_le true = omega arith
one_le false = omega arith

pub empty_slots_le : (f : List ℕ) (n : ℕ) → empty_slots f n ≤ n
unfolding empty_slots
empty_slots_le f zero = omega arith
empty_slots_le f (suc n) = omega (arith, empty_slots_le f n, one_le (eqb (get_or f n 0) 0))

pub empty_slots_lt : (f : List ℕ) (k n : ℕ) → get_or f k 0 ≡ 1 → k < n → empty_slots f n < n
unfolding empty_slots
empty_slots_lt f k zero e q = absurd (omega arith)
empty_slots_lt f k (suc n) e q = ⊎_elim
    (λ (x : k ≡ n). let z : get_or f n 0 ≡ 1 = rw x at e in rw z (omega (arith, empty_slots_le f n)))
    (λ (x : k < n). omega (arith, empty_slots_lt f k n e x, one_le (eqb (get_or f n 0) 0)))
    (eq-or-lt_of_le (le_of_suc-le-suc q))

-- one slot more of the loop that looks for a filled one
pub some_more : (f : List ℕ) (k : ℕ) → ltb (empty_slots f (k + 1)) (k + 1) ≡ (ltb (empty_slots f k) k || not (eqb (get_or f k 0) 0))
unfolding empty_slots
some_more f k =
    let l = empty_slots_le f k in
    rw add-one (grind (arith, nat_tests))

pub sound_to-at : (f l : List ℕ) (n m k : ℕ) → sound_to f l n m ≡ true → k < m → slot_sound (get_or f k 0) (get_or l k 0) k n ≡ true
unfolding sound_to
sound_to-at f l n zero k h p = absurd (omega arith)
sound_to-at f l n (suc m) k h p =
    let hs = both (sound_to f l n m) (slot_sound (get_or f m 0) (get_or l m 0) m n) h in
    ⊎_elim (λ e. rw e hs.1) (λ q. sound_to-at f l n m k hs.0 q) (eq-or-lt_of_le (le_of_suc-le-suc p))

pub sound_to-all : (f l : List ℕ) (n m : ℕ) → ((k : ℕ) → k < m → slot_sound (get_or f k 0) (get_or l k 0) k n ≡ true) → sound_to f l n m ≡ true
unfolding sound_to
sound_to-all f l n zero h = refl
sound_to-all f l n (suc m) h = rw (sound_to-all f l n m (λ k q. h k (omega arith)), h m (omega arith)) refl

pub slot_sound-len : (flag len k n : ℕ) → slot_sound flag len k n ≡ true → len ≤ 1497
slot_sound-len flag len k n h = go (is_filled flag) (leb-true _ _ (both (leb flag (cond (ltb k n) 1 0)) _ h).1) where
  go : (t : Bool) → len ≤ cond t 1497 0 → len ≤ 1497
  go true g = g
  go false g = omega arith

pub well_made-short : (r : Collection) → well_made r ≡ true → (k : ℕ) → k < 16 → get_or r.lengths k 0 ≤ 1497
unfolding well_made
well_made-short r h k p =
    let s = both (sound_to r.filled r.lengths r.number 16) _ (both (leb r.number 16) _ h).1 in
    slot_sound-len (get_or r.filled k 0) (get_or r.lengths k 0) k r.number (sound_to-at r.filled r.lengths r.number 16 k s.0 p)

pub is_of_short : (r : Collection) (count number : ℕ) → is_of r count number ≡ true → (k : ℕ) → k < 16 → get_or r.lengths k 0 ≤ 1497
unfolding is_of
is_of_short r count number h = well_made-short r (both (well_made r) _ h).0
