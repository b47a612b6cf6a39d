-- Held: which records of a collection calls could have made, and what they hold (document 01, "Collecting pieces").
--
--   is_filled flag              whether a slot's flag says that it is filled: 1 does, 0 says empty, another says neither
--   empty_slots filled n        how many of the first n slots are empty
--   slot_sound flag len k n     a slot as calls leave it: its flag is 0, or 1 if it is one of the n; filled, it has at most 1,497 bytes, and empty, none
--   sound_to filled lens n m    the first m slots are so
--   well_made r                 whether something is collected: calls could have made the record, and its number is not 0
--   is_of r count number        whether that is the collection of this count and number
--
-- Any record has a meaning. One that no calls could have made counts as nothing collected: number 0 or over 16, a length over 1,497 or on
-- an empty slot, a filled slot beyond the number, a number with no filled slot, a flag other than 0 and 1. Slots count from 0 here.
-- Tested by: the bench example in proofs/Bench.antt of collector_demands; lent records of every kind against the other program in host/.
-- Trusts: nothing.
use Rattle.std.specs.Prelude.{ℕ, zero, suc, ◌+◌, Bool, true, cond, ◌&&◌, List, get_or, ltb, leb, eqb}
use Rattle.collection.specs.declared.Collection.{Collection}

abbrev pub is_filled : ℕ → Bool
is_filled flag = eqb flag 1

unfoldable pub empty_slots : List ℕ → ℕ → ℕ
empty_slots filled zero = 0
empty_slots filled (suc n) = empty_slots filled n + cond (eqb (get_or filled n 0) 0) 1 0

-- the most that a flag, and a length, may be
abbrev pub most_flag : ℕ → ℕ → ℕ
most_flag k n = cond (ltb k n) 1 0

abbrev pub most_length : ℕ → ℕ
most_length flag = cond (is_filled flag) 1497 0

abbrev pub slot_sound : ℕ → ℕ → ℕ → ℕ → Bool
slot_sound flag len k n = leb flag (most_flag k n) && leb len (most_length flag)

unfoldable pub sound_to : List ℕ → List ℕ → ℕ → ℕ → Bool
sound_to filled lens n zero = true
sound_to filled lens n (suc m) = sound_to filled lens n m && slot_sound (get_or filled m 0) (get_or lens m 0) m n

unfoldable pub well_made : Collection → Bool
well_made r = leb r.number 16 && (sound_to r.filled r.lengths r.number 16 && ltb (empty_slots r.filled 16) 16)

-- whether the held collection is the one of this count and number
unfoldable pub is_of : Collection → ℕ → ℕ → Bool
is_of r count number = well_made r && (eqb r.count count && eqb r.number number)
