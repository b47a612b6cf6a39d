-- Laws of the lists of a table and of a rule (specs/Table.antt).
--
--   limited_to_le     a count is read as its limit at most
--   length-rules_of, length-classifiers_of, length-channels_of, length-clients_of, length-numbers_of, length-ucids_of
--                    a list is as long as its count is read, where its array has its length
--   length-rules_of_le, .. (the same six)          it is never longer than its limit
--   rules_of-at, classifiers_of-at, channels_of-at, clients_of-at, numbers_of-at      an entry of a list is that of its array
--   length_mapped    the length of an array of structs in a struct, as a proof is handed it: for `search (needs, length_mapped)`
-- Trusts: nothing.
use Prim.Native.Nat.{ℕ, ◌≤◌, ◌<◌}
use mathlib.Core.Path.{◌≡◌, refl, sym, ◌∙◌}
use mathlib.Core.Bool.{Bool, true, false, cond}
use mathlib.Core.List.{List, map}
use native.Mathlib.Omega.{arith}
use native.Mathlib.Nat.{le_refl}
use borrow.Author.Tests.{ltb-false}
use lib.ListN.{length, get_or, take, length-map, length-take}
use lib.Seq.{length-take-le, get_or-take}
use lib.Dec.{ltb}
use Rattle.table.specs.declared.Client.{Client}
use Rattle.table.specs.declared.Rule.{Rule}
use Rattle.table.specs.declared.Classifier.{Classifier}
use Rattle.table.specs.declared.Table.{Table}
use Rattle.table.specs.Table.{limited_to, rules_of, classifiers_of, channels_of, clients_of, numbers_of, ucids_of}

pub limited_to_le : (limit n : ℕ) → limited_to limit n ≤ limit
limited_to_le limit n = go (ltb limit n) refl where
  go : (b : Bool) → ltb limit n ≡ b → cond b limit n ≤ limit
  go true e = le_refl limit
  go false e = ltb-false limit n e

counted : {A : Type 0} (limit n : ℕ) (l : List A) → length l ≡ limit → length (take (limited_to limit n) l) ≡ limited_to limit n
counted limit n l e = length-take-le (limited_to limit n) l (omega (arith, limited_to_le limit n))

counted_le : {A : Type 0} (limit n : ℕ) (l : List A) → length (take (limited_to limit n) l) ≤ limit
counted_le limit n l = omega (arith, length-take (limited_to limit n) l, limited_to_le limit n)

pub length-rules_of : (t : Table) → length t.rules ≡ 32 → length (rules_of t) ≡ limited_to 32 t.rulecount
unfolding rules_of
length-rules_of t e = counted 32 t.rulecount t.rules e

pub length-rules_of_le : (t : Table) → length (rules_of t) ≤ 32
unfolding rules_of
length-rules_of_le t = counted_le 32 t.rulecount t.rules

pub length-classifiers_of : (t : Table) → length t.classifiers ≡ 32 → length (classifiers_of t) ≡ limited_to 32 t.classifiercount
unfolding classifiers_of
length-classifiers_of t e = counted 32 t.classifiercount t.classifiers e

pub length-classifiers_of_le : (t : Table) → length (classifiers_of t) ≤ 32
unfolding classifiers_of
length-classifiers_of_le t = counted_le 32 t.classifiercount t.classifiers

pub length-channels_of : (t : Table) → length t.channels ≡ 32 → length (channels_of t) ≡ limited_to 32 t.channelcount
unfolding channels_of
length-channels_of t e = counted 32 t.channelcount t.channels e

pub length-channels_of_le : (t : Table) → length (channels_of t) ≤ 32
unfolding channels_of
length-channels_of_le t = counted_le 32 t.channelcount t.channels

pub length-clients_of : (r : Rule) → length r.clients ≡ 8 → length (clients_of r) ≡ limited_to 8 r.clientcount
unfolding clients_of
length-clients_of r e = counted 8 r.clientcount r.clients e

pub length-clients_of_le : (r : Rule) → length (clients_of r) ≤ 8
unfolding clients_of
length-clients_of_le r = counted_le 8 r.clientcount r.clients

pub length-numbers_of : (r : Rule) → length r.numbers ≡ 8 → length (numbers_of r) ≡ limited_to 8 r.numbercount
unfolding numbers_of
length-numbers_of r e = counted 8 r.numbercount r.numbers e

pub length-numbers_of_le : (r : Rule) → length (numbers_of r) ≤ 8
unfolding numbers_of
length-numbers_of_le r = counted_le 8 r.numbercount r.numbers

pub length-ucids_of : (r : Rule) → length r.ucids ≡ 16 → length (ucids_of r) ≡ limited_to 16 r.ucidcount
unfolding ucids_of
length-ucids_of r e = counted 16 r.ucidcount r.ucids e

pub length-ucids_of_le : (r : Rule) → length (ucids_of r) ≤ 16
unfolding ucids_of
length-ucids_of_le r = counted_le 16 r.ucidcount r.ucids

entry : {A : Type 0} (n : ℕ) (l : List A) (i : ℕ) (d : A) → i < length (take n l) → get_or (take n l) i d ≡ get_or l i d
entry n l i d h = get_or-take n l i d (omega (arith, length-take n l))

pub rules_of-at : (t : Table) (i : ℕ) (d : Rule) → i < length (rules_of t) → get_or (rules_of t) i d ≡ get_or t.rules i d
unfolding rules_of
rules_of-at t i d h = entry (limited_to 32 t.rulecount) t.rules i d h

pub classifiers_of-at : (t : Table) (i : ℕ) (d : Classifier) → i < length (classifiers_of t) → get_or (classifiers_of t) i d ≡ get_or t.classifiers i d
unfolding classifiers_of
classifiers_of-at t i d h = entry (limited_to 32 t.classifiercount) t.classifiers i d h

pub channels_of-at : (t : Table) (i : ℕ) (d : ℕ) → i < length (channels_of t) → get_or (channels_of t) i d ≡ get_or t.channels i d
unfolding channels_of
channels_of-at t i d h = entry (limited_to 32 t.channelcount) t.channels i d h

pub clients_of-at : (r : Rule) (i : ℕ) (d : Client) → i < length (clients_of r) → get_or (clients_of r) i d ≡ get_or r.clients i d
unfolding clients_of
clients_of-at r i d h = entry (limited_to 8 r.clientcount) r.clients i d h

pub numbers_of-at : (r : Rule) (i d : ℕ) → i < length (numbers_of r) → get_or (numbers_of r) i d ≡ get_or r.numbers i d
unfolding numbers_of
numbers_of-at r i d h = entry (limited_to 8 r.numbercount) r.numbers i d h

pub length_mapped : (X Y : Type 0) (f : X → Y) (l : List X) (n : ℕ) → length (map f l) ≡ n → length l ≡ n
length_mapped X Y f l n p = sym (length-map l f) ∙ p
