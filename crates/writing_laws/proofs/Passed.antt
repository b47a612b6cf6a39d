-- Lists whose entries pass a test, and lists in arrays whose unused places do (specs/Entries.antt of writing_entries, all_of).
--
--   all_take, all_drop     parts of a list             all-passed, all_passes     a test and a claim of every entry
--   all-empty, empty-all   every entry is the empty one
--   listed_tested          a list within its room whose unused places are empty fills its array      listed_test    and back
--   clash                  false is not true
-- Trusts: nothing.
use Prim.Native.Nat.{ℕ, zero, suc, ◌-◌, ◌≤◌}
use mathlib.Core.Path.{◌≡◌, refl, sym, ap, ◌∙◌}
use mathlib.Core.Bool.{Bool, true, false, cond}
use mathlib.Core.List.{List, [], ◌∷◌, ◌++◌}
use native.Mathlib.Omega.{arith}
use borrow.Author.Tests.{le-leb}
use lib.ListN.{length, take, drop, replicate, length-drop, take-append-drop}
use lib.Seq.{length-take-le, drop-append_seam}
use lib.Dec.{leb}
use Rattle.wire.proofs.Laws.{both}
use Rattle.table.specs.Table.{limited_to, padded}
use Rattle.reader.proofs.Kept.{limited_same}
use Rattle.writing_entries.specs.Entries.{all_of}
use Rattle.writing_laws.specs.Claims.{All, none, more, Listed}

pub clash : ◌≡◌ {A = Bool} false true → ⊥
clash e = let z : ◌≡◌ {A = ℕ} 1 0 = ap (λ (c : Bool). cond {A = ℕ} c 0 1) e in omega arith

-- ---- lists

pub all_take : {A : Type 0} {P : A → Type 0} (n : ℕ) {l : List A} → All P l → All P (take n l)
all_take zero none = none
all_take zero (more p ps) = none
all_take (suc n) none = none
all_take (suc n) (more p ps) = more p (all_take n ps)

-- every entry passed, and the types say Q: so P
pub all-passed : {A : Type 0} {P Q : A → Type 0} (test : A → Bool) → ((x : A) → Q x → test x ≡ true → P x) → {l : List A} → All Q l → all_of test l ≡ true → All P l
unfolding all_of
all-passed test h none e = none
all-passed test h (more {x = x} {xs = xs} q qs) e = let b = both (test x) (all_of test xs) e in more (h x q b.0) (all-passed test h qs b.1)

pub all_passes : {A : Type 0} {P : A → Type 0} (test : A → Bool) → ((x : A) → P x → test x ≡ true) → {l : List A} → All P l → all_of test l ≡ true
unfolding all_of
all_passes test h none = refl
all_passes test h (more {x = x} p ps) = rw (h x p, all_passes test h ps) refl

pub all_drop : {A : Type 0} {P : A → Type 0} (n : ℕ) {l : List A} → All P l → All P (drop n l)
all_drop zero p = p
all_drop (suc n) none = none
all_drop (suc n) (more p ps) = all_drop n ps

pub anything : {A : Type 0} (l : List A) → All (λ (x : A). x ≡ x) l
anything [] = none
anything (x ∷ l) = more refl (anything l)

-- every entry is the empty one
pub all-empty : {A : Type 0} {Q : A → Type 0} (test : A → Bool) (d : A) → ((x : A) → Q x → test x ≡ true → x ≡ d) → {l : List A} → All Q l → all_of test l ≡ true → l ≡ replicate (length l) d
unfolding all_of
all-empty test d h none e = refl
all-empty {A} test d h (more {x = x} {xs = l} q qs) e =
    let b = both (test x) (all_of test l) e in
    ap (λ (y : A). y ∷ l) (h x q b.0) ∙ ap (λ (m : List A). d ∷ m) (all-empty test d h qs b.1)

pub empty-all : {A : Type 0} (test : A → Bool) (d : A) → test d ≡ true → (n : ℕ) → all_of test (replicate n d) ≡ true
unfolding all_of
empty-all test d e zero = refl
empty-all test d e (suc n) = rw (e, empty-all test d e n) refl

module _ {A : Type 0} (test : A → Bool) (d : A) (limit : ℕ) where
  pub listed_tested : {Q : A → Type 0} → ((x : A) → Q x → test x ≡ true → x ≡ d) → (n : ℕ) (l : List A) → All Q l → length l ≡ limit → n ≤ limit → all_of test (drop n l) ≡ true
      → Listed limit d (take (limited_to limit n) l) n l
  unfolding padded
  listed_tested h n l q e m t =
      let k : length (take n l) ≡ n = length-take-le n l (omega arith) in
      let r : drop n l ≡ replicate (limit - length (take n l)) d =
      all-empty test d h (all_drop n q) t ∙ ap (λ (j : ℕ). replicate j d) {x = length (drop n l)} {y = limit - length (take n l)} (omega (arith, length-drop n l)) in
      rw (limited_same limit n m) (record { count = sym k; array = sym (take-append-drop n l) ∙ ap (λ (x : List A). take n l ++ x) r })

  pub listed_test : test d ≡ true → {xs l : List A} {n : ℕ} → Listed limit d xs n l → length xs ≤ limit → (leb n limit ≡ true) × (all_of test (drop n l) ≡ true)
  unfolding padded
  listed_test e {xs} {l} {n} g few =
      (le-leb n limit (omega (arith, g.count)), rw (g.count, g.array, drop-append_seam xs (replicate (limit - length xs) d)) (empty-all test d e (limit - length xs)))
