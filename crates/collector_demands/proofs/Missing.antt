-- Laws of a family of slots (specs/Runs.antt): how many are empty, and what they have together.
--
--   missing_same       families that agree miss as many          missing_less     one more full slot: one fewer missing
--   missing-some       an empty slot is missing                  missing-none     none where all are full
--   missing-all        no run misses all
--   missing-zero       none missing: all are full
--   whole_to            the first n pieces together               message-whole    what slots with these pieces have together
--   lengths_to-at       the length of a piece                     judged_same      families that agree are judged alike
-- Trusts: nothing.
use Prim.Native.Nat.{ℕ, zero, suc, ◌<◌, ◌≤◌}
use mathlib.Core.Path.{◌≡◌, refl, ◌∙◌}
use mathlib.Core.Bool.{Bool, true}
use mathlib.Core.List.{List, [], ◌++◌}
use lib.ListN.{length, get_or, length-append, get_or-append}
use lib.Seq.{get_or-append_seam}
use mathlib.Core.Logic.{⊎_elim}
use native.Mathlib.Omega.{arith}
use native.Mathlib.Nat.{eq-or-lt_of_le, le_of_suc-le-suc}
use Rattle.collector_demands.specs.Runs.{Slot, empty, full, is_full, bytes_of, lookup, missing, message, lengths_to, judged}

-- two families of slots that agree below n miss as many
pub missing_same : (f g : ℕ → Slot) (n : ℕ) → ((j : ℕ) → j < n → f j ≡ g j) → missing f n ≡ missing g n
unfolding missing
missing_same f g zero h = refl
missing_same f g (suc n) h = rw (h n (omega arith), missing_same f g n (λ j q. h j (omega arith))) refl

-- one more full slot: one fewer missing
pub missing_less : (f g : ℕ → Slot) (k : ℕ) → f k ≡ empty → is_full (g k) ≡ true → ((j : ℕ) → (j ≡ k → ⊥) → f j ≡ g j) → (n : ℕ) → k < n → suc (missing g n) ≡ missing f n
unfolding missing
missing_less f g k e z h zero l = absurd (omega arith)
missing_less f g k e z h (suc n) l = ⊎_elim
    (λ q. rw (← q, e, z, missing_same f g k (λ j r. h j (λ s. omega arith))) (omega arith))
    (λ q. rw (h n (λ s. omega arith), ← missing_less f g k e z h n q) (omega arith))
    (eq-or-lt_of_le (le_of_suc-le-suc l))

-- an empty slot is missing
pub missing-some : (s : ℕ → Slot) (k : ℕ) → s k ≡ empty → (n : ℕ) → k < n → 1 ≤ missing s n
unfolding missing
missing-some s k e zero l = absurd (omega arith)
missing-some s k e (suc n) l = ⊎_elim
    (λ q. rw (← q, e) (omega arith))
    (λ q. omega (arith, missing-some s k e n q))
    (eq-or-lt_of_le (le_of_suc-le-suc l))

pub missing-none : (s : ℕ → Slot) (m : ℕ) → ((k : ℕ) → k < m → is_full (s k) ≡ true) → missing s m ≡ 0
unfolding missing
missing-none s zero f = refl
missing-none s (suc m) f = rw (f m (omega arith), missing-none s m (λ k q. f k (omega arith))) (omega arith)

pub missing-all : (m : ℕ) → missing (lookup []) m ≡ m
unfolding missing lookup
missing-all zero = refl
missing-all (suc m) = omega (arith, missing-all m)

-- the first n pieces together
unfoldable pub whole_to : (ℕ → List ℕ) → ℕ → List ℕ
whole_to p zero = []
whole_to p (suc n) = whole_to p n ++ p n

pub message-whole : (p : ℕ → List ℕ) (s : ℕ → Slot) (n : ℕ) → ((k : ℕ) → k < n → s k ≡ full (p k)) → message s n ≡ whole_to p n
unfolding message whole_to
message-whole p s zero h = refl
message-whole p s (suc n) h = rw (h n (omega arith), message-whole p s n (λ k q. h k (omega arith))) refl

-- none missing: all are full
pub missing-zero : (s : ℕ → Slot) (n : ℕ) → missing s n ≡ 0 → (k : ℕ) → k < n → is_full (s k) ≡ true
missing-zero s n z k q = go (s k) refl where
  go : (t : Slot) → s k ≡ t → is_full t ≡ true
  go empty e = absurd (omega (arith, missing-some s k e n q))
  go (full p) e = refl

-- ---- the lengths of the pieces

length-lengths_to : (s : ℕ → Slot) (n : ℕ) → length (lengths_to s n) ≡ n
unfolding lengths_to
length-lengths_to s zero = refl
length-lengths_to s (suc n) = simp length-append (omega (arith, length-lengths_to s n))

pub lengths_to-at : (s : ℕ → Slot) (n k : ℕ) → k < n → get_or (lengths_to s n) k 0 ≡ length (bytes_of (s k))
unfolding lengths_to
lengths_to-at s zero k q = absurd (omega arith)
lengths_to-at s (suc n) k q = ⊎_elim
    (λ (e : k ≡ n). rw e (rw (length-lengths_to s n) at (get_or-append_seam (lengths_to s n) (length (bytes_of (s n))) [] 0)))
    (λ (l : k < n). get_or-append (lengths_to s n) _ 0 k (omega (arith, length-lengths_to s n)) ∙ lengths_to-at s n k l)
    (eq-or-lt_of_le (le_of_suc-le-suc q))

message_same : (f g : ℕ → Slot) (n : ℕ) → ((j : ℕ) → j < n → f j ≡ g j) → message f n ≡ message g n
unfolding message
message_same f g zero h = refl
message_same f g (suc n) h = rw (h n (omega arith), message_same f g n (λ j q. h j (omega arith))) refl

lengths_to_same : (f g : ℕ → Slot) (n : ℕ) → ((j : ℕ) → j < n → f j ≡ g j) → lengths_to f n ≡ lengths_to g n
unfolding lengths_to
lengths_to_same f g zero h = refl
lengths_to_same f g (suc n) h = rw (h n (omega arith), lengths_to_same f g n (λ j q. h j (omega arith))) refl

pub judged_same : (strict : Bool) (f g : ℕ → Slot) (n : ℕ) → ((j : ℕ) → j < n → f j ≡ g j) → judged strict f n ≡ judged strict g n
unfolding judged
judged_same strict f g n h = rw (message_same f g n h, lengths_to_same f g n h) refl
