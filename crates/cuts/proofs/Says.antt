-- What the answer of `cuts_in` says (specs/Cuts.antt).
--
--   cuts_in_same      only the lengths below n count          cuts_in_one     one piece, no cut
--   cuts_in_good      good where every cut may be             good_cuts      and only there
--   cuts_in-first     bad_at: the first cut that may not be
-- Trusts: nothing.
use Prim.Native.Nat.{ℕ, zero, suc, ◌+◌, ◌-◌, ◌≤◌, ◌<◌}
use mathlib.Core.Path.{◌≡◌, refl}
use mathlib.Core.Bool.{Bool, true, false, cond}
use mathlib.Core.List.{List}
use mathlib.Core.Logic.{⊎_elim}
use native.Mathlib.Omega.{arith}
use native.Mathlib.Nat.{eq-or-lt_of_le}
use lib.ListN.{get_or}
use Rattle.cuts.specs.Cuts.{Ruling, all_good, bad_at, may_cut, sum_to, cuts_from, cuts_in}
use Rattle.cuts.specs.Walks.{FirstBad}

pub sum_to_same : (l m : List ℕ) (n : ℕ) → ((j : ℕ) → j < n → get_or l j 0 ≡ get_or m j 0) → sum_to l n ≡ sum_to m n
unfolding sum_to
sum_to_same l m zero h = refl
sum_to_same l m (suc n) h = rw (sum_to_same l m n (λ j q. h j (omega arith)), h n (omega arith)) refl

cuts_from_same : (msg l m : List ℕ) (left k : ℕ) → ((j : ℕ) → j < k + left → get_or l j 0 ≡ get_or m j 0) → cuts_from msg l k left ≡ cuts_from msg m k left
unfolding cuts_from
cuts_from_same msg l m zero k h = refl
cuts_from_same msg l m (suc left) k h =
    rw (sum_to_same l m (suc k) (λ j q. h j (omega arith)), cuts_from_same msg l m left (suc k) (λ j q. h j (omega arith))) refl

pub cuts_in_same : (msg l m : List ℕ) (n : ℕ) → ((j : ℕ) → j < n → get_or l j 0 ≡ get_or m j 0) → cuts_in msg l n ≡ cuts_in msg m n
unfolding cuts_in
cuts_in_same msg l m n h = cuts_from_same msg l m (n - 1) 0 (λ j q. h j (omega arith))

pub cuts_in_one : (msg lens : List ℕ) (n : ℕ) → n ≤ 1 → cuts_in msg lens n ≡ all_good
unfolding cuts_in cuts_from
cuts_in_one msg lens n h = let z : n - 1 ≡ 0 = omega arith in rw z refl

-- ---- every cut

cuts_from_good : (msg lens : List ℕ) (left k : ℕ) → ((j : ℕ) → k ≤ j → j < k + left → may_cut msg (sum_to lens (suc j)) ≡ true) → cuts_from msg lens k left ≡ all_good
unfolding cuts_from
cuts_from_good msg lens zero k h = refl
cuts_from_good msg lens (suc left) k h = rw (h k (omega arith) (omega arith)) (cuts_from_good msg lens left (suc k) (λ j a b. h j (omega arith) (omega arith)))

pub cuts_in_good : (msg lens : List ℕ) (n : ℕ) → ((k : ℕ) → suc k < n → may_cut msg (sum_to lens (suc k)) ≡ true) → cuts_in msg lens n ≡ all_good
unfolding cuts_in
cuts_in_good msg lens n h = cuts_from_good msg lens (n - 1) 0 (λ j a b. h j (omega arith))

-- ---- which cut is answered

-- of the `left` cuts behind piece `from` and those after it the first that may not be is at c
record BadFrom (msg lens : List ℕ) (from left c : ℕ) : Type 0 where
  pub piece : ℕ
  pub late : from ≤ piece
  pub inner : piece < from + left
  pub here : c ≡ sum_to lens (suc piece)
  pub never : may_cut msg c ≡ false
  pub first : (j : ℕ) → from ≤ j → j < piece → may_cut msg (sum_to lens (suc j)) ≡ true

abbrev Says : List ℕ → List ℕ → ℕ → ℕ → Ruling → Type 0
Says msg lens k left all_good = (j : ℕ) → k ≤ j → j < k + left → may_cut msg (sum_to lens (suc j)) ≡ true
Says msg lens k left (bad_at c) = BadFrom msg lens k left c

says_good : (msg lens : List ℕ) (left k : ℕ) → may_cut msg (sum_to lens (suc k)) ≡ true → (u : Ruling) → Says msg lens (suc k) left u → Says msg lens k (suc left) u
says_good msg lens left k may all_good h = λ j a b. ⊎_elim (λ (e : k ≡ j). rw (← e) may) (λ (l : k < j). h j l (omega arith)) (eq-or-lt_of_le a)
says_good msg lens left k may (bad_at c) h =
    let l = h.late in
    let i = h.inner in
    record {
      piece = h.piece;
      late = omega arith;
      inner = omega arith;
      here = h.here;
      never = h.never;
      first = λ j a b. ⊎_elim (λ (e : k ≡ j). rw (← e) may) (λ (l : k < j). h.first j l b) (eq-or-lt_of_le a);
    }

says : (msg lens : List ℕ) (left k : ℕ) → Says msg lens k left (cuts_from msg lens k left)
unfolding cuts_from
says msg lens zero k = λ j a b. absurd (omega arith)
says msg lens (suc left) k = go (may_cut msg (sum_to lens (suc k))) refl (says msg lens left (suc k)) where
  go : (t : Bool) → may_cut msg (sum_to lens (suc k)) ≡ t → Says msg lens (suc k) left (cuts_from msg lens (suc k) left)
      → Says msg lens k (suc left) (cond t (cuts_from msg lens (suc k) left) (bad_at (sum_to lens (suc k))))
  go true e h = says_good msg lens left k e (cuts_from msg lens (suc k) left) h
  go false e h = record { piece = k; late = omega arith; inner = omega arith; here = refl; never = e; first = λ j a b. absurd (omega arith) }

module _ (msg lens : List ℕ) (n : ℕ) where
  pub good_cuts : cuts_in msg lens n ≡ all_good → (k : ℕ) → suc k < n → may_cut msg (sum_to lens (suc k)) ≡ true
  unfolding cuts_in
  good_cuts e k l = let s : Says msg lens 0 (n - 1) all_good = rw e at (says msg lens (n - 1) 0) in s k (omega arith) (omega arith)

  pub cuts_in-first : {c : ℕ} → cuts_in msg lens n ≡ bad_at c → FirstBad msg lens n c
  unfolding cuts_in
  cuts_in-first {c} e =
      let b : BadFrom msg lens 0 (n - 1) c = rw e at (says msg lens (n - 1) 0) in
      let i = b.inner in
      record { piece = b.piece; inner = omega arith; here = b.here; never = b.never; first = λ j l. b.first j (omega arith) l }
