-- Walks: the same rule for cuts said by a walk over whole elements, without a row; the first bad cut; pieces that are made of whole elements.
--
--   Reached msg at               a walk over whole top-level elements from the message's first byte arrives at `at`
--   FaultBefore msg c            such a walk arrives before c at an element that itself gives 6, 7 or 8
--   FirstBad msg lens n c        of the cuts between n pieces of these lengths the first that may not be stands at c
--   Elements piece               the piece is whole elements, one behind the other: what a writer cuts
--
-- Tested by: proofs/Reached.antt: with these `may_cut` says what document 02 says; proofs/Says.antt. Trusts: nothing.
use Rattle.std.specs.Prelude.{ℕ, suc, ◌+◌, ◌≤◌, ◌<◌, ◌≡◌, true, false, List, [], ◌∷◌, ◌++◌, length}
use Rattle.elements.specs.Elements.{Refused, Value, head_at}
use Rattle.cuts.specs.Cuts.{may_cut, sum_to}

pub data Reached (msg : List ℕ) : ℕ → Type 0 where
  first : Reached msg 0
  next : {at : ℕ} (len : ℕ) → Reached msg at → head_at msg at (length msg) ≡ Value len → Reached msg (at + 2 + len)

pub record FaultBefore (msg : List ℕ) (c : ℕ) : Type 0 where
  pub place : ℕ
  pub number : ℕ
  pub reached : Reached msg place
  pub faulty : head_at msg place (length msg) ≡ Refused number
  pub before : place < c

pub record FirstBad (msg lens : List ℕ) (n c : ℕ) : Type 0 where
  pub piece : ℕ
  pub inner : suc piece < n
  pub here : c ≡ sum_to lens (suc piece)
  pub never : may_cut msg c ≡ false
  pub first : (j : ℕ) → j < piece → may_cut msg (sum_to lens (suc j)) ≡ true

pub data Elements : List ℕ → Type 0 where
  none : Elements []
  more : (kind : ℕ) (value rest : List ℕ) → length value ≤ 254 → Elements rest → Elements (kind ∷ length value ∷ (value ++ rest))
