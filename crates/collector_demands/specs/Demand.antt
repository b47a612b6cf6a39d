-- Demand: what demand 3 speaks of: a message in pieces, the bodies that arrive, and what the caller lends and is told.
--
--   Lent                      what the caller lends each time: the record and the two buffers
--   lent_after s h             what they are after the bodies of h, each call given back what the last one left
--   reply_to s h b             what the caller is told of b after h: the answer, and the message lent with it
--   completions s h           how often Complete was reported for the bodies of h
--   Cutting message pieces    1 to 16 pieces of at most 1,497 bytes, in order the whole message
--   body_of count pieces k     the body of piece k
--   Arrived count pieces h    h has only such bodies and refused ones, in any order and as often as one likes
--   Came k t                  piece k is among them
--   Passes message pieces     no piece but the last ends where it may not (document 02, Req 04)
--   Apart held count n        nothing is collected, or a collection under another count or another number
--   Demand3 s count message pieces     completion is reported exactly once, at the arrival of the last piece missing, with the message
--
-- Pieces count from 0, and a history has its newest body first. A piece may be empty.
-- Tested by: an example of each hypothesis, and what fails without Apart and without Passes, in proofs/Bench.antt and BenchStrict.antt.
-- Trusts: nothing.
use Rattle.std.specs.Prelude.{ℕ, suc, ◌+◌, ◌≤◌, ◌<◌, ◌≡◌, true, false, List, [], ◌∷◌, ◌++◌, ◌⊎◌, length, get_or}
use Rattle.collector.specs.Answers.{Said, refused, again, waiting, complete, dropped, lent_of}
use Rattle.held.specs.Held.{well_made}
use Rattle.body_tests.specs.Refusals.{body_refusal}
use Rattle.collector.specs.Step.{After, collect_step}
use Rattle.cuts.specs.Cuts.{may_cut, sum_to}
use Rattle.collection.specs.declared.Collection.{Collection}
use Rattle.collector_demands.specs.Runs.{Reply, reply}

pub record Lent : Type 0 where
  pub held : Collection
  pub slots : List ℕ
  pub join : List ℕ

abbrev pub called : Lent → List ℕ → After
called s b = collect_step s.held s.slots s.join b

unfoldable pub lent_after : Lent → List (List ℕ) → Lent
lent_after s [] = s
lent_after s (b ∷ h) =
    let a = called (lent_after s h) b in
    record { held = a.held; slots = a.slots; join = a.join }

-- what a call tells: the answer, and the message lent from the body or the join buffer
abbrev pub told : After → List ℕ → Reply
told a b = reply a.answer (lent_of a.answer a.held.number b a.join)

abbrev pub reply_to : Lent → List (List ℕ) → List ℕ → Reply
reply_to s h b = told (called (lent_after s h) b) b

abbrev pub is_complete : Said → ℕ
is_complete (refused n) = 0
is_complete again = 0
is_complete (waiting k) = 0
is_complete (complete n) = 1
is_complete (dropped off) = 0

unfoldable pub completions : Lent → List (List ℕ) → ℕ
completions s [] = 0
completions s (b ∷ h) = is_complete (reply_to s h b).answer + completions s h

-- ---- a message in pieces

unfoldable pub concat : List (List ℕ) → List ℕ
concat [] = []
concat (p ∷ ps) = p ++ concat ps

pub record Cutting (message : List ℕ) (pieces : List (List ℕ)) : Type 0 where
  pub whole : concat pieces ≡ message
  pub some : 1 ≤ length pieces
  pub few : length pieces ≤ 16
  pub short : (k : ℕ) → k < length pieces → length (get_or pieces k []) ≤ 1497

unfoldable pub body_of : ℕ → List (List ℕ) → ℕ → List ℕ
body_of count pieces k = count ∷ length pieces ∷ suc k ∷ get_or pieces k []

pub data Arrived (count : ℕ) (pieces : List (List ℕ)) : List (List ℕ) → Type 0 where
  none : Arrived count pieces []
  other : {h : List (List ℕ)} (b : List ℕ) → (body_refusal b ≡ 0 → ⊥) → Arrived count pieces h → Arrived count pieces (b ∷ h)
  piece : {h : List (List ℕ)} (k : ℕ) → k < length pieces → Arrived count pieces h → Arrived count pieces (body_of count pieces k ∷ h)

unfoldable pub Came : {count : ℕ} {pieces h : List (List ℕ)} → ℕ → Arrived count pieces h → Type 0
Came k none = ⊥
Came k (other b e t) = Came k t
Came k (piece j l t) = (j ≡ k) ⊎ Came k t

-- ---- the demand

unfoldable pub lengths_of : List (List ℕ) → List ℕ
lengths_of [] = []
lengths_of (p ∷ ps) = length p ∷ lengths_of ps

abbrev pub Passes : List ℕ → List (List ℕ) → Type 0
Passes message pieces = (k : ℕ) → suc k < length pieces → may_cut message (sum_to (lengths_of pieces) (suc k)) ≡ true

abbrev pub Apart : Collection → ℕ → ℕ → Type 0
Apart held count n = (well_made held ≡ false) ⊎ ((held.count ≡ count → ⊥) ⊎ (held.number ≡ n → ⊥))

pub record Demand3 (s : Lent) (count : ℕ) (message : List ℕ) (pieces : List (List ℕ)) : Type 0 where
  -- while a piece is missing, completion was not reported
  pub silent : {h : List (List ℕ)} (t : Arrived count pieces h) (k : ℕ) → k < length pieces → (Came k t → ⊥) → completions s h ≡ 0
  -- once all came, it was reported exactly once
  pub once : {h : List (List ℕ)} (t : Arrived count pieces h) → ((k : ℕ) → k < length pieces → Came k t) → completions s h ≡ 1
  -- it is reported at the arrival of the last piece missing, and what is lent then is the message
  pub last : {h : List (List ℕ)} (t : Arrived count pieces h) (k : ℕ) → k < length pieces → (Came k t → ⊥)
      → ((j : ℕ) → j < length pieces → (j ≡ k → ⊥) → Came j t) → reply_to s h (body_of count pieces k) ≡ reply (complete (length message)) message
