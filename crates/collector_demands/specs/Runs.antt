-- Runs: what is held after a history of bodies, by document 01's own words ("Collecting pieces", on runs).
--
--   accepts b            no test of the body's own refuses it
--   lookup run k         what the bodies of a run have in slot k: empty, or the newest body's piece for it
--   continues run b      whether b goes on with the run: its count and number are the run's, and its slot is empty or has the same bytes
--   missing s n, message s n, lengths_to s n     how many of the first n slots are empty; their bytes together; their lengths
--   judged strict s n    under the strict setting: whether a complete message of n pieces was cut where it may be (document 02, Req 04)
--   stored run b         the bodies since the last start, where b is stored; settled_run: none where that completes a message with a bad cut
--   run_from strict start h       what is held after the history h, where these bodies were held before; run_of: where none were
--   reply_from, reply_of   the answer to a body then, and the message that is lent with it
--   HeldBy run held slots        the record and the slot buffer hold exactly what the run has
--   stands_for held slots         the bodies that a lent record and slot buffer hold: one for each filled slot
--
-- A history is a list of bodies, the newest first; refused bodies may stand in it and change nothing. Both buffers are long enough.
-- Tested by: the bench example in proofs/Bench.antt; runs of bodies against the other program in host/.
-- Trusts: nothing.
use Rattle.std.specs.Prelude.{ℕ, zero, suc, ◌+◌, ◌<◌, ◌≡◌, Bool, true, false, cond, ◌&&◌, List, [], ◌∷◌, ◌++◌, length, get_or, eqb}
use Rattle.compare.specs.Compare.{same_bytes}
use Rattle.collector.specs.Answers.{Said, refused, again, waiting, complete, dropped}
use Rattle.cuts.specs.Cuts.{Ruling, all_good, bad_at, cuts_in}
use Rattle.held.specs.Held.{is_filled, well_made}
use Rattle.joining.specs.Pieces.{piece_at}
use Rattle.body_tests.specs.Refusals.{count_of, number_of, slot_of, piece_of, body_refusal}
use Rattle.collection.specs.declared.Collection.{Collection}

-- a slot: empty, or full with these bytes
pub data Slot : Type 0 where
  empty : Slot
  full : List ℕ → Slot

abbrev pub is_full : Slot → Bool
is_full empty = false
is_full (full p) = true

abbrev pub bytes_of : Slot → List ℕ
bytes_of empty = []
bytes_of (full p) = p

unfoldable pub accepts : List ℕ → Bool
accepts b = eqb (body_refusal b) 0

unfoldable pub lookup : List (List ℕ) → ℕ → Slot
lookup [] k = empty
lookup (b ∷ run) k = cond (eqb (slot_of b) k) (full (piece_of b)) (lookup run k)

-- whether a slot takes these bytes: it is empty, or has the same
abbrev pub takes : Slot → List ℕ → Bool
takes empty p = true
takes (full q) p = same_bytes q p

-- nothing goes on with no run
unfoldable pub continues : List (List ℕ) → List ℕ → Bool
continues [] b = false
continues (x ∷ xs) b = eqb (count_of x) (count_of b) && (eqb (number_of x) (number_of b) && takes (lookup (x ∷ xs) (slot_of b)) (piece_of b))

unfoldable pub missing : (ℕ → Slot) → ℕ → ℕ
missing s zero = 0
missing s (suc n) = missing s n + cond (is_full (s n)) 0 1

unfoldable pub message : (ℕ → Slot) → ℕ → List ℕ
message s zero = []
message s (suc n) = message s n ++ bytes_of (s n)

-- the lengths of the pieces
unfoldable pub lengths_to : (ℕ → Slot) → ℕ → List ℕ
lengths_to s zero = []
lengths_to s (suc n) = lengths_to s n ++ (length (bytes_of (s n)) ∷ [])

-- what the cuts of a complete message come to; loose, they are not judged, and one piece has none
unfoldable pub judged : Bool → (ℕ → Slot) → ℕ → Ruling
judged strict s n = cond strict (cuts_in (message s n) (lengths_to s n) n) all_good

-- b goes on with the run, or starts one
abbrev pub stored : List (List ℕ) → List ℕ → List (List ℕ)
stored run b = cond (continues run b) (b ∷ run) (b ∷ [])

-- a collection with a bad cut is dropped when it is complete
abbrev pub run_by : Ruling → List (List ℕ) → List (List ℕ)
run_by all_good run = run
run_by (bad_at cut) run = []

unfoldable pub settled_run : Bool → List (List ℕ) → ℕ → List (List ℕ)
settled_run strict run n = cond (eqb (missing (lookup run) n) 0) (run_by (judged strict (lookup run) n) run) run

-- b's slot has its bytes already
abbrev pub repeated : List (List ℕ) → List ℕ → Bool
repeated run b = continues run b && is_full (lookup run (slot_of b))

-- what an accepted body makes of a run
abbrev pub next_run : Bool → List (List ℕ) → List ℕ → List (List ℕ)
next_run strict run b = cond (repeated run b) (b ∷ run) (settled_run strict (stored run b) (number_of b))

unfoldable pub run_from : Bool → List (List ℕ) → List (List ℕ) → List (List ℕ)
run_from strict start [] = start
run_from strict start (b ∷ h) = cond (accepts b) (next_run strict (run_from strict start h) b) (run_from strict start h)

abbrev pub run_of : Bool → List (List ℕ) → List (List ℕ)
run_of strict h = run_from strict [] h

-- an answer, and the message that is lent with it
pub record Reply : Type 0 where
  pub answer : Said
  pub lent : List ℕ

abbrev pub reply : Said → List ℕ → Reply
reply a m = record { answer = a; lent = m }

-- a complete message is lent, or dropped with refusal 21 at its first bad cut
abbrev pub reply_by : Ruling → List ℕ → Reply
reply_by all_good m = reply (complete (length m)) m
reply_by (bad_at cut) m = reply (dropped cut) []

-- the answer to a body that is stored, where these bodies are then the run
abbrev pub stored_reply : Bool → List (List ℕ) → ℕ → Reply
stored_reply strict run n =
    cond (eqb (missing (lookup run) n) 0)
    (reply_by (judged strict (lookup run) n) (message (lookup run) n))
    (reply (waiting (missing (lookup run) n)) [])

-- the answer to an accepted body after a run
abbrev pub answer_to : Bool → List (List ℕ) → List ℕ → Reply
answer_to strict run b = cond (repeated run b) (reply again []) (stored_reply strict (stored run b) (number_of b))

unfoldable pub reply_from : Bool → List (List ℕ) → List (List ℕ) → List ℕ → Reply
reply_from strict start h b = cond (accepts b) (answer_to strict (run_from strict start h) b) (reply (refused (body_refusal b)) [])

abbrev pub reply_of : Bool → List (List ℕ) → List ℕ → Reply
reply_of strict h b = reply_from strict [] h b

-- slot k of a record and a slot buffer has what s has
pub record SlotHas (s : Slot) (r : Collection) (slots : List ℕ) (k : ℕ) : Type 0 where
  pub flag : get_or r.filled k 0 ≡ cond (is_full s) 1 0
  pub len : get_or r.lengths k 0 ≡ length (bytes_of s)
  pub bytes : piece_at slots r.lengths k ≡ bytes_of s

-- nothing collected, or the run's count and number and each slot as the run has it
pub data HeldBy : List (List ℕ) → Collection → List ℕ → Type 0 where
  nothing : (r : Collection) (slots : List ℕ) → well_made r ≡ false → HeldBy [] r slots
  these : (x : List ℕ) (xs : List (List ℕ)) (r : Collection) (slots : List ℕ) → well_made r ≡ true → r.count ≡ count_of x → r.number ≡ number_of x
      → ((k : ℕ) → k < 16 → SlotHas (lookup (x ∷ xs) k) r slots k) → HeldBy (x ∷ xs) r slots

-- the body of what slot k has
abbrev pub body_in : Collection → List ℕ → ℕ → List ℕ
body_in r slots k = r.count ∷ r.number ∷ suc k ∷ piece_at slots r.lengths k

unfoldable pub bodies_to : Collection → List ℕ → ℕ → List (List ℕ)
bodies_to r slots zero = []
bodies_to r slots (suc m) = cond (is_filled (get_or r.filled m 0)) (body_in r slots m ∷ bodies_to r slots m) (bodies_to r slots m)

unfoldable pub stands_for : Collection → List ℕ → List (List ℕ)
stands_for r slots = cond (well_made r) (bodies_to r slots 16) []

-- the arrays of a record have sixteen places each
pub record Sized (r : Collection) : Type 0 where
  pub flags : length r.filled ≡ 16
  pub lens : length r.lengths ≡ 16
