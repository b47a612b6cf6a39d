-- Laws of `received` and `body_text` (specs/Body.antt).
--
--   received_from     a step from values that are equal to nothing collected, the empty table and two buffers of 0
--   body_text_from     the text of a report, count and table that are equal to those of the body
--   body_text-reply    the listing by the reply that a run gives to a first body, which names no buffer: a refused body is `refused N at 0`,
--                     one of several pieces `waiting K`, and a whole message what its reading says
--   first_not_again, first_not_dropped      a first body is no Repeat, and is not dropped
-- Trusts: nothing.
use Prim.Native.Nat.{ℕ, ◌≤◌}
use mathlib.Core.Path.{◌≡◌, refl, ap}
use mathlib.Core.Bool.{Bool, true, false, cond}
use mathlib.Core.List.{List, []}
use native.Mathlib.Omega.{arith}
use lib.ListN.{length, get_or, length-replicate}
use lib.Dec.{eqb}
use Rattle.table.specs.declared.Table.{Table}
use Rattle.table.specs.Table.{empty_table}
use Rattle.collector.specs.Answers.{Said, refused, again, waiting, complete, dropped}
use Rattle.collection.specs.declared.Collection.{Collection}
use Rattle.collection.specs.Record.{empty_collection}
use Rattle.body_tests.specs.Refusals.{number_of}
use Rattle.collector_demands.specs.Runs.{accepts, lookup, continues, run_from, missing, message, judged, Reply, reply, stored_reply, reply_from, reply_of}
use Rattle.collector_demands.specs.Demand.{Lent, lent_after, reply_to}
use Rattle.collector_demands.proofs.Demands.{demand_2_nothing}
use Rattle.collector_demands.proofs.Stored.{blank_nothing}
use Rattle.receiver.specs.Receive.{Told, Taken, taken, Had, receive_step}
use Rattle.bodies.specs.Body.{zeros, received, report_text, body_text}

pub received_from : {held : Collection} {t : Table} {slots join : List ℕ} (body : List ℕ) {h : Had} → held ≡ empty_collection 0 0 0 → t ≡ empty_table → slots ≡ zeros → join ≡ zeros
    → h ≡ receive_step held t slots join body → h ≡ received body
unfolding received
received_from body e f g k h = rw (e, f, g, k) at h

pub body_text_from : (body : List ℕ) {r : Told} {n : ℕ} {t : Table} → r ≡ (received body).report → n ≡ get_or body 0 0 → t ≡ (received body).table → report_text r n t ≡ body_text body
unfolding body_text
body_text_from body e f g = rw (e, f, g) refl

-- what is lent at the start
abbrev start : Lent
start = record { held = empty_collection 0 0 0; slots = zeros; join = zeros }

long : 24000 ≤ length zeros
unfolding zeros
long = omega (arith, length-replicate {A = ℕ} 24000 0)

first-reply : (body : List ℕ) → reply_to start [] body ≡ reply_of false [] body
first-reply body = (demand_2_nothing start long long (blank_nothing 0) [] body).0

-- what is taken up of the reply to a first body
abbrev pub taken_first : List ℕ → Taken
taken_first body = taken (reply_of false [] body).answer empty_table (reply_of false [] body).lent

pub body_text-reply : (body : List ℕ) → body_text body ≡ report_text (taken_first body).report (get_or body 0 0) (taken_first body).table
unfolding body_text received receive_step lent_after
body_text-reply body =
    ap (λ (r : Reply). report_text (taken r.answer empty_table r.lent).report (get_or body 0 0) (taken r.answer empty_table r.lent).table) (first-reply body)

-- a first body is refused, waits or completes: it is answered nothing else
module _ (x : Said) (no-refused : (n : ℕ) → refused n ≡ x → ⊥) (no-waiting : (k : ℕ) → waiting k ≡ x → ⊥) (no-complete : (n : ℕ) → complete n ≡ x → ⊥) where
  stored_not : (run : List (List ℕ)) (n : ℕ) → (stored_reply false run n).answer ≡ x → ⊥
  unfolding judged
  stored_not run n = go (eqb (missing (lookup run) n) 0) where
    go : (b : Bool) → (cond b (reply (complete (length (message (lookup run) n))) (message (lookup run) n)) (reply (waiting (missing (lookup run) n)) [])).answer ≡ x → ⊥
    go true = no-complete (length (message (lookup run) n))
    go false = no-waiting (missing (lookup run) n)

  first_not : (body : List ℕ) → (reply_of false [] body).answer ≡ x → ⊥
  unfolding reply_from run_from continues
  first_not body = go (accepts body) _ _ where
    go : (b : Bool) (run : List (List ℕ)) (n : ℕ) → (cond b (stored_reply false run (number_of body)) (reply (refused n) [])).answer ≡ x → ⊥
    go true run n = stored_not run (number_of body)
    go false run n = no-refused n

pub first_not_again : (body : List ℕ) → (reply_of false [] body).answer ≡ again → ⊥
first_not_again =
    first_not again (λ n e. let z : ◌≡◌ {A = ℕ} 0 1 = cc in omega arith) (λ k e. let z : ◌≡◌ {A = ℕ} 0 1 = cc in omega arith) (λ n e. let z : ◌≡◌ {A = ℕ} 0 1 = cc in omega arith)

pub first_not_dropped : (body : List ℕ) (cut : ℕ) → (reply_of false [] body).answer ≡ dropped cut → ⊥
first_not_dropped body cut =
    first_not (dropped cut) (λ n e. let z : ◌≡◌ {A = ℕ} 0 1 = cc in omega arith) (λ k e. let z : ◌≡◌ {A = ℕ} 0 1 = cc in omega arith) (λ n e. let z : ◌≡◌ {A = ℕ} 0 1 = cc in omega arith) body
