-- The receiver over a history of bodies, by what the collector does with it.
--
--   lent-after      the record and the buffers that are kept are those of the collector
--   read_complete   a body is read exactly where the collector reports completion
--   table_kept      where it does not, the table stays
--   readings_are    so there are as many readings as completions
--   table-silent    with none, the table is as it was lent first
-- Trusts: nothing.
use Prim.Native.Nat.{ℕ}
use mathlib.Core.Path.{◌≡◌, refl, ap, ◌∙◌}
use mathlib.Core.List.{List, [], ◌∷◌}
use native.Mathlib.Omega.{arith}
use Rattle.table.specs.declared.Table.{Table}
use Rattle.collector.specs.Answers.{Said, refused, again, waiting, complete, dropped}
use Rattle.collector_demands.specs.Demand.{Lent, called, lent_after, reply_to, is_complete, completions}
use Rattle.reader.specs.Read.{Verdict}
use Rattle.reader.specs.Read.{Accepted, Refused}
use Rattle.reader.specs.Read.{read_table}
use Rattle.receiver.specs.Receive.{reported, taken, receive_step}
use Rattle.receiver_demands.specs.EndToEnd.{Kept, stepped, kept_after, is_read, readings}

-- what the collector is lent of it
abbrev pub lent_of_kept : Kept → Lent
lent_of_kept s = record { held = s.held; slots = s.slots; join = s.join }

pub lent-after : (s : Kept) (h : List (List ℕ)) → lent_of_kept (kept_after s h) ≡ lent_after (lent_of_kept s) h
unfolding kept_after lent_after receive_step
lent-after s [] = refl
lent-after s (b ∷ h) = ap (λ (x : Lent). let a = called x b in record { held = a.held; slots = a.slots; join = a.join }) (lent-after s h)

is_read_lem : (v : Verdict) → is_read (reported v) ≡ 1
is_read_lem Accepted = refl
is_read_lem (Refused n offset) = refl

read_taken : (a : Said) (t : Table) (message : List ℕ) → is_read (taken a t message).report ≡ is_complete a
unfolding taken
read_taken (refused n) t message = refl
read_taken again t message = refl
read_taken (waiting k) t message = refl
read_taken (complete n) t message = is_read_lem (read_table t message).verdict
read_taken (dropped cut) t message = refl

kept_taken : (a : Said) (t : Table) (message : List ℕ) → is_complete a ≡ 0 → (taken a t message).table ≡ t
unfolding taken
kept_taken (refused n) t message e = refl
kept_taken again t message e = refl
kept_taken (waiting k) t message e = refl
kept_taken (complete n) t message e = absurd (omega arith)
kept_taken (dropped cut) t message e = refl

pub read_complete : (s : Kept) (b : List ℕ) → is_read (stepped s b).report ≡ is_complete (called (lent_of_kept s) b).answer
unfolding receive_step
read_complete s b = read_taken (called (lent_of_kept s) b).answer s.table _

pub table_kept : (s : Kept) (b : List ℕ) → is_complete (called (lent_of_kept s) b).answer ≡ 0 → (stepped s b).table ≡ s.table
unfolding receive_step
table_kept s b e = kept_taken (called (lent_of_kept s) b).answer s.table _ e

-- the answer that counts for the collector is the one to what is kept
answer_is : (s : Kept) (h : List (List ℕ)) (b : List ℕ) → (called (lent_of_kept (kept_after s h)) b).answer ≡ (reply_to (lent_of_kept s) h b).answer
answer_is s h b = ap (λ (x : Lent). (called x b).answer) (lent-after s h)

pub readings_are : (s : Kept) (h : List (List ℕ)) → readings s h ≡ completions (lent_of_kept s) h
unfolding readings completions
readings_are s [] = refl
readings_are s (b ∷ h) =
    let here = read_complete (kept_after s h) b ∙ ap is_complete (answer_is s h b) in
    rw (here, readings_are s h) refl

-- a body at which completion is not reported leaves the table
pub table-passed : (s : Kept) (h : List (List ℕ)) (b : List ℕ) → is_complete (reply_to (lent_of_kept s) h b).answer ≡ 0 → (kept_after s (b ∷ h)).table ≡ (kept_after s h).table
unfolding kept_after
table-passed s h b e = table_kept (kept_after s h) b (ap is_complete (answer_is s h b) ∙ e)

pub table-silent : (s : Kept) (h : List (List ℕ)) → completions (lent_of_kept s) h ≡ 0 → (kept_after s h).table ≡ s.table
unfolding completions kept_after
table-silent s [] e = refl
table-silent s (b ∷ h) e = table-passed s h b (omega arith) ∙ table-silent s h (omega arith)
