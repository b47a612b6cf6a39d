-- Demand 3 end to end: `receive_step`, which is the whole promise of `receive`, over the bodies of a cut message.
--
--   demand_3_read     from any lent record that holds nothing, or another count or number, a cut message is read exactly once, at the
--                     arrival of the last piece missing, and the report and the table are those of the uncut message; under the strict
--                     setting where the cuts pass
-- Trusts: nothing.
use Prim.Native.Nat.{ℕ, ◌≤◌, ◌<◌}
use mathlib.Core.Path.{◌≡◌, sym, ap, subst, ◌∙◌}
use mathlib.Core.Bool.{true}
use mathlib.Core.List.{List, ◌∷◌}
use mathlib.Core.Logic.{⊎_elim}
use native.Mathlib.Omega.{arith}
use lib.ListN.{length}
use Rattle.table.specs.declared.Table.{Table}
use Rattle.collector.specs.Answers.{complete}
use Rattle.collector_demands.specs.Runs.{Reply, reply}
use Rattle.collector_demands.specs.Demand.{Lent, called, told, reply_to, is_complete, completions, Cutting, body_of, Arrived, none, other, piece, Came, Passes, Apart, Demand3}
use Rattle.collection.specs.Record.{is_strict}
use Rattle.collector_demands.proofs.Demands.{demand_3}
use Rattle.collector_demands.proofs.Last.{came_or_not}
use Rattle.reader.specs.Read.{read_table}
use Rattle.receiver.specs.Receive.{reported, Taken, taken, receive_step}
use Rattle.receiver_demands.specs.EndToEnd.{Kept, stepped, kept_after, ReadOnce}
use Rattle.receiver_demands.proofs.Follows.{lent_of_kept, lent-after, readings_are, table-passed, table-silent}

-- completion was reported before, and so is not reported now
quiet : (s : Lent) (h : List (List ℕ)) (b : List ℕ) → completions s h ≡ 1 → completions s (b ∷ h) ≡ 1 → is_complete (reply_to s h b).answer ≡ 0
unfolding completions
quiet s h b x y = omega arith

-- the step at which the collector lends the message
taken-message : (s : Kept) (b message : List ℕ) → told (called (lent_of_kept s) b) b ≡ reply (complete (length message)) message
    → ((stepped s b).report ≡ reported (read_table s.table message).verdict) × ((stepped s b).table ≡ (read_table s.table message).table)
unfolding receive_step taken
taken-message s b message e =
    let lent = ap (λ (x : Reply). taken x.answer s.table x.lent) e in
    (ap (λ (x : Taken). x.report) lent, ap (λ (x : Taken). x.table) lent)

module _ (s : Kept) (count : ℕ) (message : List ℕ) (pieces : List (List ℕ)) (d : Demand3 (lent_of_kept s) count message pieces) where
  last_read : {h : List (List ℕ)} (t : Arrived count pieces h) (k : ℕ) → k < length pieces → (Came k t → ⊥) → ((j : ℕ) → j < length pieces → (j ≡ k → ⊥) → Came j t)
      → ((stepped (kept_after s h) (body_of count pieces k)).report ≡ reported (read_table s.table message).verdict)
      × ((stepped (kept_after s h) (body_of count pieces k)).table ≡ (read_table s.table message).table)
  last_read {h} t k l g f =
      let said = ap (λ (x : Lent). told (called x (body_of count pieces k)) (body_of count pieces k)) (lent-after s h) ∙ d.last t k l g f in
      let same = table-silent s h (d.silent t k l g) in
      let r = taken-message (kept_after s h) (body_of count pieces k) message said in
      (r.0 ∙ ap (λ (x : Table). reported (read_table x message).verdict) same, r.1 ∙ ap (λ (x : Table). (read_table x message).table) same)

  -- once all came the table is the message's, whatever comes after
  once_read : 1 ≤ length pieces → {h : List (List ℕ)} (t : Arrived count pieces h) → ((k : ℕ) → k < length pieces → Came k t) → (kept_after s h).table ≡ (read_table s.table message).table
  unfolding Came kept_after
  once_read some none all = absurd (all 0 some)
  once_read some (other {h} b e t) all = table-passed s h b (quiet (lent_of_kept s) h b (d.once t all) (d.once (other b e t) all)) ∙ once_read some t all
  once_read some (piece {h} k l t) all = ⊎_elim
      (λ (x : Came k t).
      let earlier : (j : ℕ) → j < length pieces → Came j t = λ j q. ⊎_elim (λ (e : k ≡ j). subst (λ (i : ℕ). Came i t) e x) (λ (y : Came j t). y) (all j q) in
      table-passed s h (body_of count pieces k) (quiet (lent_of_kept s) h (body_of count pieces k) (d.once t earlier) (d.once (piece k l t) all)) ∙ once_read some t earlier)
      (λ (x : Came k t → ⊥). (last_read t k l x (λ j q ne. ⊎_elim (λ (e : k ≡ j). absurd (ne (sym e))) (λ (y : Came j t). y) (all j q))).1) (came_or_not k t)

pub demand_3_read : (s : Kept) → 24000 ≤ length s.slots → 24000 ≤ length s.join → (count : ℕ) (message : List ℕ) (pieces : List (List ℕ)) → Cutting message pieces
    → (is_strict s.held ≡ true → Passes message pieces) → Apart s.held count (length pieces) → ReadOnce s count message pieces
demand_3_read s room space count message pieces cut passes apart =
    let d = demand_3 (lent_of_kept s) room space count message pieces cut passes apart in
    record {
      silent = λ {h} t k l g. (readings_are s h ∙ d.silent t k l g, table-silent s h (d.silent t k l g));
      last = λ {h} t k l g f. last_read s count message pieces d t k l g f;
      once = λ {h} t g. (readings_are s h ∙ d.once t g, once_read s count message pieces d cut.some t g);
    }
