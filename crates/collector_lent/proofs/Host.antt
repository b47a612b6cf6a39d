-- Demand 3 over `collect_after`, which is the whole promise of `dsg_collect`: the record and the buffers are the collector's, and the numbers
-- go by what it answers.
--
--   demand_3_host     from any lent record that holds nothing, or another count or number; under the strict setting where the cuts pass
-- Trusts: nothing.
use Prim.Native.Nat.{ℕ, ◌+◌, ◌-◌, ◌≤◌, min}
use mathlib.Core.Path.{◌≡◌, refl, sym, ap, ◌∙◌}
use mathlib.Core.Bool.{Bool, true, false, cond}
use mathlib.Core.List.{List, [], ◌∷◌}
use native.Mathlib.Omega.{arith}
use lib.ListN.{length, take, drop, length-take, length-drop}
use lib.Seq.{take-length}
use lib.Dec.{eqb}
use Rattle.collection.specs.Record.{is_strict}
use Rattle.collector.specs.Answers.{Said, refused, again, waiting, complete, dropped, lent_of}
use Rattle.collector.specs.Step.{After}
use Rattle.collector_demands.specs.Demand.{Lent, called, lent_after, is_complete, completions, Cutting, Passes, Apart, Demand3}
use Rattle.collector_demands.proofs.Demands.{demand_3}
use Rattle.dsg_pieces.specs.Bodies.{collected_of, CollectAfter, collected_as}
use Rattle.collector_lent.specs.Host.{hosts, keeps, host_after, holder_of, named_by, is_named, named, HostOnce}
use Rattle.collector_lent.proofs.Calls.{left_by_same}
use Rattle.collector_lent.proofs.Lent.{message-at, elsewhere}

-- kinds 3 and 4 are said of a complete message only
named-complete : (a : Said) (number : ℕ) → is_named (collected_of a number).kind ≡ is_complete a
named-complete (refused n) number = refl
named-complete again number = refl
named-complete (waiting k) number = refl
named-complete (complete n) number = go (eqb number 1) refl where
  go : (t : Bool) → eqb number 1 ≡ t → is_named (collected_of (complete n) number).kind ≡ 1
  go true e = rw e refl
  go false e = rw e refl
named-complete (dropped cut) number = refl

-- and what they name is the message, all of it inside
abbrev Names : CollectAfter → ℕ → List ℕ → List ℕ → Type 0
Names x of' body message = (x.answer.kind ≡ cond (eqb of' 1) 3 4) × (x.answer.length ≡ length message)
    × (x.answer.start + x.answer.length ≤ length (holder_of x body)) × (named_by x body ≡ message)

named-message : (a : After) (of' : ℕ) (body message : List ℕ) → a.answer ≡ complete (length message) → a.held.number ≡ of'
    → lent_of a.answer a.held.number body a.join ≡ message → 3 ≤ length body → Names (collected_as a) of' body message
unfolding lent_of
named-message a of' body message d q m l = rw (← q) (go (eqb a.held.number 1) refl) where
  go : (t : Bool) → eqb a.held.number 1 ≡ t → Names (collected_as a) a.held.number body message
  go true e =
      let own : drop 3 body ≡ message = rw (d, e) at m in
      let size : length body - 3 ≡ length message = sym (length-drop 3 body) ∙ ap length own in
      (rw (d, e) refl, rw (d, e) refl, rw (d, e) (omega arith), rw (d, e) (ap (take (length message)) own ∙ take-length message))
  go false e =
      let front : take (length message) a.join ≡ message = rw (d, e) at m in
      let size : min (length message) (length a.join) ≡ length message = sym (length-take (length message) a.join) ∙ ap length front in
      (rw (d, e) refl, rw (d, e) refl, rw (d, e) (omega arith), rw (d, e) front)

host_is : (s : Lent) (h : List (List ℕ)) → host_after s h ≡ lent_after s h
host_is = left_by_same (λ s b. keeps (hosts s b)) (λ s b. refl)

named_are : (s : Lent) (h : List (List ℕ)) → named s h ≡ completions s h
unfolding named completions
named_are s [] = refl
named_are s (b ∷ h) =
    let a = called (lent_after s h) b in
    rw (host_is s h, named_are s h) (ap (λ (n : ℕ). n + completions s h) (named-complete a.answer a.held.number))

host : (s : Lent) (count : ℕ) (message : List ℕ) (pieces : List (List ℕ)) → Demand3 s count message pieces → HostOnce s count message pieces
host s count message pieces d = record {
  silent = λ {h} t k l g. named_are s h ∙ d.silent t k l g;
  once = λ {h} t g. named_are s h ∙ d.once t g;
  last = λ {b} {h} t x.
      let m = message-at s count message pieces d t x in
      rw (host_is s h) (named-message (called (lent_after s h) b) (length pieces) b message m.answer m.number m.lent m.headed);
  other = λ {b} {h} t no'.
      let a = called (lent_after s h) b in
      rw (host_is s h) (named-complete a.answer a.held.number ∙ elsewhere s count message pieces d t no');
}

pub demand_3_host : (s : Lent) → 24000 ≤ length s.slots → 24000 ≤ length s.join → (count : ℕ) (message : List ℕ) (pieces : List (List ℕ)) → Cutting message pieces
    → (is_strict s.held ≡ true → Passes message pieces) → Apart s.held count (length pieces) → HostOnce s count message pieces
demand_3_host s room space count message pieces cut passes apart = host s count message pieces (demand_3 s room space count message pieces cut passes apart)
