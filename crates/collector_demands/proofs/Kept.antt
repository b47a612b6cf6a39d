-- What a step keeps, and the length of a cut message.
--
--   join_kept      the join buffer keeps its length
--   whole-all      all pieces together are the message        length_cut     at most 23,952 bytes
-- Trusts: nothing.
use Prim.Native.Nat.{ℕ, zero, suc, ◌*◌, ◌-◌, ◌≤◌, ◌<◌}
use mathlib.Core.Path.{◌≡◌, refl, sym, ap, ◌∙◌}
use mathlib.Core.Bool.{Bool, true, false, cond}
use mathlib.Core.List.{List, [], ◌∷◌, ◌++◌, append_assoc, append-nil}
use native.Mathlib.Omega.{arith}
use borrow.Author.Tests.{eqb-true}
use lib.ListN.{length, get_or, drop, take, length-append, length-drop}
use lib.Seq.{take-suc, take-length}
use lib.Dec.{eqb}
use Rattle.wire.specs.Bytes.{pasted}
use Rattle.collector.specs.Answers.{refused, again, waiting, complete}
use Rattle.held.specs.Held.{empty_slots}
use Rattle.joining.specs.Pieces.{joined}
use Rattle.body_tests.specs.Refusals.{slot_of, piece_of, refusal_of}
use Rattle.collector.specs.Step.{relation_of, base_of, noted, after, settled, finished, accepted, collect_step}
use Rattle.collection.specs.declared.Collection.{Collection}
use Rattle.joining.proofs.Laws.{length-joined}
use Rattle.body_tests.proofs.Laws.{fits_of, refusal_of-room}
use Rattle.collector.proofs.LawsStep.{base_of_number, noted-short}
use Rattle.collector_demands.specs.Demand.{concat, Cutting}
use Rattle.collector_demands.proofs.Missing.{whole_to}

-- ---- the join buffer keeps its length

finished-join : (next : Collection) (slots join : List ℕ) (len : ℕ) → length (joined slots next.lengths next.number) ≤ length join → length (finished next slots join len).join ≡ length join
unfolding finished
finished-join next slots join len h = go (eqb (empty_slots next.filled next.number) 0) (eqb next.number 1) where
  go : (t u : Bool) → length (cond t (cond u (after (complete len) next slots join)
      (after (settled next (joined slots next.lengths next.number)).answer (settled next (joined slots next.lengths next.number)).held slots
      (joined slots next.lengths next.number ++ drop (length (joined slots next.lengths next.number)) join)))
      (after (waiting (empty_slots next.filled next.number)) next slots join)).join ≡ length join
  go true true = refl
  go true false = simp (length-append, length-drop) (omega arith)
  go false u = refl

pub join_kept : (r : Collection) (slots join b : List ℕ) → length (collect_step r slots join b).join ≡ length join
unfolding collect_step accepted
join_kept r slots join b = go (eqb (refusal_of (length slots) (length join) b) 0) refl (eqb (relation_of r slots b) 1) where
  go : (t : Bool) → eqb (refusal_of (length slots) (length join) b) 0 ≡ t → (u : Bool) → length (cond t (cond u (after again r slots join)
      (finished (noted (base_of (relation_of r slots b) r b) (slot_of b) (length b - 3)) (pasted slots (slot_of b * 1500) (piece_of b)) join (length b - 3)))
      (after (refused (refusal_of (length slots) (length join) b)) r slots join)).join ≡ length join
  go true e true = refl
  go true e false =
      let room = refusal_of-room (length slots) (length join) b (eqb-true _ _ e) in
      let fit = fits_of b room.2 in
      let n = base_of_number r slots b in
      finished-join (noted (base_of (relation_of r slots b) r b) (slot_of b) (length b - 3)) (pasted slots (slot_of b * 1500) (piece_of b)) join (length b - 3)
      (omega (
        arith,
        room.1,
        length-joined (pasted slots (slot_of b * 1500) (piece_of b)) (noted (base_of (relation_of r slots b) r b) (slot_of b) (length b - 3)).lengths (base_of (relation_of r slots b) r b).number
            (λ k q. noted-short r slots b k fit.most (omega arith)),
      ))
  go false e u = refl

-- ---- a cut message

concat-append : (a b : List (List ℕ)) → concat (a ++ b) ≡ concat a ++ concat b
unfolding concat
concat-append [] b = refl
concat-append (x ∷ a) b = rw (concat-append a b) (sym (append_assoc x (concat a) (concat b)))

whole_take : (ps : List (List ℕ)) (n : ℕ) → n ≤ length ps → whole_to (λ k. get_or ps k []) n ≡ concat (take n ps)
unfolding whole_to concat
whole_take ps zero h = refl
whole_take ps (suc n) h =
    rw (take-suc ps n [] h, concat-append (take n ps) (get_or ps n [] ∷ []), whole_take ps n (omega arith), append-nil (get_or ps n [])) refl

pub whole-all : (ps : List (List ℕ)) → whole_to (λ k. get_or ps k []) (length ps) ≡ concat ps
whole-all ps = whole_take ps (length ps) (omega arith) ∙ ap concat (take-length ps)

length_whole : (p : ℕ → List ℕ) (n : ℕ) → ((k : ℕ) → k < n → length (p k) ≤ 1497) → length (whole_to p n) ≤ n * 1497
unfolding whole_to
length_whole p zero h = omega arith
length_whole p (suc n) h = simp length-append (omega (arith, length_whole p n (λ k q. h k (omega arith)), h n (omega arith)))

pub length_cut : (message : List ℕ) (pieces : List (List ℕ)) → Cutting message pieces → length message ≤ 23952
length_cut message pieces cut =
    let e = ap length (whole-all pieces ∙ cut.whole) in
    let few = cut.few in
    omega (arith, length_whole (λ k. get_or pieces k []) (length pieces) cut.short)
