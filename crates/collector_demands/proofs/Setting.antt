-- The setting of a record (document 02, Req 04) is chosen where the record is made, and kept by every call: whatever is lent and whatever is answered.
--
--   base_setting     the record that a piece is noted in has it     step_setting     so has what one body leaves
--   setting_kept     and what a history leaves
-- Trusts: nothing.
use Prim.Native.Nat.{ℕ, ◌*◌, ◌-◌}
use mathlib.Core.Path.{◌≡◌, refl, ◌∙◌}
use mathlib.Core.Bool.{Bool, true, false, cond}
use mathlib.Core.List.{List, [], ◌∷◌, ◌++◌}
use lib.ListN.{length, drop}
use lib.Dec.{eqb}
use Rattle.wire.specs.Bytes.{pasted}
use Rattle.cuts.specs.Cuts.{Ruling, all_good, bad_at, cuts_in}
use Rattle.collection.specs.Record.{empty_collection, is_strict}
use Rattle.collection.specs.declared.Collection.{Collection}
use Rattle.held.specs.Held.{empty_slots}
use Rattle.joining.specs.Pieces.{joined}
use Rattle.body_tests.specs.Refusals.{count_of, number_of, slot_of, piece_of, refusal_of}
use Rattle.relation.specs.Relation.{goes_on, repeats}
use Rattle.collector.specs.Answers.{refused, again, waiting, complete}
use Rattle.collector.specs.Step.{relation_of, base_of, noted, After, after, settled_by, settled, finished, accepted, collect_step}
use Rattle.collector_demands.specs.Demand.{Lent, lent_after}

pub base_setting : (how : ℕ) (r : Collection) (body : List ℕ) → (base_of how r body).strict ≡ r.strict
unfolding base_of
base_setting how r body = go (eqb how goes_on) where
  go : (t : Bool) → (cond t r (empty_collection r.strict (count_of body) (number_of body))).strict ≡ r.strict
  go true = refl
  go false = refl

finished_setting : (next : Collection) (slots join : List ℕ) (len : ℕ) → (finished next slots join len).held.strict ≡ next.strict
unfolding finished settled
finished_setting next slots join len =
    go (eqb (empty_slots next.filled next.number) 0) (eqb next.number 1) (cond (is_strict next) (cuts_in whole next.lengths next.number) all_good)
  where
    whole : List ℕ
    whole = joined slots next.lengths next.number

    R : Bool → Bool → Ruling → After
    R t u v = cond t (cond u (after (complete len) next slots join)
        (after (settled_by v next whole).answer (settled_by v next whole).held slots (whole ++ drop (length whole) join)))
        (after (waiting (empty_slots next.filled next.number)) next slots join)

    go : (t u : Bool) (v : Ruling) → (R t u v).held.strict ≡ next.strict
    go true true v = refl
    go true false all_good = refl
    go true false (bad_at cut) = refl
    go false u v = refl

pub step_setting : (r : Collection) (slots join body : List ℕ) → (collect_step r slots join body).held.strict ≡ r.strict
unfolding collect_step accepted
step_setting r slots join body = go (eqb (refusal_of (length slots) (length join) body) 0) (eqb (relation_of r slots body) repeats) where
  next : Collection
  next = noted (base_of (relation_of r slots body) r body) (slot_of body) (length body - 3)

  put : List ℕ
  put = pasted slots (slot_of body * 1500) (piece_of body)

  go : (t u : Bool) → (cond t (cond u (after again r slots join) (finished next put join (length body - 3))) (after (refused (refusal_of (length slots) (length join) body)) r slots join)).held.strict
      ≡ r.strict
  go false u = refl
  go true true = refl
  go true false = finished_setting next put join (length body - 3) ∙ base_setting (relation_of r slots body) r body

pub setting_kept : (s : Lent) (h : List (List ℕ)) → (lent_after s h).held.strict ≡ s.held.strict
unfolding lent_after
setting_kept s [] = refl
setting_kept s (b ∷ h) = let x = lent_after s h in step_setting x.held x.slots x.join b ∙ setting_kept s h
