-- Wrong writers, refuted: none of them meets the promise of `write_table` (document 02, Req 01).
--
--   no_refuse-all_tables     one that refuses every table
--   no_empty_dcd             one that writes the empty table for every table
--   no_inner-cut             one that cuts inside an element: every body in the buffer, behind its head, is whole elements
--
-- Each is over any function that meets the promise, not over ours.
-- Trusts: nothing.
use Prim.Native.Nat.{ℕ, ◌*◌, ◌≤◌, ◌<◌}
use mathlib.Core.Path.{◌≡◌, refl, sym, ap, subst, ◌∙◌}
use mathlib.Core.Bool.{true}
use mathlib.Core.List.{List, [], ◌∷◌}
use native.Mathlib.Omega.{arith}
use lib.ListN.{length, get_or, take, drop, replicate, length-replicate}
use Rattle.cuts.specs.Walks.{Elements}
use Rattle.element_tests.specs.Tests.{no_channel}
use Rattle.named.specs.Named.{unanswered}
use Rattle.table.specs.Table.{rules_of, classifiers_of, channels_of, empty_table}
use Rattle.table.specs.declared.Table.{Table}
use Rattle.collector_demands.specs.Demand.{body_of}
use Rattle.texts.specs.Text.{each}
use Rattle.writing_cuts.specs.Pieces.{pieces_from, pieces_of}
use Rattle.writing_elements.specs.Encode.{big_endian, channel_bytes, timer, timers_row, configuration_row, elements_of}
use Rattle.writing_entries.specs.Entries.{all_of, unused_client, unused_rule, unused_classifier}
use Rattle.writing_check.specs.Producible.{producible}
use Rattle.writing_table.specs.Writing.{Writing, writing}
use Rattle.writing_demands.proofs.Buffer.{pieces_in, writing-room, written-number, written-length, written_body}
use Rattle.writing_demands.proofs.Wholes.{pieces_whole}

-- a table with one channel
abbrev one_channel : Table
one_channel =
    record { rulecount = 0; classifiercount = 0; channelcount = 1; timers = empty_table.timers; channels = 62500 ∷ replicate 31 0; classifiers = empty_table.classifiers; rules = empty_table.rules }

both_producible : (producible empty_table ≡ true) × (producible one_channel ≡ true)
unfolding producible all_of unused_classifier unused_rule unused_client channels_of classifiers_of rules_of unanswered no_channel
both_producible = (refl, refl)

-- its body is longer than that of the empty table
pieces_differ : (pieces_in empty_table ≡ [] ∷ []) × (pieces_in one_channel ≡ (51 ∷ 6 ∷ 1 ∷ 4 ∷ 0 ∷ 0 ∷ 244 ∷ 36 ∷ []) ∷ [])
unfolding elements_of pieces_of pieces_from rules_of classifiers_of channels_of each big_endian channel_bytes timer timers_row configuration_row
pieces_differ = (refl, refl)

abbrev enough : List ℕ
enough = replicate 12000 0

has_room : 12000 ≤ length enough
has_room = omega (arith, length-replicate {A = ℕ} 12000 0)

module _ (f : ℕ → Table → List ℕ → Writing) (meets : (count : ℕ) (t : Table) (out : List ℕ) → f count t out ≡ writing count t out) where
  pub no_refuse-all_tables : ((count : ℕ) (t : Table) (out : List ℕ) → (f count t out).answer.refused ≡ 0 → ⊥) → ⊥
  no_refuse-all_tables never =
      never 0 empty_table enough (ap (λ (w : Writing). w.answer.refused) (meets 0 empty_table enough) ∙ writing-room 0 empty_table enough both_producible.0 has_room)

  pub no_empty_dcd : ((count : ℕ) (t : Table) (out : List ℕ) → f count t out ≡ f count empty_table out) → ⊥
  unfolding body_of
  no_empty_dcd same =
      let is : writing 0 one_channel enough ≡ writing 0 empty_table enough = sym (meets 0 one_channel enough) ∙ same 0 one_channel enough ∙ meets 0 empty_table enough in
      let one = written-length 0 one_channel enough (writing-room 0 one_channel enough both_producible.1 has_room) 0 (rw pieces_differ.1 (omega arith)) in
      let none = written-length 0 empty_table enough (writing-room 0 empty_table enough both_producible.0 has_room) 0 (rw pieces_differ.0 (omega arith)) in
      omega (arith, rw pieces_differ.1 at one, rw pieces_differ.0 at none, ap (λ (w : Writing). get_or w.answer.lengths 0 0) is)

  -- what stands in the buffer as body k, behind its head
  abbrev piece_in : Writing → ℕ → List ℕ
  piece_in w k = drop 3 (take (get_or w.answer.lengths k 0) (drop (k * 1500) w.out))

  whole_in : (count : ℕ) (t : Table) (out : List ℕ) → (writing count t out).answer.refused ≡ 0 → (k : ℕ) → k < length (pieces_in t) → Elements (piece_in (writing count t out) k)
  unfolding body_of
  whole_in count t out done k h =
      subst Elements
      (sym (ap (λ (n : ℕ). drop 3 (take n (drop (k * 1500) (writing count t out).out))) (written-length count t out done k h) ∙ ap (drop 3) (written_body count t out done k h))) (pieces_whole t k h)

  pub no_inner-cut : (count : ℕ) (t : Table) (out : List ℕ) → (f count t out).answer.refused ≡ 0 → (k : ℕ) → k < (f count t out).answer.number → (Elements (piece_in (f count t out) k) → ⊥) → ⊥
  no_inner-cut count t out done k h inner =
      let e = meets count t out in
      let done' : (writing count t out).answer.refused ≡ 0 = ap (λ (w : Writing). w.answer.refused) (sym e) ∙ done in
      inner (subst (λ (w : Writing). Elements (piece_in w k)) (sym e) (whole_in count t out done' k (omega (arith, h, ap (λ (w : Writing). w.answer.number) e, (written-number count t out done').0))))
