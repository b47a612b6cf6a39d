-- What is written, collected in any order, is read as the same table (document 02, Req 01, with demand 3).
--
--   joined_is            the collector's word for pieces one behind the other and the writer's say the same
--   pieces_five          a table makes at most five pieces
--   written_cutting      the pieces are a cutting of the message in the sense of demand 3: 1 to 16 of at most 1,497 bytes
--   written_passes       no piece ends where it may not (document 02, Req 04): a strict collection never answers 21
--   written-received     all pieces arrived, in any order and with repeats and refused bodies between, under either setting: read once, and the table
--                        is the one that was written
-- Trusts: nothing.
use Prim.Native.Nat.{ℕ, zero, suc, ◌≤◌, ◌<◌}
use mathlib.Core.Path.{◌≡◌, refl, ap, ◌∙◌}
use mathlib.Core.List.{List, [], ◌∷◌, ◌++◌}
use native.Mathlib.Omega.{arith}
use lib.ListN.{length, length-append}
use Rattle.wire.specs.Bytes.{concat}
use Rattle.table.specs.declared.Table.{Table}
use Rattle.reader.specs.Read.{Reading}
use Rattle.writing_cuts.specs.Pieces.{pieces_from, pieces_of, ElementSized, none, more}
use Rattle.writing_cuts.proofs.Pieces.{concat_pieces, pieces_some, pieces_short, pieces_few}
use Rattle.writing_elements.specs.Encode.{elements_of, message_of}
use Rattle.writing_elements.proofs.Messages.{length-message_of}
use Rattle.writing_message.proofs.Sized.{elements_of_sized}
use Rattle.writing_laws.specs.Claims.{Producible}
use Rattle.writing_laws.proofs.Back.{read_table_back}
use Rattle.collector_demands.specs.Demand.{concat as joined, Cutting, Arrived, Came, Passes, Apart}
use Rattle.collector_demands.proofs.Between.{between_good}
use Rattle.receiver_demands.specs.EndToEnd.{Kept, kept_after, readings}
use Rattle.receiver_demands.proofs.Demands.{demand_3_read}
use Rattle.writing_demands.proofs.Wholes.{pieces_whole}

joined_is : (ps : List (List ℕ)) → joined ps ≡ concat ps
unfolding joined concat
joined_is [] = refl
joined_is (p ∷ ps) = ap (λ (l : List ℕ). p ++ l) (joined_is ps)

-- no byte, no element, one piece
nothing : {es : List (List ℕ)} → ElementSized es → length (concat es) ≡ 0 → length (pieces_of es) ≡ 1
unfolding concat pieces_of pieces_from
nothing none e = refl
nothing (more {e = x} {es = es} l u s) e = absurd (omega (arith, length-append x (concat es)))

pub pieces_five : (t : Table) → length (pieces_of (elements_of t)) ≤ 5
unfolding message_of
pieces_five t = on (length (message_of t)) refl
  where
    on : (n : ℕ) → length (message_of t) ≡ n → length (pieces_of (elements_of t)) ≤ 5
    on zero e = omega (arith, nothing (elements_of_sized t) e)
    on (suc n) e = omega (arith, pieces_few (elements_of_sized t) (omega arith), length-message_of t)

pub written_cutting : (t : Table) → Cutting (message_of t) (pieces_of (elements_of t))
unfolding message_of
written_cutting t =
    record { whole = joined_is (pieces_of (elements_of t)) ∙ concat_pieces (elements_of t); some = pieces_some (elements_of t); few = omega (arith, pieces_five t); short = pieces_short (elements_of_sized t) }

pub written_passes : (t : Table) → Passes (message_of t) (pieces_of (elements_of t))
written_passes t = between_good (message_of t) (pieces_of (elements_of t)) (written_cutting t).whole (pieces_whole t)

module _ (t : Table) (g : Producible t) (s : Kept) (room : 24000 ≤ length s.slots) (space : 24000 ≤ length s.join) (count : ℕ) (apart : Apart s.held count (length (pieces_of (elements_of t)))) where
  pub written-received : {h : List (List ℕ)} (a : Arrived count (pieces_of (elements_of t)) h) → ((k : ℕ) → k < length (pieces_of (elements_of t)) → Came k a) → (readings s h ≡ 1) × ((kept_after s h).table ≡ t)
  written-received a all =
      let r = (demand_3_read s room space count (message_of t) (pieces_of (elements_of t)) (written_cutting t) (λ strict. written_passes t) apart).once a all in
      (r.0, r.1 ∙ ap (λ (x : Reading). x.table) (read_table_back t g s.table))
