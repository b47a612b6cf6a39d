-- Both ways give one verdict: by the table, and by the tunnel that was prepared from it (specs/Judge.antt of tunnel, specs/Prepared.antt of tunnel_parts).
--
--   rule_verdict_same   one verdict for a chosen rule
--   prepared_same      one verdict for every table, client, UCID and frame
-- Trusts: nothing.
use mathlib.Core.Path.{◌≡◌, refl, sym, ap, ◌∙◌, fun_ext}
use mathlib.Core.Bool.{Bool, true, false, cond, not}
use mathlib.Core.List.{List, map}
use Prim.Native.Nat.{ℕ, ◌≤◌, ◌<◌}
use lib.Dec.{ltb, eqb}
use lib.ListN.{length, get_or, length-map, get_or-map}
use borrow.Author.Tests.{lt-ltb, le-ltb}
use Rattle.table.specs.declared.Client.{Client}
use Rattle.table.specs.declared.Rule.{Rule}
use Rattle.table.specs.declared.Classifier.{Classifier}
use Rattle.table.specs.declared.Table.{Table}
use Rattle.table.specs.Table.{limited_to, classifiers_of, empty_classifier}
use Rattle.choice.specs.Chose as choice
use Rattle.choice.specs.Chose.{Choice}
use Rattle.order.specs.Best.{first_place}
use Rattle.choice.specs.Choose.{Ucid, choice_of, rule_at}
use Rattle.choice.proofs.Laws.{get_or_there}
use Rattle.choice.proofs.Fits.{choice_of_17}
use Rattle.matching.specs.declared.Entry.{Entry}
use Rattle.tunnel_parts.specs.declared.Tunnel.{Tunnel}
use Rattle.payloads.specs.Judged.{Verdict, Refused, Other, Forward, Filtered}
use Rattle.packets.specs.Packets.{wrong_length, address_at}
use Rattle.tunnel.specs.Judge.{match_place, rule_verdict, choice_verdict, verdict_of}
use Rattle.matching.specs.Entry.{entry_of, matches_entry}
use Rattle.preparing.specs.Order.{named_in_order}
use Rattle.tunnel_parts.specs.Prepared.{entries_of, prepared_verdict}
use Rattle.preparing.specs.Preparing.{tunnel_of, rule_tunnel, choice_tunnel, prepared_tunnel}
use Rattle.matching.proofs.Entries.{matches_entry_of}
use Rattle.preparing.proofs.Read.{zero_entry, first_place-map, count-tunnel_of, entries_of-tunnel_of, number-tunnel_of}
use Rattle.preparing.proofs.Found.{first, less, Decided, match, nothing, decided}

module _ (t : Table) (rule : Rule) (frame : List ℕ) where
  -- the entries of the rule's tunnel: where the first match stands, and its number
  abbrev entries : List Entry
  entries = map entry_of (named_in_order t rule)

  enough : length entries ≤ 32
  enough = rw (length-map (named_in_order t rule) entry_of) (less t rule frame)

  place_same : first_place (matches_entry frame) entries ≡ first t rule frame
  place_same = first_place-map entry_of (matches_entry frame) (named_in_order t rule) ∙ ap (λ (f : Classifier → Bool). first_place f (named_in_order t rule)) (fun_ext (λ cl. matches_entry_of frame cl))

  number_same : (k : ℕ) → k < length (named_in_order t rule) → (get_or entries k zero_entry).number ≡ (get_or (named_in_order t rule) k empty_classifier).number
  unfolding entry_of
  number_same k h =
      let l : k < length entries = rw (length-map (named_in_order t rule) entry_of) h in
      ap (λ (e : Entry). e.number) (get_or_there entries k zero_entry (entry_of empty_classifier) l ∙ get_or-map entry_of (named_in_order t rule) k empty_classifier)

  module _ (mode address : ℕ) where
    matched : cond {A = Verdict} (ltb (first_place (matches_entry frame) (entries_of (tunnel_of mode address entries))) (limited_to 32 (tunnel_of mode address entries).count))
        (Forward (get_or (tunnel_of mode address entries).numbers (first_place (matches_entry frame) (entries_of (tunnel_of mode address entries))) 0)) Filtered
        ≡ cond (ltb (match_place t rule frame) (length (classifiers_of t))) (Forward (get_or (classifiers_of t) (match_place t rule frame) empty_classifier).number) Filtered
    matched = rw (entries_of-tunnel_of mode address entries enough, place_same, count-tunnel_of mode address entries enough, length-map (named_in_order t rule) entry_of) (go (decided t rule frame))
      where
        go : Decided t rule frame → cond {A = Verdict} (ltb (first t rule frame) (length (named_in_order t rule)))
            (Forward (get_or (tunnel_of mode address entries).numbers (first t rule frame) 0)) Filtered
            ≡ cond (ltb (match_place t rule frame) (length (classifiers_of t))) (Forward (get_or (classifiers_of t) (match_place t rule frame) empty_classifier).number) Filtered
        go (match h k e) =
            let l : first t rule frame < length entries = rw (length-map (named_in_order t rule) entry_of) h in
            rw (lt-ltb _ _ h, lt-ltb _ _ k) (ap Forward (number-tunnel_of mode address entries (first t rule frame) l ∙ number_same (first t rule frame) h ∙ e))
        go (nothing h k) = rw (le-ltb _ _ h, le-ltb _ _ k)

  pub rule_verdict_same : wrong_length frame ≡ false → prepared_verdict (rule_tunnel t rule) frame ≡ rule_verdict t rule frame
  unfolding rule_tunnel rule_verdict prepared_verdict tunnel_of
  rule_verdict_same w = rw w (go (eqb rule.numbercount 0))
    where
      go : (b : Bool) → cond {A = Verdict} (eqb (tunnel_of (cond b 1 2) rule.tunnel entries).mode 0) (Refused 17)
          (cond (not (eqb (address_at frame) (tunnel_of (cond b 1 2) rule.tunnel entries).address)) Other
          (cond (eqb (tunnel_of (cond b 1 2) rule.tunnel entries).mode 1) (Forward 0)
          (cond (ltb (first_place (matches_entry frame) (entries_of (tunnel_of (cond b 1 2) rule.tunnel entries))) (limited_to 32 (tunnel_of (cond b 1 2) rule.tunnel entries).count))
          (Forward (get_or (tunnel_of (cond b 1 2) rule.tunnel entries).numbers (first_place (matches_entry frame) (entries_of (tunnel_of (cond b 1 2) rule.tunnel entries))) 0)) Filtered)))
          ≡ cond (not (eqb (address_at frame) rule.tunnel)) Other
          (cond b (Forward 0) (cond (ltb (match_place t rule frame) (length (classifiers_of t))) (Forward (get_or (classifiers_of t) (match_place t rule frame) empty_classifier).number) Filtered))
      go true = refl
      go false = ap (λ (v : Verdict). cond (not (eqb (address_at frame) rule.tunnel)) Other v) (matched 2 rule.tunnel)

-- by length, by a refused choice, by a chosen rule
prepared_verdict-short : (tu : Tunnel) (frame : List ℕ) → wrong_length frame ≡ true → prepared_verdict tu frame ≡ Refused 16
unfolding prepared_verdict
prepared_verdict-short tu frame w = rw w

prepared_verdict-bare : (t : Table) (frame : List ℕ) (n : ℕ) → wrong_length frame ≡ false → prepared_verdict (choice_tunnel t (choice.Refused n)) frame ≡ Refused 17
unfolding choice_tunnel prepared_verdict tunnel_of
prepared_verdict-bare t frame n w = rw w

prepared_verdict-rule : (t : Table) (frame : List ℕ) (k : ℕ) → wrong_length frame ≡ false → prepared_verdict (choice_tunnel t (choice.Chosen k)) frame ≡ choice_verdict t frame (choice.Chosen k)
unfolding choice_tunnel choice_verdict
prepared_verdict-rule t frame k w = rule_verdict_same t (rule_at t k) frame w

-- one verdict for every table, client, UCID and frame
pub prepared_same : (t : Table) (c : Client) (u : Ucid) (frame : List ℕ) → prepared_verdict (prepared_tunnel t c u) frame ≡ verdict_of t c u frame
unfolding prepared_tunnel verdict_of choice_verdict
prepared_same t c u frame = go (wrong_length frame) (choice_of t c u) refl refl
  where
    go : (b : Bool) (ch : Choice) → wrong_length frame ≡ b → choice_of t c u ≡ ch → prepared_verdict (choice_tunnel t ch) frame ≡ cond b (Refused 16) (choice_verdict t frame ch)
    go true ch w e = prepared_verdict-short (choice_tunnel t ch) frame w
    go false (choice.Refused n) w e = prepared_verdict-bare t frame n w ∙ ap Refused (sym (choice_of_17 t c u n e).0)
    go false (choice.Chosen k) w e = prepared_verdict-rule t frame k w
