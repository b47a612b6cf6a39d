-- Prepared: the verdict on a frame by a prepared tunnel alone.
--
--   entry_at tu i             the entry at a place of a tunnel
--   entries_of tu             the entries of any lent tunnel; a count above 32 is read as 32
--   entry_verdict tu fits     the verdict by the first entry that passes a test
--   prepared_verdict tu frame the verdict by a lent tunnel: the first entry that matches
--
-- Mode 0: no rule fits. Mode 1: the rule names no classifier. Any other: by the entries. Unused places are not looked at.
-- That both ways give one verdict is `prepared_same` in proofs/Same.antt of crate preparing. Trusts: nothing.
use Rattle.std.specs.Prelude.{ℕ, zero, suc, Bool, cond, not, List, [], ◌∷◌, get_or, ltb, eqb}
use Rattle.table.specs.Table.{limited_to}
use Rattle.order.specs.Best.{first_place}
use Rattle.matching.specs.declared.Entry.{Entry}
use Rattle.packets.specs.Packets.{wrong_length, address_at}
use Rattle.matching.specs.Entry.{matches_entry}
use Rattle.payloads.specs.Judged.{Verdict, Refused, Other, Forward, Filtered}
use Rattle.tunnel_parts.specs.declared.Tunnel.{Tunnel}

abbrev pub entry_at : Tunnel → ℕ → Entry
entry_at tu i = record {
  destination = get_or tu.destinations i 0;
  source = get_or tu.sources i 0;
  mask = get_or tu.masks i 0;
  start = get_or tu.starts i 0;
  end = get_or tu.ends i 0;
  number = get_or tu.numbers i 0;
  ports = get_or tu.ports i 0;
}

-- n elements from place i on
unfoldable pub list_from : {A : Type 0} → (ℕ → A) → ℕ → ℕ → List A
list_from at i zero = []
list_from at i (suc n) = at i ∷ list_from at (suc i) n

unfoldable pub entries_of : Tunnel → List Entry
entries_of tu = list_from (λ i. entry_at tu i) 0 (limited_to 32 tu.count)

-- the verdict by the first entry that passes a test
unfoldable pub entry_verdict : Tunnel → (Entry → Bool) → Verdict
entry_verdict tu fits =
    let place = first_place fits (entries_of tu) in
    cond (ltb place (limited_to 32 tu.count)) (Forward (get_or tu.numbers place 0)) Filtered

unfoldable pub prepared_verdict : Tunnel → List ℕ → Verdict
prepared_verdict tu frame =
    let place = first_place (matches_entry frame) (entries_of tu) in
    cond (wrong_length frame) (Refused 16)
    (cond (eqb tu.mode 0) (Refused 17)
    (cond (not (eqb (address_at frame) tu.address)) Other
    (cond (eqb tu.mode 1) (Forward 0)
    (cond (ltb place (limited_to 32 tu.count)) (Forward (get_or tu.numbers place 0)) Filtered))))
