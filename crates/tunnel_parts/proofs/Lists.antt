-- Laws of `list_from` and `entries_of` (specs/Prepared.antt).
--
--   first_from_found, first_from_passed, first_from_end   `first_place` of the n elements, for a loop at place i
--   length_list_from      as many elements as were asked for
--   first_place_foreign   a frame that is no IPv4 packet: no entry of a tunnel matches
-- Trusts: nothing.
use mathlib.Core.Path.{◌≡◌, refl, sym, ap, ◌∙◌}
use mathlib.Core.Bool.{Bool, true, false, cond, not}
use mathlib.Core.List.{List}
use Prim.Native.Nat.{ℕ, zero, suc, ◌+◌, ◌-◌, ◌≤◌, ◌<◌}
use native.Mathlib.Nat.{add-zero}
use native.Mathlib.Numerals.{add-one}
use native.Mathlib.Omega.{arith}
use lib.ListN.{length}
use Rattle.std.specs.List.{position_or_len, prefix_len, range_with_len}
use Rattle.table.specs.Table.{limited_to}
use Rattle.order.specs.Best.{first_place}
use Rattle.order.proofs.Places.{first_place-none}
use Rattle.packets.specs.Packets.{Packet, packet_of}
use Rattle.matching.specs.Entry.{matches_entry}
use Rattle.matching.proofs.Entries.{matches_entry_not}
use Rattle.tunnel_parts.specs.declared.Tunnel.{Tunnel}
use Rattle.tunnel_parts.specs.Prepared.{entry_at, list_from, entries_of}

module _ {A : Type 0} (at : ℕ → A) where
  pub length_list_from : (i n : ℕ) → length (list_from at i n) ≡ n
  unfolding list_from
  length_list_from i zero = refl
  length_list_from i (suc n) = ap suc (length_list_from (suc i) n)

  module _ (ok : A → Bool) (n i : ℕ) (h : i < n) where
    step : first_place ok (list_from at i (n - i)) ≡ cond (ok (at i)) 0 (suc (first_place ok (list_from at (i + 1) (n - (i + 1)))))
    unfolding list_from first_place
    step =
        let e : n - i ≡ suc (n - (i + 1)) = omega arith in
        rw e (ap (λ (j : ℕ). cond (ok (at i)) 0 (suc (first_place ok (list_from at j (n - (i + 1)))))) (sym (add-one i)))

    pub first_from_found : ok (at i) ≡ true → i + first_place ok (list_from at i (n - i)) ≡ i
    first_from_found e = rw (step, e) (add-zero i)

    pub first_from_passed : ok (at i) ≡ false → i + first_place ok (list_from at i (n - i)) ≡ (i + 1) + first_place ok (list_from at (i + 1) (n - (i + 1)))
    first_from_passed e = rw (step, e) (omega arith)

  pub first_from_end : (ok : A → Bool) (n i : ℕ) → n ≤ i → i + first_place ok (list_from at i (n - i)) ≡ i
  unfolding list_from first_place
  first_from_end ok n i h =
      let e : n - i ≡ 0 = omega arith in
      rw e (add-zero i)

-- the first place in a range of places is that of the elements there
pub first_in_range : {A : Type 0} (at : ℕ → A) (ok : A → Bool) (i n : ℕ) → position_or_len (λ j. ok (at j)) (range_with_len i n) ≡ first_place ok (list_from at i n)
unfolding list_from first_place
first_in_range at ok i zero = refl
first_in_range at ok i (suc n) = go (ok (at i)) (first_in_range at ok (i + 1) n ∙ ap (λ (j : ℕ). first_place ok (list_from at j n)) (add-one i))
  where
    go : (b : Bool) → prefix_len (λ j. not (ok (at j))) (range_with_len (i + 1) n) ≡ first_place ok (list_from at (suc i) n)
        → cond (not b) (1 + prefix_len (λ j. not (ok (at j))) (range_with_len (i + 1) n)) 0 ≡ cond b 0 (suc (first_place ok (list_from at (suc i) n)))
    go true e = refl
    go false e = omega (arith, e)

pub first_place_foreign : (tu : Tunnel) (frame : List ℕ) (p : Packet) (n : ℕ)
    → n ≡ limited_to 32 tu.count → p ≡ packet_of frame → p.ipv4 ≡ false → n ≡ first_place (matches_entry frame) (entries_of tu)
unfolding entries_of
first_place_foreign tu frame p n e ep h =
    let none = first_place-none (matches_entry frame) (list_from (λ j. entry_at tu j) 0 (limited_to 32 tu.count)) (λ en m. matches_entry_not frame p ep h en) in
    e ∙ sym (length_list_from (λ j. entry_at tu j) 0 (limited_to 32 tu.count)) ∙ sym none
