-- A loop that writes an element for each entry of a list and keeps the record of the pieces (specs/Filling.antt).
--
--   Adding ..       after i turns the elements of the first i entries are written, each of at most `most` bytes, and are in the record
--   Begun ..        what the loop is begun with: short elements, few entries, room for all of them
--   adding_none     before the first turn              adding_length    the array keeps its length
--   adding_filled   the record takes another element
--   adding_lined    the next element, as it was written     adding_size     and that it is short
--   adding_more     one element more                   adding_all       after the last turn
--   added_same      of the same entries
-- Trusts: nothing.
use Prim.Native.Nat.{ℕ, ◌+◌, ◌*◌, ◌-◌, ◌≤◌, ◌<◌}
use mathlib.Core.Path.{◌≡◌, refl, sym, ap, subst, ◌∙◌}
use mathlib.Core.List.{List, [], ◌∷◌, ◌++◌, map, map-append}
use native.Mathlib.Omega.{arith}
use native.Mathlib.Numerals.{add-one}
use lib.ListN.{length, get_or, take}
use lib.Seq.{take-suc, take_all}
use Rattle.texts.specs.Writing.{Lined}
use Rattle.texts.proofs.Turns.{Turned, turned_none, turned_length, turned_room, turned_more, turned_all}
use Rattle.writing_numbers.specs.Within.{put_within}
use Rattle.writing_numbers.proofs.Within.{within→lined}
use Rattle.writing_message.specs.Message.{cut_on, cut_all}
use Rattle.writing_message.specs.Filling.{Filled, Added}
use Rattle.writing_message.specs.declared.Cut.{Cut}
use Rattle.writing_message.specs.declared.Message.{Message}
use Rattle.writing_message.proofs.Filled.{filled_le, filled_more, cut_all-append}

pub record Adding {A : Type 0} (most : ℕ) (line : A → List ℕ) (l : List A) (held : List ℕ) (m : Message) (i : ℕ) (new : List ℕ) (next : ℕ) (c : Cut) : Type 0 where
  pub turned : Turned most line l held m.length i new next
  pub cut : c ≡ cut_all m.cut (map length (map line (take i l)))
  pub filled : Filled next c

-- what the loop is begun with
pub record Begun {A : Type 0} (most : ℕ) (line : A → List ℕ) (l : List A) (held : List ℕ) (m : Message) : Type 0 where
  pub short : (x : A) → length (line x) ≤ most
  pub small : most ≤ 256
  pub few : length l ≤ 32
  pub size : length held ≡ 5632
  pub room : m.length + most * 32 ≤ 5632

module _ {A : Type 0} {most : ℕ} {line : A → List ℕ} {l : List A} {held : List ℕ} {m : Message} where
  pub adding_none : Filled m.length m.cut → Adding most line l held m 0 held m.length m.cut
  unfolding cut_all
  adding_none f = record { turned = turned_none most 32 line l held m.length; cut = refl; filled = f }

  module _ (b : Begun most line l held m) {i next : ℕ} {new : List ℕ} {c : Cut} (a : Adding most line l held m i new next c) where
    fits : m.length + most * 32 ≤ length held
    fits = omega (arith, b.size, b.room)

    pub adding_length : length new ≡ length held
    adding_length = turned_length most 32 line l held m.length b.few fits a.turned

    module _ (h : i < length l) where
      next-room : next + most ≤ length new
      next-room = turned_room most 32 line l held m.length b.few fits a.turned h

      pub adding_filled : Filled 5632 c
      adding_filled = filled_le (omega (arith, adding_length, b.size, next-room)) a.filled

      module _ (x : A) {last : List ℕ} {end : ℕ} (e : record { next = end; out = last } ≡ put_within most (line x) new next) where
        pub adding_lined : Lined most new next (line x) last end
        adding_lined = within→lined most (line x) new next next-room (b.short x) e

        pub adding_size : (next ≤ end) × (end - next ≤ 256)
        adding_size = let w = adding_lined in (omega (arith, w.wrote.place), omega (arith, w.wrote.place, w.short.bytes, b.small))

        pub adding_more : (d : A) → get_or l i d ≡ x → {k : Cut} → k ≡ cut_on (end - next) c → Adding most line l held m (i + 1) last end k
        unfolding cut_all
        adding_more d same f =
            let w = adding_lined in
            let n : end - next ≡ length (line x) = omega (arith, w.wrote.place) in
            let is : map length (map line (take (i + 1) l)) ≡ map length (map line (take i l)) ++ (length (line x) ∷ []) =
            rw (add-one i, take-suc l i d h, same, map-append line (take i l) (x ∷ []), map-append length (map line (take i l)) (line x ∷ [])) refl in
            record {
              turned = turned_more most 32 line l held m.length b.few fits a.turned d same h w;
              cut = f ∙ rw (n, a.cut, is) (sym (cut_all-append m.cut (map length (map line (take i l))) (length (line x) ∷ [])));
              filled = rw f (filled_le (omega (arith, adding_size.0)) (filled_more adding_size.1 a.filled));
            }

    pub adding_all : length l ≤ i → Added (most * 32) line l held m new (record { length = next; cut = c })
    adding_all h =
        record {
          lined = turned_all most 32 line l held m.length b.few fits a.turned h;
          cut = a.cut ∙ ap (λ (x : List A). cut_all m.cut (map length (map line x))) (take_all i l h);
          filled = a.filled;
        }

-- the entries that are passed are those of the table
pub added_same : {A : Type 0} {most : ℕ} {line : A → List ℕ} {xs l : List A} {held new : List ℕ} {m r : Message} → xs ≡ l → Added most line xs held m new r → Added most line l held m new r
added_same {A} {most} {line} {xs} {l} {held} {new} {m} {r} same a = subst (λ (x : List A). Added most line x held m new r) same a
