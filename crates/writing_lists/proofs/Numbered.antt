-- Laws of the loops over a list of entries with numbers: over the used ones, then over the others (specs/Lists.antt).
--
--   front_item, behind_item                  an entry of the first n places, and one of those behind them
--   Used sound number n l ids fit i          i used entries are passed: their numbers are noted, and `fit` says whether each is sound with a number of its own
--   used_none, used_more                     before the first; one more is passed
--   Unused sound unused number n l fit i     i places are passed, the used ones among them
--   unused_none, unused_more, unused_end     behind the used ones; one more is passed; behind the last
-- Trusts: nothing.
use Prim.Native.Nat.{ℕ, suc, ◌+◌, ◌-◌, ◌≤◌, ◌<◌}
use mathlib.Core.Path.{◌≡◌, refl, sym, ap, subst, ◌∙◌}
use mathlib.Core.Bool.{Bool, true, false, not, ◌&&◌, and_assoc, and-true}
use mathlib.Core.List.{List, [], ◌∷◌, map, map-append}
use native.Mathlib.Omega.{arith}
use native.Mathlib.Numerals.{add-one}
use lib.ListN.{length, take, drop, get_or, set, replicate, length-set, length-drop, drop_of_length-le}
use lib.Seq.{take-suc, take-suc-set, drop-cons, take_all, length-take-le, get_or-take, get_or-drop}
use Rattle.table.specs.Table.{limited_to}
use Rattle.listed.specs.Listed.{is_listed, is_distinct, is_among}
use Rattle.listed.proofs.Laws.{is_among-front, distinct_last}
use Rattle.writing_entries.specs.Entries.{all_of, list_fits}
use Rattle.writing_entries.proofs.Laws.{all_of_append}

-- an entry of the first n places, and one of those behind them
pub front_item : {A : Type 0} (l : List A) (n i : ℕ) (x : A) → n ≤ length l → i < length (take n l) → x ≡ get_or (take n l) i x → (i < n) × (get_or l i x ≡ x)
front_item l n i x m h e =
    let k : i < n = omega (arith, length-take-le n l m) in
    (k, sym (get_or-take n l i x k) ∙ sym e)

pub behind_item : {A : Type 0} (l : List A) (n i : ℕ) (x : A) → n ≤ length l → i < length (take (length l - n) (drop n l)) → x ≡ get_or (take (length l - n) (drop n l)) i x
    → (n + i < length l) × (get_or l (n + i) x ≡ x)
behind_item l n i x m h e =
    let whole : take (length l - n) (drop n l) ≡ drop n l = take_all (length l - n) (drop n l) (omega (arith, length-drop n l)) in
    (omega (arith, ap length whole, length-drop n l), sym (get_or-drop n l i x) ∙ sym (ap (λ (z : List _). get_or z i x) whole) ∙ sym e)

-- the used entries that are passed: their numbers are noted
pub record Used {A : Type 0} (sound : A → Bool) (number : A → ℕ) (n : ℕ) (l : List A) (ids : List ℕ) (fit : Bool) (i : ℕ) : Type 0 where
  pub small : i ≤ n
  pub limit : n ≤ 32
  pub room : length l ≡ 32
  pub idroom : length ids ≡ 32
  pub noted : take i ids ≡ map number (take i l)
  pub told : fit ≡ (all_of sound (take i l) && is_distinct (map number (take i l)))

-- the places that are passed, the used ones among them
pub record Unused {A : Type 0} (sound unused : A → Bool) (number : A → ℕ) (n : ℕ) (l : List A) (fit : Bool) (i : ℕ) : Type 0 where
  pub small : i ≤ 32
  pub room : length l ≡ 32
  pub rest : fit && all_of unused (drop i l) ≡ (list_fits sound unused n l && is_distinct (map number (take n l)))

module _ {A : Type 0} {sound : A → Bool} {number : A → ℕ} {n : ℕ} {l : List A} where
  pub used_none : n ≤ 32 → length l ≡ 32 → Used sound number n l (replicate 32 0) true 0
  unfolding all_of
  used_none h e = record { small = omega arith; limit = h; room = e; idroom = refl; noted = refl; told = refl }

  module _ {ids : List ℕ} {fit : Bool} {i : ℕ} (p : Used sound number n l ids fit i) where
    used_at : i < n → (d : A) → {good heard : Bool} → good ≡ sound (get_or l i d) → heard ≡ is_among (number (get_or l i d)) (limited_to 32 i) ids
        → Used sound number n l (set ids i (number (get_or l i d))) (fit && (good && not heard)) (i + 1)
    unfolding all_of
    used_at h d {good} {heard} e f =
        let x = get_or l i d in
        let k : i < length l = omega arith in
        let m : i < length ids = omega arith in
        let among : heard ≡ is_listed (number x) (map number (take i l)) = f ∙ is_among-front (number x) i ids p.idroom ∙ ap (λ (s : List ℕ). is_listed (number x) s) p.noted in
        record {
          small = omega arith;
          limit = p.limit;
          room = p.room;
          idroom = length-set ids i (number x) ∙ p.idroom;
          noted = rw (add-one i, take-suc-set ids i (number x) m, take-suc l i d k, map-append number (take i l) (x ∷ []), p.noted);
          told = rw (add-one i, take-suc l i d k, all_of_append sound (take i l) (x ∷ []), map-append number (take i l) (x ∷ []), distinct_last (map number (take i l)) (number x), p.told, e, among)
              (on (all_of sound (take i l)) (is_distinct (map number (take i l))) (sound x) (not (is_listed (number x) (map number (take i l)))));
        }
      where
        on : (a b c d : Bool) → a && b && (c && d) ≡ a && (c && true) && (b && d)
        on true true true d = refl
        on true true false d = refl
        on true false true d = refl
        on true false false d = refl
        on false b c d = refl

    -- the entry x, which has the number m
    pub used_more : i < n → (x : A) → get_or l i x ≡ x → {m : ℕ} → m ≡ number x → {good heard : Bool} → good ≡ sound x → heard ≡ is_among m (limited_to 32 i) ids
        → Used sound number n l (set ids i m) (fit && (good && not heard)) (i + 1)
    used_more h x same {m} e {good} {heard} f g =
        let k : number (get_or l i x) ≡ m = ap number same ∙ sym e in
        subst (λ (y : ℕ). Used sound number n l (set ids i y) (fit && (good && not heard)) (i + 1)) k
        (used_at h x (f ∙ ap sound (sym same)) (g ∙ ap (λ (y : ℕ). is_among y (limited_to 32 i) ids) (sym k)))

    pub unused_none : {unused : A → Bool} → n ≤ i → Unused sound unused number n l fit i
    unused_none {unused} h =
        let k : i ≡ n = omega arith in
        record { small = omega arith; room = p.room; rest = rw (p.told, k) (on (all_of sound (take n l)) (is_distinct (map number (take n l))) (all_of unused (drop n l))) }
      where
        on : (a b c : Bool) → a && b && c ≡ c && a && b
        on true true true = refl
        on true true false = refl
        on true false true = refl
        on true false false = refl
        on false b true = refl
        on false b false = refl

module _ {A : Type 0} {sound unused : A → Bool} {number : A → ℕ} {n : ℕ} {l : List A} {fit : Bool} {i : ℕ} (p : Unused sound unused number n l fit i) where
  pub unused_more : i < 32 → (x : A) → get_or l i x ≡ x → {good : Bool} → good ≡ unused x → {j : ℕ} → j ≡ i + 1 → Unused sound unused number n l (fit && good) j
  unfolding all_of
  unused_more h x same e f =
      let k : i < length l = omega arith in
      rw f (record { small = omega arith; room = p.room; rest = rw (e ∙ ap unused (sym same), add-one i, and_assoc fit (unused (get_or l i x)) (all_of unused (drop (suc i) l))) (rw (drop-cons l i x k) at p.rest) })

  pub unused_end : 32 ≤ i → {m : ℕ} → n ≡ m → fit ≡ (list_fits sound unused m l && is_distinct (map number (take m l)))
  unfolding all_of
  unused_end h e = let k : length l ≤ i = omega arith in rw (← e) (sym (and-true fit) ∙ rw (drop_of_length-le l k) at p.rest)
