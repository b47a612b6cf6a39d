-- Bytes that stand at top level, and what they do to the reading: from the counts `u` and the table `t` to `v` and `next`.
--
--   Tops bs u t v next        at every place where the bytes stand: the reading goes on behind them with v and next
--   tops_none, tops_then      nothing, and two parts one behind the other
--   tops_element              an element that is tested, whose number is free, and that is taken up
--   tops_each                 a list of entries of one kind, no number twice
-- Trusts: nothing.
use Prim.Native.Nat.{ℕ, ◌+◌, ◌≤◌, ◌<◌}
use mathlib.Core.Path.{◌≡◌, refl, sym, ap, subst, ◌∙◌}
use mathlib.Core.Bool.{Bool, true, false, cond, not, ◌&&◌, ◌||◌}
use mathlib.Core.List.{List, [], ◌∷◌, ◌++◌, map, append_assoc, append-nil}
use native.Mathlib.Omega.{arith}
use native.Mathlib.Nat.{add-zero}
use borrow.Author.Tests.{eqb-true, eq-eqb}
use lib.ListN.{length, set, length-append}
use lib.Dec.{eqb}
use Rattle.table.specs.declared.Table.{Table}
use Rattle.children.specs.Rows.{row_in}
use Rattle.rows.specs.Rows.{element_of, tested_at}
use Rattle.rows.specs.declared.Tally.{Tally}
use Rattle.rows.specs.Rows.{Tested}
use Rattle.rows.proofs.Ways.{top_goes}
use Rattle.listed.specs.Listed.{is_listed, is_distinct}
use Rattle.listed.proofs.Laws.{listed_append}
use Rattle.reader.specs.Take.{with_element, is_taken}
use Rattle.reader.specs.Read.{read_row}
use Rattle.reader.proofs.LawsRead.{read_goes}
use Rattle.named.proofs.Lists.{map-append}
use Rattle.texts.specs.Text.{each}
use Rattle.writing_elements.specs.Encode.{element}
use Rattle.writing_elements.proofs.Stands.{Stands, stands_first, stands_then, stands_head}
use Rattle.writing_laws.specs.Claims.{All, none, more}
use Rattle.writing_laws.proofs.Segments.{passed}

abbrev pub tallied : List ℕ → Tally
tallied u = record { counts = u }

clash : ◌≡◌ {A = Bool} true false → ⊥
clash e = let z : ◌≡◌ {A = ℕ} 1 0 = ap (λ (c : Bool). cond {A = ℕ} c 1 0) e in omega arith

-- a number in a list without repeats is not among those before it
pub apart-before : (l : List ℕ) (n : ℕ) (r : List ℕ) → is_distinct (l ++ (n ∷ r)) ≡ true → is_listed n l ≡ false
apart-before [] n r d = refl
apart-before (x ∷ l) n r d = on (is_listed x (l ++ (n ∷ r))) (eqb x n) refl refl d (λ e. apart-before l n r e)
  where
    on : (a b : Bool) → is_listed x (l ++ (n ∷ r)) ≡ a → eqb x n ≡ b → not a && is_distinct (l ++ (n ∷ r)) ≡ true → (is_distinct (l ++ (n ∷ r)) ≡ true → is_listed n l ≡ false) → b || is_listed n l ≡ false
    on true b p q d rest = absurd (clash (sym d))
    on false true p q d rest = absurd (clash (sym (sees x n l r (eqb-true x n q)) ∙ p))
      where
        or_true : (b : Bool) → (b || true) ≡ true
        or_true true = refl
        or_true false = refl

        sees : (x n : ℕ) (l r : List ℕ) → x ≡ n → is_listed x (l ++ (n ∷ r)) ≡ true
        sees x n l r e = listed_append x l (n ∷ r) ∙ rw (eq-eqb n x (sym e)) (or_true (is_listed x l))
    on false false p q d rest = rest d

module _ (msg : List ℕ) where
  pub record Carries (at : ℕ) (bs u : List ℕ) (t : Table) (v : List ℕ) (next : Table) : Type 0 where
    pub goes : (given : Table) → read_row given msg (row_in msg at (length msg)) (tallied u) t ≡ read_row given msg (row_in msg (at + length bs) (length msg)) (tallied v) next

  abbrev pub Tops : List ℕ → List ℕ → Table → List ℕ → Table → Type 0
  Tops bs u t v next = (at : ℕ) → Stands msg at bs → Carries at bs u t v next

  pub tops_none : {u : List ℕ} {t : Table} → Tops [] u t u t
  tops_none {u} {t} at s = record { goes = λ given. ap (λ (k : ℕ). read_row given msg (row_in msg k (length msg)) (tallied u) t) (sym (add-zero at)) }

  pub tops_then : {u v w : List ℕ} {t next last : Table} (a b : List ℕ) → Tops a u t v next → Tops b v next w last → Tops (a ++ b) u t w last
  tops_then {w = w} {last = last} a b f g at s =
      let e : at + length a + length b ≡ at + length (a ++ b) = omega (arith, length-append a b) in
      record {
        goes = λ given.
            (f at (stands_first a b s)).goes given ∙ (g (at + length a) (stands_then a b s)).goes given
            ∙ ap (λ (k : ℕ). read_row given msg (row_in msg k (length msg)) (tallied w) last) e;
      }

  pub tops_element : {u : List ℕ} {t next : Table} (kind list n : ℕ) (v : List ℕ) → length v ≤ 254
      → ((at : ℕ) → Stands msg at (element kind v) → element_of msg 26 at (length v) u ≡ passed at list n)
      → ((at : ℕ) → Stands msg at (element kind v) → is_taken msg at t ≡ false)
      → ((at : ℕ) → Stands msg at (element kind v) → with_element msg at t ≡ next)
      → Tops (element kind v) u t (set u list n) next
  tops_element {u} {t} {next} kind list n v few fine free took at s =
      let e : at + 2 + length v ≡ at + length (element kind v) = omega arith in
      let r : Tested = record { bad = 0; off = at; next = at + 2 + length v; tally = tallied (set u list n) } in
      let h : r ≡ tested_at msg at (tallied u) = top_goes msg at (tallied u) (sym ((stands_head {v = v} s (length msg) few (omega (arith, s.fits))))) refl (sym (fine at s)) refl refl in
      record {
        goes = λ given.
            sym (read_goes msg at (tallied u) h (omega (arith, s.fits)) given t refl (free at s) (sym (took at s)))
            ∙ ap (λ (k : ℕ). read_row given msg (row_in msg k (length msg)) (tallied (set u list n)) next) e;
      }

  -- a list of entries of one kind, no number twice
  module _ {X : Type 0} (f : X → List ℕ) (P : X → Type 0) (number : X → ℕ) (limit : ℕ) (count : ℕ → List ℕ) (state : List X → Table)
      (one : (xs : List X) (x : X) → length xs < limit → P x → is_listed (number x) (map number xs) ≡ false → Tops (f x) (count (length xs)) (state xs) (count (length xs + 1)) (state (xs ++ (x ∷ [])))) where
    pub tops_each : (xs : List X) {ys : List X} → length xs + length ys ≤ limit → is_distinct (map number (xs ++ ys)) ≡ true → All P ys
        → Tops (each f ys) (count (length xs)) (state xs) (count (length (xs ++ ys))) (state (xs ++ ys))
    unfolding each
    tops_each xs h d none = subst (λ (l : List X). Tops [] (count (length xs)) (state xs) (count (length l)) (state l)) (sym (append-nil xs)) tops_none
    tops_each xs h d (more {x = y} {xs = ys} g gs) =
        let n : length xs + 1 ≡ length (xs ++ (y ∷ [])) = sym (length-append xs (y ∷ [])) in
        let free : is_listed (number y) (map number xs) ≡ false = apart-before (map number xs) (number y) (map number ys) (rw (map-append number xs (y ∷ ys)) at d) in
        let first = subst (λ (k : ℕ). Tops (f y) (count (length xs)) (state xs) (count k) (state (xs ++ (y ∷ [])))) n (one xs y (omega arith) g free) in
        let rest = subst (λ (l : List X). Tops (each f ys) (count (length (xs ++ (y ∷ [])))) (state (xs ++ (y ∷ []))) (count (length l)) (state l)) (append_assoc xs (y ∷ []) ys)
        (tops_each (xs ++ (y ∷ [])) (omega arith) (rw (append_assoc xs (y ∷ []) ys) d) gs) in
        tops_then (f y) (each f ys) first rest
