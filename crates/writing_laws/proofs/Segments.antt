-- Bytes that stand in a row, and what they do to its tests and to the fold over it: from the counts `u` and the state `so` to `v` and `next`.
--
--   Reads at bs u so v next   wherever the row ends: its tests go on behind the bytes with v, and its fold with next
--   Good bs u so v next       the same at every place where the bytes stand
--   good_none, good_then      nothing, and two parts one behind the other: what a row does is what its children do in turn
--   good_each                 a list of entries of one kind
--   good_child                an element that is tested and taken up
--   good_leaf, good_row       what an element of a known type is tested for, where its value is no row, and where it is one
--   row-tested, row_folded    a row that ends with these bytes
-- Trusts: nothing.
use Prim.Native.Nat.{ℕ, ◌+◌, ◌≤◌, ◌<◌}
use mathlib.Core.Path.{◌≡◌, refl, sym, ap, subst, ◌∙◌}
use mathlib.Core.Bool.{true, false}
use mathlib.Core.List.{List, [], ◌∷◌, ◌++◌, append_assoc, append-nil}
use native.Mathlib.Omega.{arith}
use native.Mathlib.Nat.{add-zero}
use borrow.Author.Tests.{eq-eqb, le-ltb}
use lib.ListN.{length, get_or, set, length-append}
use Rattle.elements.proofs.Laws.{head_at-end}
use Rattle.types.specs.Places.{type_under}
use Rattle.types.specs.declared.Known.{Known}
use Rattle.types.specs.declared.Length.TheVariants.{Bytes}
use Rattle.types.specs.declared.Values.{Values}
use Rattle.musts.specs.Musts.{lacks_must}
use Rattle.element_tests.specs.Tests.{stepped, second_copy, wrong_length, bad_value, is_full, own_tests}
use Rattle.element_tests.specs.Tests.{Step}
use Rattle.rows.specs.Tests.{is_row, row_end, none_counted}
use Rattle.rows.specs.Rows.{element_of, row_of}
use Rattle.rows.proofs.Ways.{row_ends, row_goes, elem_leaf, elem_row}
use Rattle.children.specs.Rows.{row_in, row_fold}
use Rattle.children.proofs.LawsFolds.{fold_stop, fold_item}
use Rattle.texts.specs.Text.{each}
use Rattle.writing_elements.specs.Encode.{big_endian, element}
use Rattle.writing_laws.specs.Claims.{All, none, more}
use Rattle.writing_elements.proofs.Stands.{Stands, stands_first, stands_then, stands_byte, stands_head, length-big_endian}
use Rattle.writing_laws.proofs.Known.{known}

-- a fine step
abbrev pub passed : ℕ → ℕ → ℕ → Step
passed at list n = stepped 0 at list n

module _ {A : Type 0} (msg : List ℕ) (parent own : ℕ) (step : ℕ → ℕ → A → A) where
  pub record Reads (at : ℕ) (bs u : List ℕ) (so : A) (v : List ℕ) (next : A) : Type 0 where
    pub tested : (end : ℕ) → at + length bs ≤ end → row_of msg parent own at end u ≡ row_of msg parent own (at + length bs) end v
    pub taken : (end : ℕ) → at + length bs ≤ end → row_fold step (row_in msg at end) so ≡ row_fold step (row_in msg (at + length bs) end) next

  abbrev pub Good : List ℕ → List ℕ → A → List ℕ → A → Type 0
  Good bs u so v next = (at : ℕ) → Stands msg at bs → Reads at bs u so v next

  pub good_none : {u : List ℕ} {so : A} → Good [] u so u so
  good_none {u} {so} at s =
      record {
        tested = λ end h. ap (λ (k : ℕ). row_of msg parent own k end u) (sym (add-zero at));
        taken = λ end h. ap (λ (k : ℕ). row_fold step (row_in msg k end) so) (sym (add-zero at));
      }

  pub good_then : {u v w : List ℕ} {so next last : A} (a b : List ℕ) → Good a u so v next → Good b v next w last → Good (a ++ b) u so w last
  good_then {w = w} {last = last} a b f g at s =
      let p = f at (stands_first a b s) in
      let q = g (at + length a) (stands_then a b s) in
      let e : at + length a + length b ≡ at + length (a ++ b) = omega (arith, length-append a b) in
      record {
        tested = λ end h. p.tested end (omega arith) ∙ q.tested end (omega arith) ∙ ap (λ (k : ℕ). row_of msg parent own k end w) e;
        taken = λ end h. p.taken end (omega arith) ∙ q.taken end (omega arith) ∙ ap (λ (k : ℕ). row_fold step (row_in msg k end) last) e;
      }

  -- a list of entries of one kind: `state` is what the first entries leave, `count` the counts after so many of them
  module _ {X : Type 0} (f : X → List ℕ) (P : X → Type 0) (limit : ℕ) (count : ℕ → List ℕ) (state : List X → A)
      (one : (xs : List X) (x : X) → length xs < limit → P x → Good (f x) (count (length xs)) (state xs) (count (length xs + 1)) (state (xs ++ (x ∷ [])))) where
    pub good_each : (xs : List X) {ys : List X} → length xs + length ys ≤ limit → All P ys
        → Good (each f ys) (count (length xs)) (state xs) (count (length (xs ++ ys))) (state (xs ++ ys))
    unfolding each
    good_each xs h none = subst (λ (l : List X). Good [] (count (length xs)) (state xs) (count (length l)) (state l)) (sym (append-nil xs)) good_none
    good_each xs h (more {x = y} {xs = ys} g gs) =
        let n : length xs + 1 ≡ length (xs ++ (y ∷ [])) = sym (length-append xs (y ∷ [])) in
        let first = subst (λ (k : ℕ). Good (f y) (count (length xs)) (state xs) (count k) (state (xs ++ (y ∷ [])))) n (one xs y (omega arith) g) in
        let rest = subst (λ (l : List X). Good (each f ys) (count (length (xs ++ (y ∷ [])))) (state (xs ++ (y ∷ []))) (count (length l)) (state l)) (append_assoc xs (y ∷ []) ys)
        (good_each (xs ++ (y ∷ [])) (omega arith) gs) in
        good_then (f y) (each f ys) first rest

  -- an element that is not refused, and what the fold makes of it
  pub good_child : {u : List ℕ} {so next : A} (kind list n : ℕ) (v : List ℕ) → length v ≤ 254
      → ((at : ℕ) → Stands msg at (element kind v) → element_of msg parent at (length v) u ≡ passed at list n)
      → ((at : ℕ) → Stands msg at (element kind v) → step at (length v) so ≡ next)
      → Good (element kind v) u so (set u list n) next
  good_child {u} {so} {next} kind list n v few fine took at s =
      let e : at + 2 + length v ≡ at + length (element kind v) = omega arith in
      record {
        tested = λ end h.
            sym (row_goes msg parent own at end u (sym ((stands_head {v = v} s end few (omega arith)))) refl (sym (fine at s)) refl refl)
            ∙ ap (λ (k : ℕ). row_of msg parent own k end (set u list n)) e;
        taken = λ end h.
            sym (fold_item step msg at end so (sym ((stands_head {v = v} s end few (omega arith)))) refl (sym (took at s)))
            ∙ ap (λ (k : ℕ). row_fold step (row_in msg k end) next) e;
      }

  -- a row that ends with the bytes
  module _ {at : ℕ} {bs u v : List ℕ} {so next : A} (r : Reads at bs u so v next) where
    pub row-tested : lacks_must parent v ≡ false → row_of msg parent own at (at + length bs) u ≡ record { bad = 0; off = own }
    unfolding row_end
    row-tested m =
        r.tested (at + length bs) (omega arith)
        ∙ sym (row_ends msg parent own (at + length bs) (at + length bs) v (sym ((head_at-end msg (at + length bs) (at + length bs) (omega arith)))) refl (simp m))

    pub row_folded : row_fold step (row_in msg at (at + length bs)) so ≡ next
    row_folded =
        r.taken (at + length bs) (omega arith)
        ∙ sym (fold_stop step msg (at + length bs) (at + length bs) next (sym ((head_at-end msg (at + length bs) (at + length bs) (omega arith)))) (λ len z. let c : ◌≡◌ {A = ℕ} 0 1 = cc in omega arith))

-- ---- what an element of a known type is tested for

-- tests 9 to 12 passed, the value's own wherever the element stands
pub record Fine (msg : List ℕ) (known : Known) (kind : ℕ) (v u : List ℕ) : Type 0 where
  pub listed : known.place ≡ 26 → ⊥
  pub few : length v ≤ 254
  pub copy : second_copy known.repeats (get_or u known.list 0) ≡ false
  pub size : wrong_length known.length (length v) ≡ false
  pub value : (at : ℕ) → Stands msg at (element kind v) → bad_value msg known.values at (length v) ≡ false
  pub room : is_full known.repeats known.room (get_or u known.list 0) (length v) ≡ false

module _ (msg : List ℕ) (parent : ℕ) (known : Known) (kind : ℕ) (v u : List ℕ) (typed : type_under parent kind ≡ known) (f : Fine msg known kind v u) (at : ℕ) (s : Stands msg at (element kind v)) where
  own_fine : own_tests msg known at (length v) (get_or u known.list 0) ≡ passed at known.list (get_or u known.list 0 + 1)
  unfolding own_tests
  own_fine = simp (f.copy, f.size, f.value at s, f.room)

  seen : known ≡ type_under parent (get_or msg at 0)
  seen = sym (ap (type_under parent) (stands_byte s) ∙ typed)

  pub leaf_fine : is_row known.length ≡ false → element_of msg parent at (length v) u ≡ passed at known.list (get_or u known.list 0 + 1)
  leaf_fine i =
      sym (elem_leaf msg parent at (length v) u (record { typed = seen; listed = f.listed; tests = sym own_fine }) refl refl i)

  pub row_fine : is_row known.length ≡ true → (row_of msg known.place at (at + 2) (at + 2 + length v) none_counted).bad ≡ 0
      → element_of msg parent at (length v) u ≡ passed at known.list (get_or u known.list 0 + 1)
  row_fine i z =
      sym (elem_row msg parent at (length v) u (record { typed = seen; listed = f.listed; tests = sym own_fine }) refl refl i refl z)

-- an element whose value is no row: tests, and what the fold makes of it
pub good_leaf : {A : Type 0} (msg : List ℕ) (parent own : ℕ) (step : ℕ → ℕ → A → A) (known : Known) (kind : ℕ) (v u : List ℕ) {so next : A} → type_under parent kind ≡ known → Fine msg known kind v u
    → is_row known.length ≡ false → ((at : ℕ) → Stands msg at (element kind v) → step at (length v) so ≡ next)
    → Good msg parent own step (element kind v) u so (set u known.list (get_or u known.list 0 + 1)) next
good_leaf msg parent own step known kind v u typed f leaf took =
    good_child msg parent own step kind known.list (get_or u known.list 0 + 1) v f.few (λ at s. leaf_fine msg parent known kind v u typed f at s leaf) took

-- an element whose value is a row that passes
pub good_row : {A : Type 0} (msg : List ℕ) (parent own : ℕ) (step : ℕ → ℕ → A → A) (known : Known) (kind : ℕ) (v u : List ℕ) {so next : A} → type_under parent kind ≡ known → Fine msg known kind v u
    → is_row known.length ≡ true
    → ((at : ℕ) → Stands msg at (element kind v) → ((row_of msg known.place at (at + 2) (at + 2 + length v) none_counted).bad ≡ 0) × (step at (length v) so ≡ next))
    → Good msg parent own step (element kind v) u so (set u known.list (get_or u known.list 0 + 1)) next
good_row msg parent own step known kind v u typed f row both =
    good_child msg parent own step kind known.list (get_or u known.list 0 + 1) v f.few
    (λ at s. row_fine msg parent known kind v u typed f at s row (both at s).0) (λ at s. (both at s).1)

-- a number of so many bytes, in a type that stands once
pub good_plain : {A : Type 0} (msg : List ℕ) (parent own : ℕ) (step : ℕ → ℕ → A → A) (place kind list w n : ℕ) (vs : Values) (u : List ℕ) {so next : A} → type_under parent kind ≡ known place (Bytes w) false vs 255 list
    → place < 26 → w ≤ 254 → get_or u list 0 ≡ 0
    → ((at : ℕ) → Stands msg at (element kind (big_endian w n)) → bad_value msg vs at w ≡ false)
    → ((at : ℕ) → Stands msg at (element kind (big_endian w n)) → step at w so ≡ next)
    → Good msg parent own step (element kind (big_endian w n)) u so (set u list 1) next
unfolding second_copy wrong_length is_full is_row
good_plain msg parent own step place kind list w n vs u {so} {next} typed small few fresh fine took =
    let e = length-big_endian w n in
    rw fresh at (good_leaf msg parent own step (known place (Bytes w) false vs 255 list) kind (big_endian w n) u {so = so} {next = next} typed
    (record {
      listed = λ z. omega (arith, z);
      few = omega arith;
      copy = simp fresh;
      size = simp (e, eq-eqb w w refl);
      value = λ at s. rw e (fine at s);
      room = simp (le-ltb 255 (length (big_endian w n)) (omega arith));
    }) refl (λ at s. rw e (took at s)))
