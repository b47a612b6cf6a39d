-- Laws of test 15 (specs/Named.antt): what a caller learns of its answer.
--
--   Within msg row         every element of the row, and its bad head, stand in the message
--   from_within            so it is of every row of a message
--   lone_number-answered    Answered: the search over the table finds nothing
--   lone_number_within      a place: a byte of the message
--   answered-all           nothing found: each number that a rule names is carried by a classifier
-- Trusts: nothing.
use Prim.Native.Nat.{ℕ, zero, suc, ◌+◌, ◌≤◌, ◌<◌}
use mathlib.Core.Path.{◌≡◌, refl}
use mathlib.Core.Bool.{Bool, true, false, cond}
use mathlib.Core.List.Memᴰ
use mathlib.Core.List.{List, [], ◌∷◌, Memᴰ}
use mathlib.Core.Logic.{⊎_elim}
use native.Mathlib.Omega.{arith}
use lib.ListN.{length, get_or}
use lib.Dec.{eqb}
use Rattle.elements.specs.Elements.{Head, End, Refused, Value, head_at}
use Rattle.elements.proofs.Laws.{head_at_starts, head_at-fits}
use Rattle.table.specs.Table.{rules_of, numbers_of}
use Rattle.table.specs.declared.Rule.{Rule}
use Rattle.table.specs.declared.Table.{Table}
use Rattle.children.specs.Rows.{Row, done, bad, item, row_with, row_from, row_in, row_of_head, row_inside, type_at, places_of}
use Rattle.listed.specs.Listed.{is_listed}
use Rattle.named.specs.Named.{Found, Nothing, Number, Answered, At, classifier_numbers, lone_in, lone_of, unanswered, named_place, placed, lone_number}

-- every element of the row, and its bad head, stand in the message
abbrev pub Within : List ℕ → Row → Type 0
Within msg done = Unit
Within msg (bad at n) = (6 ≤ n) × (n ≤ 8) × (at < length msg)
Within msg (item at len rest) = (at < length msg) × Within msg rest

pub from_within : (left : ℕ) (msg : List ℕ) (at end : ℕ) → Within msg (row_from left msg at end)
unfolding row_from
from_within zero msg at end = tt
from_within (suc left) msg at end = on (head_at msg at end) refl (λ next. from_within left msg next end)
  where
    on : (h : Head) → head_at msg at end ≡ h → ((next : ℕ) → Within msg (row_from left msg next end)) → Within msg (row_with (λ next. row_from left msg next end) at h)
    on End e rest = tt
    on (Refused n) e rest = let x = head_at_starts msg at end e in (x.0, x.1, x.3)
    on (Value len) e rest = let x = head_at-fits msg at end e in (omega (arith, x.1), rest (at + 2 + len))

module _ (msg : List ℕ) (some : 0 < length msg) where
  places_within : (kind : ℕ) (row : Row) → Within msg row → (n : ℕ) → get_or (places_of msg kind row) n 0 < length msg
  places_within kind done w n = some
  places_within kind (bad at k) w n = some
  places_within kind (item at len rest) w n = on (eqb (type_at msg at) kind) n (λ k. places_within kind rest w.1 k)
    where
      on : (b : Bool) (k : ℕ) → ((i : ℕ) → get_or (places_of msg kind rest) i 0 < length msg) → get_or (cond b (at ∷ places_of msg kind rest) (places_of msg kind rest)) k 0 < length msg
      on true zero later = w.0
      on true (suc k) later = later k
      on false k later = later k

  inside_within : (at : ℕ) → Within msg (row_inside msg at)
  unfolding row_inside row_in
  inside_within at = on (head_at msg at (length msg))
    where
      on : (h : Head) → Within msg (row_of_head msg at h)
      on End = tt
      on (Refused n) = tt
      on (Value len) = from_within _ msg (at + 2) (at + 2 + len)

  named_within : (i j : ℕ) → named_place msg i j < length msg
  unfolding named_place
  named_within i j = places_within 6 (row_inside msg _) (inside_within _) j

  pub lone_number_within : (t : Table) {off : ℕ} → lone_number msg t ≡ At off → off < length msg
  unfolding lone_number
  lone_number_within t = on (unanswered t)
    where
      on : (f : Found) {off : ℕ} → placed msg f ≡ At off → off < length msg
      on Nothing e = absurd (let z : ◌≡◌ {A = ℕ} 0 1 = cc in omega arith)
      on (Number i j) {off} e = let z : named_place msg i j ≡ off = cc in omega (arith, named_within i j)

pub lone_number-answered : (msg : List ℕ) (t : Table) → lone_number msg t ≡ Answered → unanswered t ≡ Nothing
unfolding lone_number
lone_number-answered msg t = on (unanswered t)
  where
    on : (f : Found) → placed msg f ≡ Answered → f ≡ Nothing
    on Nothing e = refl
    on (Number i j) e = absurd (let z : ◌≡◌ {A = ℕ} 0 1 = cc in omega arith)

not_both : {i j : ℕ} → Number i j ≡ Nothing → ⊥
not_both e = let z : ◌≡◌ {A = ℕ} 0 1 = cc in omega arith

lone_all : (carried : List ℕ) (i j : ℕ) (ns : List ℕ) (later : Found) → lone_in carried i j ns later ≡ Nothing
    → ((n : ℕ) → Memᴰ n ns → is_listed n carried ≡ true) × (later ≡ Nothing)
lone_all carried i j [] later e = (λ n m. absurd (Memᴰ.not-nil m), e)
lone_all carried i j (x ∷ ns) later e = on (is_listed x carried) refl e (λ f. lone_all carried i (j + 1) ns later f)
  where
    on : (b : Bool) → is_listed x carried ≡ b → cond b (lone_in carried i (j + 1) ns later) (Number i j) ≡ Nothing
        → (lone_in carried i (j + 1) ns later ≡ Nothing → ((n : ℕ) → Memᴰ n ns → is_listed n carried ≡ true) × (later ≡ Nothing))
        → ((n : ℕ) → Memᴰ n (x ∷ ns) → is_listed n carried ≡ true) × (later ≡ Nothing)
    on true y e rest =
        let r = rest e in
        (λ n m. ⊎_elim (λ (z : n ≡ x). rw z y) (λ (k : Memᴰ n ns). r.0 n k) (Memᴰ.cases_cons m), r.1)
    on false y e rest = absurd (not_both e)

rules-all : (carried : List ℕ) (i : ℕ) (qs : List Rule) → lone_of carried i qs ≡ Nothing → (q : Rule) → Memᴰ q qs → (n : ℕ) → Memᴰ n (numbers_of q) → is_listed n carried ≡ true
rules-all carried i [] e q m n k = absurd (Memᴰ.not-nil m)
rules-all carried i (p ∷ qs) e q m n k =
    let r = lone_all carried i 0 (numbers_of p) (lone_of carried (i + 1) qs) e in
    ⊎_elim (λ (z : q ≡ p). r.0 n (rw z at k)) (λ (l : Memᴰ q qs). rules-all carried (i + 1) qs r.1 q l n k) (Memᴰ.cases_cons m)

pub answered-all : (t : Table) → unanswered t ≡ Nothing → (q : Rule) → Memᴰ q (rules_of t) → (n : ℕ) → Memᴰ n (numbers_of q) → is_listed n (classifier_numbers t) ≡ true
unfolding unanswered
answered-all t e = rules-all (classifier_numbers t) 0 (rules_of t) e
