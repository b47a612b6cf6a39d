-- What the search for a lone number finds (specs/Named.antt of the crate named, `unanswered`).
--
--   FirstNumber, FirstLone   of a list of numbers, and of the numbers of a list of rules, this one is the first that is not carried
--   unanswered-first         Number i j: number j of rule i is there and no classifier of the table carries it, and one carries every
--                            number of an earlier rule and every earlier number of rule i
-- Trusts: nothing.
use Prim.Native.Nat.{ℕ, suc, ◌+◌, ◌<◌}
use mathlib.Core.Path.{◌≡◌, refl}
use mathlib.Core.Bool.{Bool, true, false, cond}
use mathlib.Core.List.Memᴰ
use mathlib.Core.List.{List, [], ◌∷◌, Memᴰ}
use mathlib.Core.Logic.{◌⊎◌, inl, inr, ⊎_elim}
use native.Mathlib.Omega.{arith}
use lib.ListN.{length, get_or, take}
use Rattle.table.specs.Table.{empty_rule, rules_of, numbers_of}
use Rattle.table.specs.declared.Rule.{Rule}
use Rattle.table.specs.declared.Table.{Table}
use Rattle.listed.specs.Listed.{is_listed}
use Rattle.named.specs.Named.{Found, Number, classifier_numbers, lone_in, lone_of, unanswered}

-- of the numbers `ns` the j-th is the first that is not carried
pub record FirstNumber (carried ns : List ℕ) (j : ℕ) : Type 0 where
  pub there : j < length ns
  pub lone : is_listed (get_or ns j 0) carried ≡ false
  pub before : (n : ℕ) → Memᴰ n (take j ns) → is_listed n carried ≡ true

-- of the rules' numbers, the j-th of rule i is the first that is not carried
pub record FirstLone (carried : List ℕ) (rules : List Rule) (i j : ℕ) : Type 0 where
  pub there : i < length rules
  pub number : FirstNumber carried (numbers_of (get_or rules i empty_rule)) j
  pub earlier : (q : Rule) → Memᴰ q (take i rules) → (n : ℕ) → Memᴰ n (numbers_of q) → is_listed n carried ≡ true

-- a member of a list with one more in front
front : {A : Type 0} {x : A} {xs : List A} (P : A → Type 0) → P x → ((y : A) → Memᴰ y xs → P y) → (y : A) → Memᴰ y (x ∷ xs) → P y
front P h g y m = ⊎_elim (λ z. rw z h) (λ k. g y k) (Memᴰ.cases_cons m)

module _ (carried : List ℕ) (k l : ℕ) where
  lone_in_lem : (i j : ℕ) (ns : List ℕ) (later : Found) → lone_in carried i j ns later ≡ Number k l
      → ((k ≡ i) × ((n : ℕ) × (l ≡ j + n) × FirstNumber carried ns n)) ⊎ ((later ≡ Number k l) × ((n : ℕ) → Memᴰ n ns → is_listed n carried ≡ true))
  lone_in_lem i j [] later e = inr (e, λ n m. absurd (Memᴰ.not-nil m))
  lone_in_lem i j (x ∷ ns) later e = on (is_listed x carried) refl e (λ f. lone_in_lem i (j + 1) ns later f)
    where
      goes : is_listed x carried ≡ true
          → ((k ≡ i) × ((n : ℕ) × (l ≡ j + 1 + n) × FirstNumber carried ns n)) ⊎ ((later ≡ Number k l) × ((n : ℕ) → Memᴰ n ns → is_listed n carried ≡ true))
          → ((k ≡ i) × ((n : ℕ) × (l ≡ j + n) × FirstNumber carried (x ∷ ns) n)) ⊎ ((later ≡ Number k l) × ((n : ℕ) → Memᴰ n (x ∷ ns) → is_listed n carried ≡ true))
      goes y (inl r) =
          let f = r.1.2 in
          inl (r.0, (suc r.1.0, omega (arith, r.1.1), record { there = omega (arith, f.there); lone = f.lone; before = front (λ n. is_listed n carried ≡ true) y f.before }))
      goes y (inr r) = inr (r.0, front (λ n. is_listed n carried ≡ true) y r.1)

      on : (b : Bool) → is_listed x carried ≡ b → cond b (lone_in carried i (j + 1) ns later) (Number i j) ≡ Number k l
          → (lone_in carried i (j + 1) ns later ≡ Number k l
          → ((k ≡ i) × ((n : ℕ) × (l ≡ j + 1 + n) × FirstNumber carried ns n)) ⊎ ((later ≡ Number k l) × ((n : ℕ) → Memᴰ n ns → is_listed n carried ≡ true)))
          → ((k ≡ i) × ((n : ℕ) × (l ≡ j + n) × FirstNumber carried (x ∷ ns) n)) ⊎ ((later ≡ Number k l) × ((n : ℕ) → Memᴰ n (x ∷ ns) → is_listed n carried ≡ true))
      on true y e rest = goes y (rest e)
      on false y e rest =
          let a : k ≡ i = cc in
          let b : l ≡ j = cc in
          inl (a, (0, omega arith, record { there = omega arith; lone = y; before = λ n m. absurd (Memᴰ.not-nil m) }))

  lone_of_lem : (i : ℕ) (qs : List Rule) → lone_of carried i qs ≡ Number k l → (n : ℕ) × (k ≡ i + n) × FirstLone carried qs n l
  lone_of_lem i [] e = absurd (let z : ◌≡◌ {A = ℕ} 0 1 = cc in omega arith)
  lone_of_lem i (q ∷ qs) e = on (lone_in_lem i 0 (numbers_of q) (lone_of carried (i + 1) qs) e) (λ f. lone_of_lem (i + 1) qs f)
    where
      on : ((k ≡ i) × ((n : ℕ) × (l ≡ 0 + n) × FirstNumber carried (numbers_of q) n)) ⊎ ((lone_of carried (i + 1) qs ≡ Number k l) × ((n : ℕ) → Memᴰ n (numbers_of q) → is_listed n carried ≡ true))
          → (lone_of carried (i + 1) qs ≡ Number k l → (n : ℕ) × (k ≡ i + 1 + n) × FirstLone carried qs n l) → (n : ℕ) × (k ≡ i + n) × FirstLone carried (q ∷ qs) n l
      on (inl r) rest =
          let z : l ≡ r.1.0 = omega (arith, r.1.1) in
          (0, omega (arith, r.0), record { there = omega arith; number = rw z r.1.2; earlier = λ p m. absurd (Memᴰ.not-nil m) })
      on (inr r) rest =
          let s = rest r.0 in
          let f = s.2 in
          let all = front (λ p. (n : ℕ) → Memᴰ n (numbers_of p) → is_listed n carried ≡ true) r.1 f.earlier in
          (suc s.0, omega (arith, s.1), record { there = omega (arith, f.there); number = f.number; earlier = all })

pub unanswered-first : (t : Table) (i j : ℕ) → unanswered t ≡ Number i j → FirstLone (classifier_numbers t) (rules_of t) i j
unfolding unanswered
unanswered-first t i j e =
    let r = lone_of_lem (classifier_numbers t) i j 0 (rules_of t) e in
    let z : i ≡ r.0 = omega (arith, r.1) in
    rw z r.2
