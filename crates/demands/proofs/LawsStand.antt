-- From the two indices of the search for a lone number to places of the message. `ps` are places of 50s, `carried` the numbers of classifiers.
--
--   named_places msg p   where the 50.6 of the 50 at p stand          named msg at   the number of the 50.6 at `at`
--   rule_among, number-inside, number_lone   the i-th of ps is the rule, the j-th 50.6 in it has the number, which is not carried
--   all-before          every 50.6 of ps at a smaller offset has a number that is carried; for this no 50 has more 50.6 than its rule holds
-- Trusts: nothing.
use Prim.Native.Nat.{ℕ, zero, suc, ◌+◌, ◌≤◌, ◌<◌}
use mathlib.Core.Path.{◌≡◌, refl, sym, ap, subst, ◌∙◌}
use mathlib.Core.Bool.{true, false}
use mathlib.Core.List.Memᴰ
use mathlib.Core.List.{List, [], ◌∷◌, ◌++◌, map, Memᴰ}
use mathlib.Core.Logic.{◌⊎◌, inl, inr}
use native.Mathlib.Omega.{arith}
use lib.ListN.{length, get_or, take, drop, length-take, length-map, get_or-map}
use lib.Seq.{take_all, take-take, split_at, get_or-take}
use Rattle.numbers.specs.Numbers.{number_at}
use Rattle.table.specs.Table.{empty_rule}
use Rattle.children.specs.Rows.{row_inside, places_of}
use Rattle.rules.specs.Rules.{rule_at}
use Rattle.listed.specs.Listed.{is_listed}
use Rattle.demands.proofs.LawsNumbers.{numbers_of-rule_at}
use Rattle.demands.proofs.LawsAscend.{Ascending, ascending_behind, inside_ascends, inside-after, Apart, apart-behind}
use Rattle.demands.proofs.LawsSearch.{FirstNumber, FirstLone}

abbrev pub named_places : List ℕ → ℕ → List ℕ
named_places msg p = places_of msg 6 (row_inside msg p)

abbrev pub named : List ℕ → ℕ → ℕ
named msg at = number_at 2 msg (at + 2)

take-map : {A B : Type 0} (f : A → B) (n : ℕ) (l : List A) → take n (map f l) ≡ map f (take n l)
take-map f zero l = refl
take-map f (suc n) [] = refl
take-map f (suc n) (x ∷ l) = ap (λ r. f x ∷ r) (take-map f n l)

get_or_within : {A : Type 0} (l : List A) (i : ℕ) (d e : A) → i < length l → get_or l i d ≡ get_or l i e
get_or_within [] i d e h = absurd (omega arith)
get_or_within (x ∷ l) zero d e h = refl
get_or_within (x ∷ l) (suc i) d e h = get_or_within l i d e (omega arith)

-- the first n of the values of a list: the i-th of them, and one before the i-th
module _ {A B : Type 0} (f : A → B) (n : ℕ) (l : List A) (i : ℕ) where
  front_at : (a : A) (b : B) → i < length (take n (map f l)) → (i < n) × (i < length l) × (get_or (take n (map f l)) i b ≡ f (get_or l i a))
  front_at a b h =
      let s = length-take n (map f l) in
      let m = length-map l f in
      (omega arith, omega arith, get_or-take n (map f l) i b (omega arith) ∙ get_or_within (map f l) i b (f a) (omega arith) ∙ get_or-map f l i a)

  front-before : (x : A) → i ≤ n → Memᴰ x (take i l) → Memᴰ (f x) (take i (take n (map f l)))
  front-before x h m = rw (take-take i n (map f l) h, take-map f i l) (Memᴰ.map f m)

module _ (msg carried ps : List ℕ) (i j : ℕ) (first : FirstLone carried (take 32 (map (rule_at msg) ps)) i j) where
  rule-at : (i < 32) × (i < length ps) × (get_or (take 32 (map (rule_at msg) ps)) i empty_rule ≡ rule_at msg (get_or ps i 0))
  rule-at = front_at (rule_at msg) 32 ps i 0 empty_rule first.there

  first-number : FirstNumber carried (take 8 (map (named msg) (named_places msg (get_or ps i 0)))) j
  first-number = rw (rule-at.2, numbers_of-rule_at msg (get_or ps i 0)) at first.number

  number-at : (j < 8) × (j < length (named_places msg (get_or ps i 0))) × (get_or (take 8 (map (named msg) (named_places msg (get_or ps i 0)))) j 0 ≡ named msg (get_or (named_places msg (get_or ps i 0)) j 0))
  number-at = front_at (named msg) 8 (named_places msg (get_or ps i 0)) j 0 0 first-number.there

  -- the places of the 50.6 in its 50, and the place of the one
  abbrev sixes : List ℕ
  sixes = named_places msg (get_or ps i 0)

  abbrev place : ℕ
  place = get_or sixes j 0

  -- its 50, and the 50.6
  rule_split : ps ≡ take i ps ++ (get_or ps i 0 ∷ drop (suc i) ps)
  rule_split = split_at ps i 0 rule-at.1

  number_split : sixes ≡ take j sixes ++ (place ∷ drop (suc j) sixes)
  number_split = split_at sixes j 0 number-at.1

  pub rule_among : Memᴰ (get_or ps i 0) ps
  rule_among = subst (λ l. Memᴰ (get_or ps i 0) l) (sym rule_split) (Memᴰ.append_right (take i ps) (Memᴰ.head refl))

  pub number-inside : Memᴰ (get_or (named_places msg (get_or ps i 0)) j 0) (named_places msg (get_or ps i 0))
  number-inside = subst (λ l. Memᴰ place l) (sym number_split) (Memᴰ.append_right (take j sixes) (Memᴰ.head refl))

  pub number_lone : is_listed (named msg (get_or (named_places msg (get_or ps i 0)) j 0)) carried ≡ false
  number_lone = rw number-at.2 at first-number.lone

  -- what stands before it in its own 50, and in an earlier one
  same_rule : (x : ℕ) → Memᴰ x (take j sixes) → is_listed (named msg x) carried ≡ true
  same_rule x m = first-number.before (named msg x) (front-before (named msg) 8 sixes j x (omega (arith, number-at.0)) m)

  earlier-rule : (q x : ℕ) → Memᴰ q (take i ps) → length (named_places msg q) ≤ 8 → Memᴰ x (named_places msg q) → is_listed (named msg x) carried ≡ true
  earlier-rule q x m room k =
      let s = length-map (named_places msg q) (named msg) in
      first.earlier (rule_at msg q) (front-before (rule_at msg) 32 ps i q (omega (arith, rule-at.0)) m) (named msg x)
      (rw (numbers_of-rule_at msg q, take_all 8 (map (named msg) (named_places msg q)) (omega arith)) (Memᴰ.map (named msg) k))

  module _ (apart : Apart msg ps) (room : (p : ℕ) → Memᴰ p ps → length (named_places msg p) ≤ 8) where
    pub all-before : (q x : ℕ) → Memᴰ q ps → Memᴰ x (named_places msg q) → x < get_or (named_places msg (get_or ps i 0)) j 0 → is_listed (named msg x) carried ≡ true
    all-before q x m k less = on (Memᴰ.append_cases (take i ps) (subst (λ l. Memᴰ q l) rule_split m))
      where
        behind : Memᴰ x (place ∷ drop (suc j) sixes) → ⊥
        behind n = at_or_after (Memᴰ.cases_cons n)
          where
            at_or_after : (x ≡ place) ⊎ Memᴰ x (drop (suc j) sixes) → ⊥
            at_or_after (inl e) = omega arith
            at_or_after (inr n) =
                let a = inside_ascends msg (get_or ps i 0) in
                let b = ascending_behind (get_or ps i 0 + 1) a.0 (take j sixes) place (drop (suc j) sixes) x (subst (λ l. Ascending (get_or ps i 0 + 1) a.0 l) number_split a.1) n in
                omega arith

        same : Memᴰ x (take j sixes) ⊎ Memᴰ x (place ∷ drop (suc j) sixes) → is_listed (named msg x) carried ≡ true
        same (inl n) = same_rule x n
        same (inr n) = absurd (behind n)

        later : (q ≡ get_or ps i 0) ⊎ Memᴰ q (drop (suc i) ps) → is_listed (named msg x) carried ≡ true
        later (inl e) =
            same (Memᴰ.append_cases (take j sixes) (subst (λ l. Memᴰ x l) (ap (named_places msg) e ∙ number_split) k))
        later (inr n) =
            let a = apart-behind msg (take i ps) (get_or ps i 0) (drop (suc i) ps) q place (subst (λ l. Apart msg l) rule_split apart) n number-inside in
            let b = inside-after msg q x k in
            absurd (omega arith)

        on : Memᴰ q (take i ps) ⊎ Memᴰ q (get_or ps i 0 ∷ drop (suc i) ps) → is_listed (named msg x) carried ≡ true
        on (inl n) = earlier-rule q x n (room q m) k
        on (inr n) = later (Memᴰ.cases_cons n)
