-- The computed choice is the one that document 01 describes (specs/Choose.antt), so that nobody has to trust the order of a walk.
--
--   choice_of_fits    a rule that is chosen is the best that fits: `FitsBest`
--   FitsBest→choice_of  the best rule that fits is chosen; so there is one only
--   choice_of_none    no rule fits: 17
--   choice_of_17      an answer that is no rule is 17, and no rule fits
--   choice_of_unlisted  a client that no rule lists: 17
-- Trusts: nothing.
use mathlib.Core.Path.{◌≡◌, refl, sym}
use mathlib.Core.Bool.{Bool, true, false, cond}
use mathlib.Core.List.{List, Memᴰ}
use mathlib.Core.Logic.{◌⊎◌, inl, inr}
use Prim.Native.Nat.{ℕ, ◌≤◌, ◌<◌}
use native.Mathlib.Nat.{le_of_eq, le_antisymm}
use native.Mathlib.Omega.{arith}
use lib.Dec.{ltb}
use lib.ListN.{length, length-take}
use borrow.Author.Tests.{ltb-true, ltb-false, lt-ltb, le-ltb}
use Rattle.table.specs.declared.Client.{Client}
use Rattle.table.specs.declared.Rule.{Rule}
use Rattle.table.specs.declared.Table.{Table}
use Rattle.table.specs.Table.{limited_to, rules_of, empty_rule}
use Rattle.table.proofs.Laws.{limited_to_le}
use Rattle.choice.specs.Chose.{Choice, Chosen, Refused}
use Rattle.order.specs.Best.{comes_before}
use Rattle.choice.specs.Choose.{Ucid, lists_client, fits_client, chosen_place, choice_of, rule_at, FitsBest}
use Rattle.order.proofs.Order.{comes_before-yes, comes_before_no}
use Rattle.order.proofs.Places.{best_place-none, best_place_le}
use Rattle.order.proofs.Scan.{best_place_nobody}
use Rattle.order.proofs.Chosen.{best_place_passes, best_place_over, best_place-first, best_place_only}

abbrev pr : Rule → ℕ
pr rule = rule.priority

abbrev nu : Rule → ℕ
nu rule = rule.number

-- does p come before q; and what that says, and what its failing says
abbrev leads : Rule → Rule → Bool
leads p q = comes_before (pr p) (nu p) (pr q) (nu q)

abbrev Above : Rule → Rule → Type 0
Above p q = (pr q < pr p) ⊎ ((pr p ≡ pr q) × (nu p < nu q))

abbrev Below : Rule → Rule → Type 0
Below p q = (pr p < pr q) ⊎ ((pr p ≡ pr q) × (nu q ≤ nu p))

leads_yes : (p q : Rule) → leads p q ≡ true → Above p q
leads_yes p q = comes_before-yes (pr p) (nu p) (pr q) (nu q)

leads_no : (p q : Rule) → leads p q ≡ false → Below p q
leads_no p q = comes_before_no (pr p) (nu p) (pr q) (nu q)

pub rules_of-few : (t : Table) → length (rules_of t) ≤ 32
unfolding rules_of
rules_of-few t = omega (arith, limited_to_le 32 t.rulecount, length-take (limited_to 32 t.rulecount) t.rules)

module _ (t : Table) (c : Client) (u : Ucid) where
  abbrev rules : List Rule
  rules = rules_of t

  abbrev ok : Rule → Bool
  ok = fits_client c u

  abbrev place : ℕ
  place = chosen_place c u rules

  -- the answer by the test that a rule is found, and that no rule fits
  abbrev answer : Bool → Choice
  answer found = cond found (Chosen place) (Refused 17)

  abbrev Nobody : Type 0
  Nobody = (rule : Rule) → Memᴰ rule rules → ok rule ≡ false

  pub choice_of_at : (k : ℕ) → chosen_place c u (rules_of t) ≡ k → k < length (rules_of t) → choice_of t c u ≡ Chosen k
  unfolding choice_of
  choice_of_at k e h = rw (e, lt-ltb k (length (rules_of t)) h)

  chosen_is : (k : ℕ) → choice_of t c u ≡ Chosen k → (place ≡ k) × (place < length rules)
  unfolding choice_of
  chosen_is k e = go (ltb place (length rules)) refl e
    where
      go : (b : Bool) → ltb place (length rules) ≡ b → answer b ≡ Chosen k → (place ≡ k) × (place < length rules)
      go true eb ek = (cc, ltb-true place (length rules) eb)
      go false eb ek = let z : ◌≡◌ {A = ℕ} 0 1 = cc in absurd (omega arith)

  pub choice_of_fits : (k : ℕ) → choice_of t c u ≡ Chosen k → FitsBest t c u k
  unfolding chosen_place
  choice_of_fits k e = rw (chosen_is k e).0 at best
    where
      there : place < length rules
      there = (chosen_is k e).1

      low : (j : ℕ) → j < length rules → ok (rule_at t j) ≡ true → Below (rule_at t j) (rule_at t place)
      low j h f = leads_no (rule_at t j) (rule_at t place) (best_place_over empty_rule pr nu ok rules there j h f)

      best : FitsBest t c u place
      best = record {
        there = there;
        fits = best_place_passes empty_rule pr nu ok rules there;
        greatest = λ j h f. great (low j h f);
        smallest = λ j h f e. small e (low j h f);
        first = λ j h f e g. best_place-first empty_rule pr nu ok rules there j f e g;
      }
        where
          great : {a b n m : ℕ} → (a < b) ⊎ ((a ≡ b) × (m ≤ n)) → a ≤ b
          great (inl h) = omega arith
          great (inr h) = omega arith

          small : {a b n m : ℕ} → a ≡ b → (a < b) ⊎ ((a ≡ b) × (m ≤ n)) → m ≤ n
          small e (inl h) = omega arith
          small e (inr h) = h.1

  pub FitsBest→choice_of : (k : ℕ) → FitsBest t c u k → choice_of t c u ≡ Chosen k
  unfolding chosen_place
  FitsBest→choice_of k f = choice_of_at k (best_place_only empty_rule pr nu ok rules k f.there f.fits over front) f.there
    where
      over : (j : ℕ) → j < length rules → ok (rule_at t j) ≡ true → leads (rule_at t j) (rule_at t k) ≡ false
      over j h e = go (leads (rule_at t j) (rule_at t k)) refl
        where
          no : Above (rule_at t j) (rule_at t k) → ⊥
          no (inl l) = omega (arith, f.greatest j h e)
          no (inr l) = omega (arith, f.smallest j h e l.0)

          go : (b : Bool) → leads (rule_at t j) (rule_at t k) ≡ b → leads (rule_at t j) (rule_at t k) ≡ false
          go false eb = eb
          go true eb = absurd (no (leads_yes (rule_at t j) (rule_at t k) eb))

      front : (j : ℕ) → j < k → ok (rule_at t j) ≡ true → leads (rule_at t k) (rule_at t j) ≡ true
      front j l e = go (leads (rule_at t k) (rule_at t j)) refl
        where
          h : j < length rules
          h = omega (arith, f.there)

          no : Below (rule_at t k) (rule_at t j) → ⊥
          no (inl g) = omega (arith, f.greatest j h e)
          no (inr g) =
              let same : nu (rule_at t j) ≡ nu (rule_at t k) = omega (arith, f.smallest j h e (sym g.0)) in
              omega (arith, f.first j h e (sym g.0) same)

          go : (b : Bool) → leads (rule_at t k) (rule_at t j) ≡ b → leads (rule_at t k) (rule_at t j) ≡ true
          go true eb = eb
          go false eb = absurd (no (leads_no (rule_at t k) (rule_at t j) eb))

  pub choice_of_none : ((rule : Rule) → Memᴰ rule (rules_of t) → fits_client c u rule ≡ false) → choice_of t c u ≡ Refused 17
  unfolding choice_of chosen_place
  choice_of_none h = simp (le-ltb _ _ (le_of_eq (sym (best_place-none pr nu ok rules h))))

  pub choice_of_17 : (n : ℕ) → choice_of t c u ≡ Refused n → (n ≡ 17) × ((rule : Rule) → Memᴰ rule (rules_of t) → fits_client c u rule ≡ false)
  unfolding choice_of chosen_place
  choice_of_17 n e = go (ltb place (length rules)) refl e
    where
      go : (b : Bool) → ltb place (length rules) ≡ b → answer b ≡ Refused n → (n ≡ 17) × Nobody
      go true eb en = let z : ◌≡◌ {A = ℕ} 0 1 = cc in absurd (omega arith)
      go false eb en =
          let all = le_antisymm (best_place_le pr nu ok rules) (ltb-false place (length rules) eb) in
          (cc, best_place_nobody pr nu ok rules all)

  pub choice_of_unlisted : ((rule : Rule) → Memᴰ rule (rules_of t) → lists_client rule c ≡ false) → choice_of t c u ≡ Refused 17
  unfolding fits_client
  choice_of_unlisted h = choice_of_none (λ rule m. rw (h rule m))
