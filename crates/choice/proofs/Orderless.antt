-- Where rule numbers are unique, the order of the rules does not matter (specs/Choose.antt).
--
--   perm_mem             a permutation has the same members
--   chosen_rule_members   two lists with the same rules choose the same rule
--   chosen_rule_perm      so does every permutation of a list
-- Trusts: nothing.
use mathlib.Core.Path.{◌≡◌, refl, sym, ap, ◌∙◌}
use mathlib.Core.Bool.{Bool, true, false}
use mathlib.Core.List.Memᴰ
use mathlib.Core.List.Permᴰ
use mathlib.Core.List.{List, ◌∷◌, Memᴰ, Permᴰ}
use mathlib.Core.Logic.{◌⊎◌, inl, inr}
use Prim.Native.Nat.{ℕ, ◌≤◌, ◌<◌}
use native.Mathlib.Nat.{le_antisymm}
use lib.Dec.{ltb}
use lib.ListN.{length, get_or-eq_default}
use borrow.Author.Tests.{ltb-true, ltb-false}
use Rattle.table.specs.declared.Client.{Client}
use Rattle.table.specs.declared.Rule.{Rule}
use Rattle.table.specs.Table.{empty_rule}
use Rattle.order.specs.Best.{comes_before}
use Rattle.choice.specs.Choose.{Ucid, fits_client, chosen_place, chosen_rule}
use Rattle.order.proofs.Order.{comes_before_tied}
use Rattle.order.proofs.Places.{clash, best_place_le}
use Rattle.order.proofs.Scan.{best_place_nobody}
use Rattle.order.proofs.Chosen.{mem_at, place_of, best_place_passes, best_place_over}

abbrev pr : Rule → ℕ
pr rule = rule.priority

abbrev nu : Rule → ℕ
nu rule = rule.number

pub perm_mem : {A : Type 0} {y : A} {xs ys : List A} → Permᴰ xs ys → Memᴰ y xs → Memᴰ y ys
perm_mem Permᴰ.nil m = m
perm_mem {y = y} (Permᴰ.cons {a = a} {b = b} {l₁ = l₁} {l₂ = l₂} e p) m = go (Memᴰ.cases_cons m) (λ (t : Memᴰ y l₁). perm_mem p t)
  where
    go : (y ≡ a) ⊎ Memᴰ y l₁ → (Memᴰ y l₁ → Memᴰ y l₂) → Memᴰ y (b ∷ l₂)
    go (inl k) below = Memᴰ.head (k ∙ e)
    go (inr t) below = Memᴰ.tail (below t)
perm_mem {y = y} (Permᴰ.swap {a = a} {b = b} {a' = c} {b' = d} {l = l} e f) m = go (Memᴰ.cases_cons m)
  where
    inner : (y ≡ b) ⊎ Memᴰ y l → Memᴰ y (c ∷ d ∷ l)
    inner (inl k) = Memᴰ.head (k ∙ f)
    inner (inr t) = Memᴰ.tail (Memᴰ.tail t)

    go : (y ≡ a) ⊎ Memᴰ y (b ∷ l) → Memᴰ y (c ∷ d ∷ l)
    go (inl k) = Memᴰ.tail (Memᴰ.head (k ∙ e))
    go (inr t) = inner (Memᴰ.cases_cons t)
perm_mem (Permᴰ.trans p q) m = perm_mem q (perm_mem p m)

module _ (c : Client) (u : Ucid) where
  abbrev ok : Rule → Bool
  ok = fits_client c u

  -- a rule that fits stands in a list: the chosen one fits, is a member, and no member that fits comes before it
  module _ (rs : List Rule) (h : chosen_place c u rs < length rs) where
    fits : fits_client c u (chosen_rule c u rs) ≡ true
    unfolding chosen_rule chosen_place
    fits = best_place_passes empty_rule pr nu ok rs h

    member : Memᴰ (chosen_rule c u rs) rs
    unfolding chosen_rule
    member = mem_at empty_rule rs (chosen_place c u rs) h

    over : (y : Rule) → Memᴰ y rs → fits_client c u y ≡ true → comes_before (pr y) (nu y) (pr (chosen_rule c u rs)) (nu (chosen_rule c u rs)) ≡ false
    unfolding chosen_rule chosen_place
    over y m e =
        let p = place_of empty_rule rs m in
        rw p.2 at (best_place_over empty_rule pr nu ok rs h p.0 p.1 (ap ok p.2 ∙ e))

  nobody : (rs : List Rule) → length rs ≤ chosen_place c u rs → (y : Rule) → Memᴰ y rs → fits_client c u y ≡ false
  unfolding chosen_place
  nobody rs h = best_place_nobody pr nu ok rs (le_antisymm (best_place_le pr nu ok rs) h)

  module _ (rs ss : List Rule) (to : (y : Rule) → Memᴰ y rs → Memᴰ y ss) (back : (y : Rule) → Memᴰ y ss → Memᴰ y rs)
      (unique : (y z : Rule) → Memᴰ y rs → Memᴰ z rs → y.number ≡ z.number → y ≡ z) where
    pub chosen_rule_members : chosen_rule c u rs ≡ chosen_rule c u ss
    unfolding chosen_rule
    chosen_rule_members = go (ltb (chosen_place c u rs) (length rs)) (ltb (chosen_place c u ss) (length ss)) refl refl
      where
        go : (a b : Bool) → ltb (chosen_place c u rs) (length rs) ≡ a → ltb (chosen_place c u ss) (length ss) ≡ b → chosen_rule c u rs ≡ chosen_rule c u ss
        go true true ea eb =
            let h = ltb-true (chosen_place c u rs) (length rs) ea in
            let k = ltb-true (chosen_place c u ss) (length ss) eb in
            let x = chosen_rule c u rs in
            let y = chosen_rule c u ss in
            let tied = comes_before_tied (pr x) (nu x) (pr y) (nu y) (over ss k x (to x (member rs h)) (fits rs h)) (over rs h y (back y (member ss k)) (fits ss k)) in
            unique x y (member rs h) (back y (member ss k)) tied.1
        go true false ea eb =
            let h = ltb-true (chosen_place c u rs) (length rs) ea in
            absurd (clash (fits rs h) (nobody ss (ltb-false (chosen_place c u ss) (length ss) eb) (chosen_rule c u rs) (to (chosen_rule c u rs) (member rs h))))
        go false true ea eb =
            let k = ltb-true (chosen_place c u ss) (length ss) eb in
            absurd (clash (fits ss k) (nobody rs (ltb-false (chosen_place c u rs) (length rs) ea) (chosen_rule c u ss) (back (chosen_rule c u ss) (member ss k))))
        go false false ea eb =
            get_or-eq_default rs empty_rule (ltb-false (chosen_place c u rs) (length rs) ea) ∙ sym (get_or-eq_default ss empty_rule (ltb-false (chosen_place c u ss) (length ss) eb))

  pub chosen_rule_perm : (rs ss : List Rule) → Permᴰ rs ss
      → ((y z : Rule) → Memᴰ y rs → Memᴰ z rs → y.number ≡ z.number → y ≡ z) → chosen_rule c u rs ≡ chosen_rule c u ss
  chosen_rule_perm rs ss p unique = chosen_rule_members rs ss (λ y m. perm_mem p m) (λ y m. perm_mem (Permᴰ.symm p) m) unique
