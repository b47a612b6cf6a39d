-- Laws of rows (specs/Rows.antt): the count of bytes left does not matter, and one law for each thing that can stand at a place.
--
--   row_in_rule     a row is what its first head says, with the row from the next place on behind it
--   row_in_stop     no element stands there: done or bad     row_in_item      an element and the row behind it
--   row_inside-done no element stands there                  row_inside-row   the row that an element's value is
--   item-fits      an element's bytes lie in its row and in the message      item_less   what is left of the row falls
-- Trusts: nothing.
use Prim.Native.Nat.{ℕ, zero, suc, ◌+◌, ◌-◌, ◌≤◌, ◌<◌}
use mathlib.Core.Path.{◌≡◌, refl, sym, ap, ◌∙◌}
use mathlib.Core.List.{List}
use native.Mathlib.Omega.{arith}
use lib.ListN.{length}
use Rattle.elements.specs.Elements.{Head, End, Refused, Value, head_at, length_byte}
use Rattle.elements.proofs.Laws.{head_at-end, head_at-fits}
use Rattle.children.specs.Rows.{Row, done, bad, item, row_with, row_from, row_in, row_of_head, row_inside}

-- a row asks only for rows from later places on
row_with_same : (R S : ℕ → Row) (msg : List ℕ) (at end : ℕ) → ((next : ℕ) → at < next → next ≤ end → R next ≡ S next) → row_with R at (head_at msg at end) ≡ row_with S at (head_at msg at end)
row_with_same R S msg at end same = on (head_at msg at end) refl
  where
    on : (h : Head) → head_at msg at end ≡ h → row_with R at h ≡ row_with S at h
    on End e = refl
    on (Refused n) e = refl
    on (Value len) e =
        let fits = head_at-fits msg at end e in
        ap (item at len) (same (at + 2 + len) (omega arith) (omega arith))

enough : (f g : ℕ) (msg : List ℕ) (at end : ℕ) → end - at ≤ f → end - at ≤ g → row_from f msg at end ≡ row_from g msg at end
unfolding row_from
enough zero zero msg at end a b = refl
enough zero (suc g) msg at end a b = simp (head_at-end msg at end (omega arith))
enough (suc f) zero msg at end a b = simp (head_at-end msg at end (omega arith))
enough (suc f) (suc g) msg at end a b =
    row_with_same (λ next. row_from f msg next end) (λ next. row_from g msg next end) msg at end (λ next l m. enough f g msg next end (omega arith) (omega arith))

module _ (msg : List ℕ) (at end : ℕ) where
  pub row_in_rule : row_in msg at end ≡ row_with (λ next. row_in msg next end) at (head_at msg at end)
  unfolding row_in row_from
  row_in_rule = go (end - at) refl
    where
      go : (n : ℕ) → end - at ≡ n → row_from n msg at end ≡ row_with (λ next. row_in msg next end) at (head_at msg at end)
      go zero e = simp (head_at-end msg at end (omega arith))
      go (suc n) e =
          row_with_same (λ next. row_from n msg next end) (λ next. row_in msg next end) msg at end (λ next l m. enough n (end - next) msg next end (omega arith) (omega arith))

  pub row_in_item : {h : Head} {len : ℕ} → h ≡ head_at msg at end → h ≡ Value len → row_in msg at end ≡ item at len (row_in msg (at + 2 + len) end)
  row_in_item e v = row_in_rule ∙ simp (← e, v)

  pub item-fits : {h : Head} {len : ℕ} → h ≡ head_at msg at end → h ≡ Value len → (at + 2 + len ≤ end) × (at + 2 + len ≤ length msg) × (len ≡ length_byte msg at)
  item-fits e v = head_at-fits msg at end (sym e ∙ v)

  -- what is left of a row falls
  pub item_less : {h : Head} {len : ℕ} → h ≡ head_at msg at end → h ≡ Value len → end - (at + 2 + len) < end - at
  item_less e v = let fits = item-fits e v in omega arith

-- no element stands there: the row is done, or its head is bad
pub row_in_stop : (P : Row → Type 0) (msg : List ℕ) (at end : ℕ) {h : Head} → h ≡ head_at msg at end → ((len : ℕ) → h ≡ Value len → ⊥)
    → P done → ((n : ℕ) → P (bad at n)) → P (row_in msg at end)
row_in_stop P msg at end {h} e never d b = rw (row_in_rule msg at end, ← e) (on h never)
  where
    on : (k : Head) → ((len : ℕ) → k ≡ Value len → ⊥) → P (row_with (λ next. row_in msg next end) at k)
    on End never = d
    on (Refused n) never = b n
    on (Value len) never = absurd (never len refl)

-- the row in an element's value
module _ (msg : List ℕ) (at : ℕ) where
  pub row_inside-done : {h : Head} → h ≡ head_at msg at (length msg) → ((len : ℕ) → h ≡ Value len → ⊥) → row_inside msg at ≡ done
  unfolding row_inside
  row_inside-done {h} e never = rw (← e) (on h never)
    where
      on : (k : Head) → ((len : ℕ) → k ≡ Value len → ⊥) → row_of_head msg at k ≡ done
      on End never = refl
      on (Refused n) never = refl
      on (Value len) never = absurd (never len refl)

  pub row_inside-row : {h : Head} {len : ℕ} → h ≡ head_at msg at (length msg) → h ≡ Value len → row_inside msg at ≡ row_in msg (at + 2) (at + 2 + len)
  unfolding row_inside
  row_inside-row e v = simp (← e, v)
