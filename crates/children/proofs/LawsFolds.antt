-- Laws of row_fold (specs/Rows.antt): what a walk over a row makes of what it has, by what stands at a place.
--
--   fold_stop      a fold where no element stands           fold_item       a fold over an element, then over the rest
--   inside_stop    a fold inside no element                 inside-item     a fold inside an element
--   fold_keeps     what every step keeps, a fold keeps
-- Trusts: nothing.
use Prim.Native.Nat.{ℕ, ◌+◌}
use mathlib.Core.Path.{◌≡◌, refl}
use mathlib.Core.List.{List}
use lib.ListN.{length}
use Rattle.elements.specs.Elements.{Head, Value, head_at}
use Rattle.children.specs.Rows.{Row, done, bad, item, row_in, row_inside, row_fold}
use Rattle.children.proofs.Laws.{row_in_stop, row_in_item, row_inside-done, row_inside-row}

module _ {A : Type 0} (step : ℕ → ℕ → A → A) (msg : List ℕ) (at end : ℕ) (so : A) where
  -- no element stands there
  pub fold_stop : {h : Head} → h ≡ head_at msg at end → ((len : ℕ) → h ≡ Value len → ⊥) → so ≡ row_fold step (row_in msg at end) so
  fold_stop e never = row_in_stop (λ row. so ≡ row_fold step row so) msg at end e never refl (λ n. refl)

  pub fold_item : {h : Head} {len : ℕ} {now : A} → h ≡ head_at msg at end → h ≡ Value len → now ≡ step at len so
      → row_fold step (row_in msg (at + 2 + len) end) now ≡ row_fold step (row_in msg at end) so
  fold_item e v s = simp (s, row_in_item msg at end e v)

-- a fold over the row in an element's value
module _ {A : Type 0} (step : ℕ → ℕ → A → A) (msg : List ℕ) (at : ℕ) (so : A) where
  pub inside_stop : {h : Head} → h ≡ head_at msg at (length msg) → ((len : ℕ) → h ≡ Value len → ⊥) → so ≡ row_fold step (row_inside msg at) so
  inside_stop e never = simp (row_inside-done msg at e never)

  pub inside-item : {h : Head} {len : ℕ} → h ≡ head_at msg at (length msg) → h ≡ Value len → row_fold step (row_in msg (at + 2) (at + 2 + len)) so ≡ row_fold step (row_inside msg at) so
  inside-item e v = simp (row_inside-row msg at e v)

module _ {A : Type 0} (P : A → Type 0) (step : ℕ → ℕ → A → A) (keep : (at len : ℕ) (so : A) → P so → P (step at len so)) where
  pub fold_keeps : (row : Row) (so : A) → P so → P (row_fold step row so)
  fold_keeps done so p = p
  fold_keeps (bad at n) so p = p
  fold_keeps (item at len rest) so p = fold_keeps rest (step at len so) (keep at len so p)
