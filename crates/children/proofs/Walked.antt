-- A walk over the children of a row (specs/Children.antt), of which each step takes one more up.
--
--   Fits msg c                        the child's type is that of its place, and its value lies in the message
--   Walked step msg row so cs now     with `cs` still to take up, `now` is what the walk over `row` has made of `so`
--   is_type                           so the type at its place is the one that a test found
--   walk_start, walk_inside           a walk that begins: over a row, and over the children of an element
--   walk_fits, walk_turn              the next child: it fits; taken up
--   walk_end                          no child is left: the fold
-- Trusts: nothing.
use Prim.Native.Nat.{ℕ, zero, suc, ◌+◌, ◌-◌, ◌≤◌}
use mathlib.Core.Path.{◌≡◌, refl, sym, ◌∙◌}
use mathlib.Core.List.{List, [], ◌∷◌}
use lib.ListN.{length}
use Rattle.elements.specs.Elements.{Head, End, Refused, Value, head_at}
use Rattle.elements.proofs.Laws.{head_at-fits}
use Rattle.children.specs.declared.Child.{Child}
use Rattle.children.specs.Rows.{Row, row_with, row_from, row_in, row_of_head, row_inside, row_fold, type_at}
use Rattle.children.specs.Children.{children_in, fold_children}
use Rattle.children.proofs.LawsChildren.{fold_same}

pub record Fits (msg : List ℕ) (c : Child) : Type 0 where
  pub kind : c.kind ≡ type_at msg c.at
  pub room : c.at + 2 + c.len ≤ length msg

-- the type is the one that a test found
pub is_type : {msg : List ℕ} {c : Child} {k : ℕ} → Fits msg c → c.kind ≡ k → type_at msg c.at ≡ k
is_type f e = sym f.kind ∙ e

abbrev pub EachFits : List ℕ → List Child → Type 0
EachFits msg [] = Unit {0}
EachFits msg (c ∷ cs) = Fits msg c × EachFits msg cs

fits_from : (left : ℕ) (msg : List ℕ) (at end : ℕ) → EachFits msg (children_in msg (row_from left msg at end))
unfolding row_from
fits_from zero msg at end = tt
fits_from (suc left) msg at end = on (head_at msg at end) refl (λ next. fits_from left msg next end)
  where
    on : (h : Head) → head_at msg at end ≡ h → ((next : ℕ) → EachFits msg (children_in msg (row_from left msg next end))) → EachFits msg (children_in msg (row_with (λ next. row_from left msg next end) at h))
    on End e f = tt
    on (Refused n) e f = tt
    on (Value len) e f = (record { kind = refl; room = (head_at-fits msg at end e).1 }, f (at + 2 + len))

fits_in : (msg : List ℕ) (at end : ℕ) → EachFits msg (children_in msg (row_in msg at end))
unfolding row_in
fits_in msg at end = fits_from (end - at) msg at end

fits_inside : (msg : List ℕ) (at : ℕ) → EachFits msg (children_in msg (row_inside msg at))
unfolding row_inside
fits_inside msg at = on (head_at msg at (length msg))
  where
    on : (h : Head) → EachFits msg (children_in msg (row_of_head msg at h))
    on End = tt
    on (Refused n) = tt
    on (Value len) = fits_in msg (at + 2) (at + 2 + len)

pub record Walked {A : Type 0} (step : ℕ → ℕ → A → A) (msg : List ℕ) (row : Row) (so : A) (cs : List Child) (now : A) : Type 0 where
  pub fit : EachFits msg cs
  pub rest : fold_children step cs now ≡ row_fold step row so

module _ {A : Type 0} {step : ℕ → ℕ → A → A} {msg : List ℕ} {so : A} {cs : List Child} where
  pub walk_start : (at end : ℕ) → cs ≡ children_in msg (row_in msg at end) → Walked step msg (row_in msg at end) so cs so
  walk_start at end e = rw e (record { fit = fits_in msg at end; rest = fold_same step msg (row_in msg at end) so })

  pub walk_inside : (at : ℕ) → cs ≡ children_in msg (row_inside msg at) → Walked step msg (row_inside msg at) so cs so
  walk_inside at e = rw e (record { fit = fits_inside msg at; rest = fold_same step msg (row_inside msg at) so })

  module _ {row : Row} {now : A} (w : Walked step msg row so cs now) where
    module _ {c : Child} {ds : List Child} (e : cs ≡ c ∷ ds) where
      pub walk_fits : Fits msg c
      walk_fits = let f = rw e at w.fit in f.0

      pub walk_turn : {next : A} → next ≡ step c.at c.len now → Walked step msg row so ds next
      walk_turn s = record { fit = (let f = rw e at w.fit in f.1); rest = rw s (let r = rw e at w.rest in r) }

    pub walk_end : cs ≡ [] → now ≡ row_fold step row so
    walk_end e = rw e at w.rest
