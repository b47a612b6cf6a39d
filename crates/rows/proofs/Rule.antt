-- That the definitions of specs/Rows.antt mean what they say: a row is one step of the rule over rows, however the steps are counted.
--
--   row-rule    row_of is the rule over row_of
-- Trusts: nothing.
use mathlib.Core.Path.{◌≡◌, refl, sym, ap, ◌∙◌, fun_ext}
use mathlib.Core.List.{List}
use Prim.Native.Nat.{ℕ, zero, suc, ◌+◌, ◌-◌, ◌≤◌, ◌<◌}
use native.Mathlib.Omega.{arith}
use Rattle.elements.specs.Elements.{Head, End, Refused, Value, head_at}
use Rattle.elements.proofs.Laws.{head_at-end, head_at-fits}
use Rattle.rows.specs.Tests.{row_end, none_counted}
use Rattle.rows.specs.Rows.{element_with, noted, go_on, on_head, row_step, row_from, row_of}
use Rattle.element_tests.specs.Tests.{Step}
use Rattle.rows.specs.Tests.{Fault}

-- what a step does with the value that a head announces
abbrev turn : (ℕ → ℕ → ℕ → ℕ → List ℕ → Fault) → List ℕ → ℕ → ℕ → ℕ → ℕ → List ℕ → ℕ → Fault
turn rows msg parent own at end t len =
    go_on (element_with (λ k. rows k at (at + 2) (at + 2 + len) none_counted) msg parent at len t) (λ s. rows parent own (at + 2 + len) end (noted t s))

-- a step of the rule looks at shorter rows alone
module _ (R S : ℕ → ℕ → ℕ → ℕ → List ℕ → Fault) (msg : List ℕ) (parent own at end : ℕ) (t : List ℕ) (same : (k o a e : ℕ) (u : List ℕ) → e - a < end - at → R k o a e u ≡ S k o a e u) where
  turn_same : (len : ℕ) → at + 2 + len ≤ end → turn R msg parent own at end t len ≡ turn S msg parent own at end t len
  turn_same len fits =
      ap (λ (i : ℕ → Fault). go_on (element_with i msg parent at len t) (λ s. R parent own (at + 2 + len) end (noted t s))) (fun_ext (λ k. same k at (at + 2) (at + 2 + len) none_counted (omega arith)))
      ∙ ap (λ (j : Step → Fault). go_on (element_with (λ k. S k at (at + 2) (at + 2 + len) none_counted) msg parent at len t) j)
      (fun_ext (λ s. same parent own (at + 2 + len) end (noted t s) (omega arith)))

  step_same : row_step R msg parent own at end t ≡ row_step S msg parent own at end t
  unfolding row_step
  step_same = on (head_at msg at end) refl
    where
      on : (h : Head) → head_at msg at end ≡ h → on_head h (row_end parent own t) at (turn R msg parent own at end t) ≡ on_head h (row_end parent own t) at (turn S msg parent own at end t)
      on End e = refl
      on (Refused n) e = refl
      on (Value len) e = turn_same len (head_at-fits msg at end e).0

-- at the end of a row the rule is the row's end
step_ends : (R : ℕ → ℕ → ℕ → ℕ → List ℕ → Fault) (msg : List ℕ) (parent own at end : ℕ) (t : List ℕ) → end ≤ at → row_step R msg parent own at end t ≡ row_end parent own t
unfolding row_step
step_ends R msg parent own at end t h = simp (head_at-end msg at end (omega arith))

-- two counts of steps that are enough give the same
enough : (f g : ℕ) (msg : List ℕ) (parent own at end : ℕ) (t : List ℕ) → end - at ≤ f → end - at ≤ g → row_from f msg parent own at end t ≡ row_from g msg parent own at end t
unfolding row_from
enough zero zero msg parent own at end t a b = refl
enough zero (suc g) msg parent own at end t a b = sym (step_ends _ msg parent own at end t (omega arith))
enough (suc f) zero msg parent own at end t a b = step_ends _ msg parent own at end t (omega arith)
enough (suc f) (suc g) msg parent own at end t a b =
    step_same (λ k o a e u. row_from f msg k o a e u) (λ k o a e u. row_from g msg k o a e u) msg parent own at end t
    (λ k o c e u h. enough f g msg k o c e u (omega arith) (omega arith))

-- THE RULE HOLDS of row_of
pub row-rule : (msg : List ℕ) (parent own at end : ℕ) (t : List ℕ) → row_of msg parent own at end t ≡ row_step (row_of msg) msg parent own at end t
unfolding row_of row_from
row-rule msg parent own at end t = go (end - at) refl
  where
    go : (n : ℕ) → end - at ≡ n → row_from n msg parent own at end t ≡ row_step (row_of msg) msg parent own at end t
    go zero e = sym (step_ends _ msg parent own at end t (omega arith))
    go (suc n) e =
        step_same (λ k o a e u. row_from n msg k o a e u) (row_of msg) msg parent own at end t
        (λ k o c e' u h. enough n (e' - c) msg k o c e' u (omega arith) (omega arith))
