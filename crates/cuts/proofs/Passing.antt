-- The walk of `pass_elements` on plain values, from one cut to the next.
--
--   Passing msg from cut place   `place` is that of the length byte of an element whose start the walk reaches, or stands one behind the cut
--   passing_start                before the first turn
--   passing_near, passing_long, passing_255      the answers: no head ends before the cut; a value ends behind it; a length of 255
--   passing_on                   the element is passed
-- Trusts: nothing.
use Prim.Native.Nat.{ℕ, ◌+◌, ◌-◌, ◌≤◌, ◌<◌}
use mathlib.Core.Path.{◌≡◌, sym, ap, ◌∙◌}
use mathlib.Core.List.{List}
use native.Mathlib.Omega.{arith}
use lib.ListN.{length, get_or}
use Rattle.elements.specs.Elements.{Refused, Value, head_at, length_byte}
use Rattle.elements.proofs.Laws.{head_at_255, head_at-whole, head_at-fits}
use Rattle.cuts.specs.Walks.{Reached, next}
use Rattle.cuts.specs.Duties.{Passed}

pub record Passing (msg : List ℕ) (from cut place : ℕ) : Type 0 where
  pub some : 1 ≤ place
  pub most : place ≤ cut + 1
  pub reached : Reached msg from → Reached msg (place - 1)

pub passing_start : (msg : List ℕ) (from cut : ℕ) → from ≤ cut → Passing msg from cut (from + 1)
passing_start msg from cut l = let z : from + 1 - 1 ≡ from = omega arith in record { some = omega arith; most = omega arith; reached = λ t. rw z t }

module _ (msg : List ℕ) (from cut place : ℕ) (w : Passing msg from cut place) where
  pub passing_near : cut + 1 < place + 2 → Passed msg from cut (place - 1)
  passing_near l = let a = w.some in let b = w.most in record { reached = w.reached; inside = omega arith; stops = λ len e q. omega arith }

  -- the length byte of the element is `len`
  module _ (len : ℕ) (e : len ≡ get_or msg place 0) where
    own : len ≡ length_byte msg (place - 1)
    own = let a = w.some in let z : place - 1 + 1 ≡ place = omega arith in e ∙ ap (λ p. get_or msg p 0) (sym z)

    pub passing_long : cut + 1 - (place + 2) < len → Passed msg from cut (place - 1)
    passing_long l =
        let a = w.some in
        let b = w.most in
        record { reached = w.reached; inside = omega arith; stops = λ size h q. let f = head_at-fits msg (place - 1) (length msg) h in let o = own in omega arith }

    module _ (inside : cut ≤ length msg) (room : place + 2 ≤ cut + 1) where
      pub passing_255 : len ≡ 255 → Passed msg from cut (place - 1)
      passing_255 f =
          let a = w.some in
          record {
            reached = w.reached;
            inside = omega arith;
            stops = λ size h q. absurd (clash size (sym (head_at_255 msg (place - 1) (length msg) (omega arith) own f) ∙ h));
          } where
            clash : (size : ℕ) → Refused 7 ≡ Value size → ⊥
            clash size g = let z : ◌≡◌ {A = ℕ} 0 1 = cc in omega arith

      pub passing_on : len ≤ cut + 1 - (place + 2) → (len ≡ 255 → ⊥) → Passing msg from cut (place + 2 + len)
      passing_on l ne =
          let a = w.some in
          let h : head_at msg (place - 1) (length msg) ≡ Value len = head_at-whole msg (place - 1) (length msg) (omega arith) own ne (omega arith) in
          let z : place + 2 + len - 1 ≡ place - 1 + 2 + len = omega arith in
          record { some = omega arith; most = omega arith; reached = λ t. rw z (next len (w.reached t) h) }
