-- Laws of the parts of `counts_idle` (specs/Idle.antt).
--
--   suited             the bit of a constant says whether four numbers are unsuited: computed for all 64
--   or_left, or_right, is_unsuited_over   three numbers joined bit by bit are over 1 where one of them is
--   isUnsuited-..      a number out of its range is unsuited;  is_unsuited→mark   a suited record's receive mark is 0 or 1
--   countsIdle-..      what each part says of the whole, in the order of the tests
-- Trusts: nothing.
use Prim.Native.Nat.{ℕ, zero, suc, ◌+◌, ◌*◌, ◌/◌, ◌%◌, ◌^◌, ◌≤◌, ◌<◌}
use mathlib.Core.Path.{◌≡◌, refl, sym, ◌∙◌}
use mathlib.Core.Bool.{Bool, true, false, cond, not, ◌&&◌, ◌||◌, true≢false}
use native.Mathlib.Omega.{arith}
use lib.Dec.{ltb, eqb}
use lib.Bits.{bit_or, or_add_and, and_le_l, and_le_r, or_lt}
use borrow.Author.Tests.{ltb-true, ltb-false, eqb-true, eqb-false, lt-ltb, le-ltb, ne_eqb}
use Rattle.std.proofs.Math.Bool.{or-true}
use Rattle.std.proofs.lemmas.Bool.{agree_below, agree_below_at}
use Rattle.modem_record.specs.declared.Modem.{Modem}
use Rattle.modem_record.specs.States.{idle, is_at, receive_of, retry_of}
use Rattle.modem_record.specs.Record.{receive_mark, retry_mark, ucid_mark, least_permission, is_over, is_spoilt, is_broken, counts_idle}
use Rattle.modem_record.specs.Idle.{is_unsuited, is_late, is_held_over}

two : (P : ℕ → Type 0) → P 0 → P 1 → (n : ℕ) → n ≤ 1 → P n
two P a b zero h = a
two P a b (suc zero) h = b
two P a b (suc (suc n)) h = absurd (omega arith)

abbrev Suited : ℕ → ℕ → ℕ → ℕ → Type 0
Suited s r u p = eqb ((13651674617873152 / 2 ^ (s * 8 + r * 4 + u * 2 + p)) % 2) 0 ≡ is_unsuited s r u p

-- the bit at a place, and whether the four numbers that make it are unsuited
abbrev bit_is_0 : ℕ → Bool
bit_is_0 n = eqb ((13651674617873152 / 2 ^ n) % 2) 0

abbrev unsuited_at : ℕ → Bool
unsuited_at n = is_unsuited (n / 8) (n / 4 % 2) (n / 2 % 2) (n % 2)

every_place : agree_below bit_is_0 unsuited_at 64 ≡ true
unfolding is_unsuited
every_place = refl

pub suited : (s r u p : ℕ) → s ≤ 7 → r ≤ 1 → u ≤ 1 → p ≤ 1 → Suited s r u p
suited s r u p hs hr hu hp =
    let e : bit_is_0 (s * 8 + r * 4 + u * 2 + p) ≡ unsuited_at (s * 8 + r * 4 + u * 2 + p) =
    agree_below_at bit_is_0 unsuited_at 64 (s * 8 + r * 4 + u * 2 + p) every_place (omega arith) in
    let a : (s * 8 + r * 4 + u * 2 + p) / 8 ≡ s = omega arith in
    let b : (s * 8 + r * 4 + u * 2 + p) / 4 % 2 ≡ r = omega arith in
    let c : (s * 8 + r * 4 + u * 2 + p) / 2 % 2 ≡ u = omega arith in
    let d : (s * 8 + r * 4 + u * 2 + p) % 2 ≡ p = omega arith in
    rw (a, b, c, d) at e

-- a mark over 1 is not due
over : (b : Bool) (x y n : ℕ) → x ≤ 1 → y ≤ 1 → 1 < n → eqb n (cond b x y) ≡ false
over true x y n hx hy h = ne_eqb n x (omega arith)
over false x y n hx hy h = ne_eqb n y (omega arith)

module _ (s r u p : ℕ) where
  pub is_unsuited_state : 7 < s → is_unsuited s r u p ≡ true
  unfolding is_unsuited
  is_unsuited_state h = simp (lt-ltb 6 s (omega arith), or-true)

  pub is_unsuited-receive : 1 < r → is_unsuited s r u p ≡ true
  unfolding is_unsuited
  is_unsuited-receive h = simp (over (eqb s 0 || eqb s 1) 0 1 r (omega arith) (omega arith) h, or-true)

  pub is_unsuited-ucid : 1 < u → is_unsuited s r u p ≡ true
  unfolding is_unsuited
  is_unsuited-ucid h = simp (over (eqb s 5) 1 0 u (omega arith) (omega arith) h, or-true)

  pub is_unsuited_permission : 1 < p → is_unsuited s r u p ≡ true
  unfolding is_unsuited
  is_unsuited_permission h = simp (lt-ltb 1 p h, or-true)

-- no number is more than the three joined bit by bit
pub or_left : (a b : ℕ) → a ≤ bit_or a b
or_left a b = omega (arith, or_add_and a b, and_le_r a b)

pub or_right : (a b : ℕ) → b ≤ bit_or a b
or_right a b = omega (arith, or_add_and a b, and_le_l a b)

pub is_unsuited_over : (s r u p : ℕ) → 1 < bit_or (bit_or r u) p → is_unsuited s r u p ≡ true
is_unsuited_over s r u p h = go (ltb 1 r) (ltb 1 u) (ltb 1 p) refl refl refl
  where
    none : r ≤ 1 → u ≤ 1 → p ≤ 1 → bit_or (bit_or r u) p ≤ 1
    none hr hu hp =
        let e : bit_or (bit_or r u) p < 2 ^ 1 = or_lt 1 (bit_or r u) p (or_lt 1 r u (omega arith) (omega arith)) (omega arith) in omega arith

    go : (x y z : Bool) → ltb 1 r ≡ x → ltb 1 u ≡ y → ltb 1 p ≡ z → is_unsuited s r u p ≡ true
    go true y z e f g = is_unsuited-receive s r u p (ltb-true 1 r e)
    go false true z e f g = is_unsuited-ucid s r u p (ltb-true 1 u f)
    go false false true e f g = is_unsuited_permission s r u p (ltb-true 1 p g)
    go false false false e f g = absurd (omega (arith, none (ltb-false 1 r e) (ltb-false 1 u f) (ltb-false 1 p g)))

pub is_unsuited→mark : (s r u p : ℕ) → is_unsuited s r u p ≡ false → r ≤ 1
is_unsuited→mark s r u p h = go (ltb 1 r) refl
  where
    go : (b : Bool) → ltb 1 r ≡ b → r ≤ 1
    go true e = absurd (true≢false (sym (is_unsuited-receive s r u p (ltb-true 1 r e)) ∙ h))
    go false e = ltb-false 1 r e

pub times_mark : (left on : ℕ) → on ≤ 1 → left * on ≤ left
times_mark left on h = two (λ on. left * on ≤ left) (omega arith) (omega arith) on h

-- one that shows too much is over where its mark is 1, and never where it is 0
pub is_held_over-mark : (on left : ℕ) → on ≤ 1 → ltb 65535000 (left * on) ≡ is_held_over on left
unfolding is_held_over
is_held_over-mark on left h = two (λ on. ltb 65535000 (left * on) ≡ (not (eqb on 0) && ltb 65535000 left)) (rw (le-ltb 65535000 (left * 0) (omega arith)))
    (let e : left * 1 ≡ left = omega arith in rw e) on h

late : (a b o : Bool) (n : ℕ) → 0 < n → ((not (eqb n 1) || not a) || not b) || o ≡ ltb (cond (a && b) 1 0) n || (not (eqb n 0) && o)
late false b o n h = simp (or-true, lt-ltb 0 n h)
late true false o n h = simp (or-true, lt-ltb 0 n h)
late true true o n h = go (eqb n 1) refl
  where
    go : (z : Bool) → eqb n 1 ≡ z → ((not (eqb n 1) || false) || false) || o ≡ ltb 1 n || (not (eqb n 0) && o)
    go true e = rw (eqb-true n 1 e)
    go false e = let l : 1 < n = omega (arith, eqb-false n 1 e) in rw (e, lt-ltb 1 n l)

pub is_late-on : (s p n left : ℕ) → 0 < n → ((not (eqb n 1) || not (eqb s 3)) || not (eqb p 1)) || ltb 65535000 left ≡ is_late s p n left
unfolding is_late is_held_over
is_late-on s p n left h = late (eqb s 3) (eqb p 1) (ltb 65535000 left) n h

pub is_late-off : (s p n left : ℕ) → n ≡ 0 → false ≡ is_late s p n left
unfolding is_late is_held_over
is_late-off s p n left h = rw (h, le-ltb (cond (eqb s 3 && eqb p 1) 1 0) 0 (omega arith))

-- the chain of `counts_idle`, by its parts: six tests of the marks, the retry mark among them, two values, two timers
unsuited : (i a b c d e f z : Bool) → i || a || b || c || e || f ≡ true → i || (a || b || c || d || e || f || z) ≡ true
unsuited true a b c d e f z h = refl
unsuited false true b c d e f z h = refl
unsuited false false true c d e f z h = refl
unsuited false false false true d e f z h = refl
unsuited false false false false true e f z h = refl
unsuited false false false false false true f z h = refl
unsuited false false false false false false true z h = refl
unsuited false false false false false false false z h = absurd (true≢false (sym h))

overdue : (i a b c d e f t v x y : Bool) → d || y ≡ true → i || (a || b || c || d || e || f || (t || v || x || y)) ≡ true
overdue i a b c true e f t v x y h = simp or-true
overdue i a b c false e f t v x true h = simp or-true
overdue i a b c false e f t v x false h = absurd (true≢false (sym h))

sound : (i a b c d e f t v x y : Bool) → t ≡ false → v ≡ false → i || a || b || c || e || f ≡ false → d || y ≡ false → i || (a || b || c || d || e || f || (t || v || x || y)) ≡ x
sound true a b c d e f t v x y ht hv hu hl = absurd (true≢false hu)
sound false true b c d e f t v x y ht hv hu hl = absurd (true≢false hu)
sound false false true c d e f t v x y ht hv hu hl = absurd (true≢false hu)
sound false false false true d e f t v x y ht hv hu hl = absurd (true≢false hu)
sound false false false false true e f t v x y ht hv hu hl = absurd (true≢false hl)
sound false false false false false true f t v x y ht hv hu hl = absurd (true≢false hu)
sound false false false false false false true t v x y ht hv hu hl = absurd (true≢false hu)
sound false false false false false false false true v x y ht hv hu hl = absurd (true≢false ht)
sound false false false false false false false false true x y ht hv hu hl = absurd (true≢false hv)
sound false false false false false false false false false x true ht hv hu hl = absurd (true≢false hl)
sound false false false false false false false false false true false ht hv hu hl = refl
sound false false false false false false false false false false false ht hv hu hl = refl

module _ (m : Modem) where
  pub counts_idle_unsuited : is_unsuited m.state m.receiveon m.hasucid m.permission ≡ true → counts_idle m ≡ true
  unfolding counts_idle is_broken is_unsuited
  counts_idle_unsuited h =
      unsuited (is_at idle m) (ltb 6 m.state) (ltb 1 m.permission) (not (eqb m.receiveon (receive_mark m))) (ltb (retry_mark m) m.retryon) (not (eqb m.hasucid (ucid_mark m)))
      (ltb m.permission (least_permission m)) (is_spoilt m) h

  pub counts_idle_late : is_late m.state m.permission m.retryon m.retry ≡ true → counts_idle m ≡ true
  unfolding counts_idle is_broken is_late is_held_over
  counts_idle_late h =
      overdue (is_at idle m) (ltb 6 m.state) (ltb 1 m.permission) (not (eqb m.receiveon (receive_mark m))) (ltb (retry_mark m) m.retryon) (not (eqb m.hasucid (ucid_mark m)))
      (ltb m.permission (least_permission m))
      (eqb m.tdsg1 0) (eqb m.tdsg2 0) (is_over (receive_of m)) (is_over (retry_of m)) h

  pub counts_idle_rest : eqb m.tdsg1 0 ≡ false → eqb m.tdsg2 0 ≡ false → is_unsuited m.state m.receiveon m.hasucid m.permission ≡ false
      → is_late m.state m.permission m.retryon m.retry ≡ false → counts_idle m ≡ is_held_over m.receiveon m.receive
  unfolding counts_idle is_broken is_unsuited is_late is_held_over
  counts_idle_rest ht hv hu hl =
      sound (is_at idle m) (ltb 6 m.state) (ltb 1 m.permission) (not (eqb m.receiveon (receive_mark m))) (ltb (retry_mark m) m.retryon) (not (eqb m.hasucid (ucid_mark m)))
      (ltb m.permission (least_permission m))
      (eqb m.tdsg1 0) (eqb m.tdsg2 0) (is_over (receive_of m)) (is_over (retry_of m)) ht hv hu hl
