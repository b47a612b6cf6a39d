-- One walk over a list from the front, as the loop makes it, finds `best_place` (specs/Best.antt).
--
--   scan pr nu ok b at xs   the best so far, `b`, after the elements of xs, which stand from place `at` on
--   scan_more, scan_end     one more turn of a loop over a list; no place is left
--   scan_taken, scan_left   the turn of an element that becomes the best; of one that does not
--   Leads xs b              what is known of the best of xs: none passes, or it is the first of the best
--   scan_within             what the walk over a whole list found is `best_place`
--   best_place_nobody       where there is no best place, nobody passes
-- Trusts: nothing.
use mathlib.Core.Path.{◌≡◌, refl, sym, ap, ◌∙◌}
use mathlib.Core.Bool.{Bool, true, false, ◌&&◌, and-false}
use mathlib.Core.List.Memᴰ
use mathlib.Core.List.{List, [], ◌∷◌, ◌++◌, append-nil, append_assoc, Memᴰ}
use mathlib.Core.Logic.{◌⊎◌, inl, inr}
use Prim.Native.Nat.{ℕ, suc, ◌+◌, ◌≤◌, ◌<◌}
use native.Mathlib.Nat.{le_refl}
use native.Mathlib.Numerals.{add-one}
use native.Mathlib.Omega.{arith}
use borrow.Author.Tests.{lt-ltb, le-ltb}
use lib.ListN.{length, drop, get_or, length-append, drop_of_length-le}
use lib.Seq.{drop-cons, append_snoc}
use Rattle.std.specs.Prelude.{Option, None, Some, option_map}
use Rattle.order.specs.declared.Best.{Best}
use Rattle.order.specs.Best.{comes_before, best_place, is_better, best_after, within}
use Rattle.order.proofs.Order.{comes_before_trans, comes_before_past}
use Rattle.order.proofs.Places.{clash, best_place-none, best_place-at}

module _ {A : Type 0} (pr nu : A → ℕ) (ok : A → Bool) where
  abbrev before : A → A → Bool
  before x y = comes_before (pr x) (nu x) (pr y) (nu y)

  abbrev after : Option Best → ℕ → A → Option Best
  after b at x = best_after b at (pr x) (nu x) (ok x)

  abbrev best_at : ℕ → A → Best
  best_at k x = record { place = k; priority = pr x; number = nu x }

  unfoldable pub scan : Option Best → ℕ → List A → Option Best
  scan b at [] = b
  scan b at (x ∷ xs) = scan (best_after b at (pr x) (nu x) (ok x)) (suc at) xs

  pub scan_more : (xs : List A) (d : A) (i : ℕ) (b : Option Best) → i < length xs
      → scan b i (drop i xs) ≡ scan (best_after b i (pr (get_or xs i d)) (nu (get_or xs i d)) (ok (get_or xs i d))) (i + 1) (drop (i + 1) xs)
  unfolding scan
  scan_more xs d i b h = rw (drop-cons xs i d h) (ap (λ (j : ℕ). scan (after b i (get_or xs i d)) j (drop j xs)) (sym (add-one i)))

  pub scan_end : (xs : List A) (i : ℕ) (b : Option Best) → length xs ≤ i → scan b i (drop i xs) ≡ b
  unfolding scan
  scan_end xs i b h = rw (drop_of_length-le xs h)

  -- a turn of the loop at the element x, which stands at i
  module _ (xs : List A) (i : ℕ) (x : A) (h : i < length xs) (is : x ≡ get_or xs i x) (b : Option Best) (p n : ℕ) (ep : p ≡ pr x) (en : n ≡ nu x) where
    pub scan_taken : is_better b p n ≡ true → ok x ≡ true → scan (Some (record { place = i; priority = p; number = n })) (i + 1) (drop (i + 1) xs) ≡ scan b i (drop i xs)
    unfolding best_after
    scan_taken better passes = rw (scan_more xs x i b h, ← is, ← ep, ← en, better, passes)

    pub scan_left : is_better b p n && ok x ≡ false → scan b (i + 1) (drop (i + 1) xs) ≡ scan b i (drop i xs)
    unfolding best_after
    scan_left e = rw (scan_more xs x i b h, ← is, ← ep, ← en, e)

  data Leads (xs : List A) (b : Option Best) : Type 0 where
    nobody : b ≡ None → ((y : A) → Memᴰ y xs → ok y ≡ false) → Leads xs b
    leader : (pre : List A) (x : A) (post : List A) → xs ≡ pre ++ (x ∷ post) → b ≡ Some (best_at (length pre) x) → ok x ≡ true
        → ((y : A) → Memᴰ y pre → ok y ≡ true → before x y ≡ true) → ((y : A) → Memᴰ y post → ok y ≡ true → before y x ≡ false) → Leads xs b

  -- one more element, w: it passes or not, and is better or not
  module _ (xs : List A) (w : A) where
    abbrev more : List A
    more = xs ++ (w ∷ [])

    snoc : {P : A → Type 0} (ys : List A) → ((y : A) → Memᴰ y ys → P y) → P w → (y : A) → Memᴰ y (ys ++ (w ∷ [])) → P y
    snoc {P = P} ys h e y k = go (Memᴰ.append_cases ys k)
      where
        go : Memᴰ y ys ⊎ Memᴰ y (w ∷ []) → P y
        go (inl t) = h y t
        go (inr t) = rw (Memᴰ.eq_of_singleton t) e

    step : (b : Option Best) → Leads xs b → Leads more (after b (length xs) w)
    unfolding best_after is_better
    step b (nobody none h) = go (ok w) refl
      where
        go : (o : Bool) → ok w ≡ o → Leads more (after b (length xs) w)
        go false eo = nobody (rw (none, eo)) (snoc {P = λ y. ok y ≡ false} xs h eo)
        go true eo = leader xs w [] refl (rw (none, eo)) eo (λ y t e. absurd (clash e (h y t))) (λ y t e. absurd (Memᴰ.not-nil t))
    step b (leader pre x post exs eb ex front behind) = go (ok w) (before w x) refl refl
      where
        beyond : (y : A) → Memᴰ y (post ++ (w ∷ [])) → (ok w ≡ true → before w x ≡ false) → ok y ≡ true → before y x ≡ false
        beyond y k e = snoc {P = λ y. ok y ≡ true → before y x ≡ false} post behind e y k

        past : before w x ≡ true → (y : A) → (y ≡ x) ⊎ Memᴰ y post → ok y ≡ true → before w y ≡ true
        past ew y (inl k) ey = rw k ew
        past ew y (inr k) ey = comes_before_past (pr w) (nu w) (pr x) (nu x) (pr y) (nu y) ew (behind y k ey)

        over : before w x ≡ true → (y : A) → Memᴰ y pre ⊎ Memᴰ y (x ∷ post) → ok y ≡ true → before w y ≡ true
        over ew y (inl k) ey = comes_before_trans (pr w) (nu w) (pr x) (nu x) (pr y) (nu y) ew (front y k ey)
        over ew y (inr k) ey = past ew y (Memᴰ.cases_cons k) ey

        kept : after b (length xs) w ≡ b → (ok w ≡ true → before w x ≡ false) → Leads more (after b (length xs) w)
        kept same e = leader pre x (post ++ (w ∷ [])) (ap (λ (l : List A). l ++ (w ∷ [])) exs ∙ append_assoc pre (x ∷ post) (w ∷ [])) (same ∙ eb) ex front (λ y k. beyond y k e)

        go : (o l : Bool) → ok w ≡ o → before w x ≡ l → Leads more (after b (length xs) w)
        go false l eo el = kept (simp (eo, and-false)) (λ e. absurd (clash e eo))
        go true false eo el = kept (rw (eb, el)) (λ e. el)
        go true true eo el = leader xs w [] refl (rw (eb, el, eo)) eo (λ y t. over el y (Memᴰ.append_cases pre (rw exs at t))) (λ y t e. absurd (Memᴰ.not-nil t))

  leads : (rest xs : List A) (b : Option Best) → Leads xs b → Leads (xs ++ rest) (scan b (length xs) rest)
  unfolding scan
  leads [] xs b h = rw (append-nil xs) h
  leads (w ∷ rest) xs b h =
      let e : length (xs ++ (w ∷ [])) ≡ suc (length xs) = length-append xs (w ∷ []) ∙ add-one (length xs) in
      rw (← append_snoc xs w rest, ← e) (leads rest (xs ++ (w ∷ [])) (after b (length xs) w) (step xs w b h))

  walked : (xs : List A) → Leads xs (scan None 0 xs)
  walked xs = leads xs [] None (nobody refl (λ y t. absurd (Memᴰ.not-nil t)))

  found : (xs pre : List A) (x : A) (post : List A) → xs ≡ pre ++ (x ∷ post) → length pre < length xs
  found xs pre x post exs = let long : length xs ≡ length pre + suc (length post) = ap length exs ∙ length-append pre (x ∷ post) in omega arith

  pub scan_within : (xs : List A) → option_map (λ b. b.place) (scan None 0 xs) ≡ within (length xs) (best_place pr nu ok xs)
  unfolding within
  scan_within xs = go (walked xs)
    where
      go : Leads xs (scan None 0 xs) → option_map (λ b. b.place) (scan None 0 xs) ≡ within (length xs) (best_place pr nu ok xs)
      go (nobody p h) = rw (p, best_place-none pr nu ok xs h, le-ltb (length xs) (length xs) (le_refl (length xs)))
      go (leader pre x post exs eb ex front behind) =
          let at : best_place pr nu ok xs ≡ length pre = rw exs (best_place-at pr nu ok pre x post ex front behind) in
          rw (eb, at, lt-ltb (length pre) (length xs) (found xs pre x post exs))

  pub best_place_nobody : (xs : List A) → best_place pr nu ok xs ≡ length xs → (y : A) → Memᴰ y xs → ok y ≡ false
  best_place_nobody xs e = go (walked xs)
    where
      go : Leads xs (scan None 0 xs) → (y : A) → Memᴰ y xs → ok y ≡ false
      go (nobody p h) = h
      go (leader pre x post exs eb ex front behind) =
          let at : best_place pr nu ok xs ≡ length pre = rw exs (best_place-at pr nu ok pre x post ex front behind) in
          absurd (omega (arith, found xs pre x post exs))
