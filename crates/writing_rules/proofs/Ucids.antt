-- The list of UCIDs as bytes (specs/Encode.antt of writing_elements, ucid_bytes).
--
--   ucids-few      a rule has at most 16
--   ucids-none     where there is none, nothing is written       ucids-some     else a head and the bytes
-- Trusts: nothing.
use Prim.Native.Nat.{ℕ, ◌+◌, ◌≤◌}
use mathlib.Core.Path.{◌≡◌, refl, sym, ap, subst, ◌∙◌}
use mathlib.Core.List.{List, [], ◌∷◌}
use native.Mathlib.Omega.{arith}
use lib.ListN.{length, take, set}
use lib.Seq.{length-take-le}
use Rattle.wire.specs.Bytes.{pasted}
use Rattle.table.specs.Table.{limited_to, ucids_of}
use Rattle.table.specs.declared.Rule.{Rule}
use Rattle.table.proofs.Laws.{limited_to_le}
use Rattle.texts.specs.Writing.{Lined}
use Rattle.texts.proofs.Written.{wrote_none, wrote_then}
use Rattle.writing_elements.specs.Encode.{element, ucid_bytes}
use Rattle.writing_numbers.proofs.Heads.{wrote-head}

some_bytes : (l : List ℕ) → (length l ≡ 0 → ⊥) → element 3 l ≡ ucid_bytes l
unfolding ucid_bytes
some_bytes [] h = absurd (h refl)
some_bytes (x ∷ l) h = refl

none-bytes : (l : List ℕ) → length l ≡ 0 → ucid_bytes l ≡ []
unfolding ucid_bytes
none-bytes [] h = refl
none-bytes (x ∷ l) h = absurd (omega arith)

-- n is the count, as it is read
module _ (q : Rule) {n : ℕ} (e : n ≡ limited_to 16 q.ucidcount) where
  pub ucids-few : n ≤ 16
  ucids-few = omega (arith, limited_to_le 16 q.ucidcount)

  front : ucids_of q ≡ take n q.ucids
  unfolding ucids_of
  front = ap (λ (k : ℕ). take k q.ucids) (sym e)

  module _ (whole : length q.ucids ≡ 16) (out : List ℕ) (at : ℕ) where
    counted : length (take n q.ucids) ≡ n
    counted = length-take-le n q.ucids (omega (arith, ucids-few))

    pub ucids-none : n ≡ 0 → Lined 18 out at (ucid_bytes (ucids_of q)) out at
    ucids-none z =
        subst (λ (l : List ℕ). Lined 18 out at l out at) (sym (ap ucid_bytes front ∙ none-bytes (take n q.ucids) (counted ∙ z)))
        (record { wrote = wrote_none out at; short = record { bytes = omega arith } })

    pub ucids-some : {new : List ℕ} → (n ≡ 0 → ⊥) → at + 18 ≤ length out → new ≡ pasted (set (set out at 3) (at + 1) n) (at + 2) (take n q.ucids)
        → Lined 18 out at (ucid_bytes (ucids_of q)) new (at + 2 + n)
    ucids-some {new} some room w =
        let l = take n q.ucids in
        let few = ucids-few in
        let c = counted in
        let text : 3 ∷ n ∷ l ≡ ucid_bytes (ucids_of q) = ap (λ (k : ℕ). 3 ∷ k ∷ l) (sym c) ∙ some_bytes l (λ z. some (sym c ∙ z)) ∙ sym (ap ucid_bytes front) in
        let short : length (3 ∷ n ∷ l) ≤ 18 = omega arith in
        subst (λ (x : List ℕ). Lined 18 out at x new (at + 2 + n)) text
        (record {
          wrote = wrote_then {s = 3 ∷ n ∷ []} {t = l} (record { room = omega arith }) (wrote-head out at 3 n (omega arith)) (record { bytes = w; place = omega arith });
          short = record { bytes = short };
        })
