-- Laws of `Fits` and `Wrote` (specs/Writing.antt): texts written one behind the other.
--
--   fits-most     a text of at most that many bytes has room     fits-first, fits_rest   both halves of a text that has room
--   wrote_none    nothing written                                 wrote_byte              one byte stored
--   wrote_then    two texts written one behind the other are their join
--   wrote_only    what was written, and the place behind it, are fixed
-- Trusts: nothing.
use Prim.Native.Nat.{ℕ, ◌+◌, ◌≤◌}
use mathlib.Core.Path.{◌≡◌, refl, sym, ap, subst, ◌∙◌}
use mathlib.Core.Bool.{Bool, true, false}
use mathlib.Core.List.{List, [], ◌∷◌, ◌++◌, append_assoc}
use native.Mathlib.Omega.{arith}
use native.Mathlib.Nat.{add-zero}
use native.Mathlib.Numerals.{add-one}
use borrow.Author.Tests.{leb-true, leb-false}
use lib.ListN.{length, take, drop, set, length-append, take-append-drop}
use lib.Seq.{set_split, take_at, length-take-le}
use lib.Dec.{leb}
use Rattle.wire.specs.Bytes.{pasted}
use Rattle.wire.proofs.Laws.{pasted-fits, pasted_not, length-pasted, drop-pasted}
use Rattle.texts.specs.Writing.{Fits, Wrote, Short}

pub fits-most : {out : List ℕ} {at : ℕ} {text : List ℕ} (most : ℕ) → at + most ≤ length out → Short most text → Fits out at text
fits-most most p q = record { room = omega (arith, q.bytes) }

pub fits_same : {out : List ℕ} {at : ℕ} {s t : List ℕ} → s ≡ t → Fits out at s → Fits out at t
fits_same {out} {at} e h = subst (λ (l : List ℕ). Fits out at l) e h

pub wrote_same : {out : List ℕ} {at : ℕ} {s t new : List ℕ} {next : ℕ} → s ≡ t → Wrote out at s new next → Wrote out at t new next
wrote_same {out} {at} {new = new} {next = next} e h = subst (λ (l : List ℕ). Wrote out at l new next) e h

pub fits-first : {out : List ℕ} {at : ℕ} {s : List ℕ} (t : List ℕ) → Fits out at (s ++ t) → Fits out at s
fits-first {s = s} t h = record { room = omega (arith, length-append s t, h.room) }

pub fits_rest : {out : List ℕ} {at : ℕ} {s t new : List ℕ} {next : ℕ} → Fits out at (s ++ t) → Wrote out at s new next → Fits new next t
fits_rest {out} {at} {s} {t} h w =
    record { room = omega (arith, length-append s t, h.room, w.place, ap length w.bytes ∙ length-pasted out at s) }

pasted-none : (out : List ℕ) (at : ℕ) → pasted out at [] ≡ out
pasted-none out at = go (leb at (length out)) refl where
  go : (b : Bool) → leb at (length out) ≡ b → pasted out at [] ≡ out
  go true e = let h = leb-true at (length out) e in pasted-fits out at [] (omega arith) ∙ ap (λ (k : ℕ). take at out ++ drop k out) (add-zero at) ∙ take-append-drop at out
  go false e = let h = leb-false at (length out) e in pasted_not out at [] (omega arith)

pub wrote_none : (out : List ℕ) (at : ℕ) → Wrote out at [] out at
wrote_none out at = record { bytes = sym (pasted-none out at); place = omega arith }

-- the second text behind the first
pasted_then : (out : List ℕ) (at : ℕ) (s t : List ℕ) → at + length (s ++ t) ≤ length out → pasted (pasted out at s) (at + length s) t ≡ pasted out at (s ++ t)
pasted_then out at s t h =
    let e : at + length s + length t ≡ at + length (s ++ t) = omega (arith, length-append s t) in
    let f : at + length s ≤ length out = omega (arith, length-append s t) in
    let n : length (take at out ++ s) ≡ at + length s = length-append (take at out) s ∙ ap (λ (k : ℕ). k + length s) (length-take-le at out (omega arith)) in
    let front : take (at + length s) (pasted out at s) ≡ take at out ++ s = ap (take (at + length s)) (pasted-fits out at s f ∙ sym (append_assoc (take at out) s _))
    ∙ take_at (take at out ++ s) _ (at + length s) n in
    let back : drop (at + length s + length t) (pasted out at s) ≡ drop (at + length (s ++ t)) out = drop-pasted out at s (at + length s + length t) (omega arith) ∙ ap (λ (k : ℕ). drop k out) e in
    pasted-fits (pasted out at s) (at + length s) t (omega (arith, length-pasted out at s))
    ∙ ap (λ (l : List ℕ). l ++ (t ++ drop (at + length s + length t) (pasted out at s))) front
    ∙ ap (λ (l : List ℕ). (take at out ++ s) ++ (t ++ l)) back
    ∙ append_assoc (take at out) s _
    ∙ ap (λ (l : List ℕ). take at out ++ l) (sym (append_assoc s t _))
    ∙ sym (pasted-fits out at (s ++ t) h)

pub wrote_byte : (out : List ℕ) (at b : ℕ) → Fits out at (b ∷ []) → Wrote out at (b ∷ []) (set out at b) (at + 1)
wrote_byte out at b h =
    record { bytes = set_split out at b (omega (arith, h.room)) ∙ sym (pasted-fits out at (b ∷ []) h.room ∙ ap (λ (k : ℕ). take at out ++ (b ∷ drop k out)) (add-one at)); place = refl }

pub wrote_then : {out : List ℕ} {at : ℕ} {s t new last : List ℕ} {next end : ℕ} → Fits out at (s ++ t) → Wrote out at s new next → Wrote new next t last end → Wrote out at (s ++ t) last end
wrote_then {out} {at} {s} {t} {new} {last} {next} h v w =
    record {
      bytes = w.bytes ∙ ap (λ (l : List ℕ). pasted l next t) v.bytes ∙ ap (λ (k : ℕ). pasted (pasted out at s) k t) v.place ∙ pasted_then out at s t h.room;
      place = omega (arith, w.place, v.place, length-append s t);
    }

pub wrote_only : {out : List ℕ} {at : ℕ} {text new last : List ℕ} {next end : ℕ} → Wrote out at text new next → Wrote out at text last end → (new ≡ last) × (next ≡ end)
wrote_only v w = (v.bytes ∙ sym w.bytes, v.place ∙ sym w.place)
