-- The head of an element stored ahead of its value, which is written before or after it.
--
--   set-pasted     a byte stored ahead of a piece                 wrote-head     two bytes stored
--   wrote-row      the type and the length stored ahead of a value that stands behind them: the element
--   lined-row      the same of a value of at most so many bytes
--   lined-none     nothing written, whatever the bound
--   lined-length   a text written leaves the buffer's length       lined-room    what is left of the room behind a text
-- Trusts: nothing.
use Prim.Native.Nat.{ℕ, ◌+◌, ◌-◌, ◌≤◌, ◌<◌}
use mathlib.Core.Path.{◌≡◌, refl, sym, ap, subst, ◌∙◌}
use mathlib.Core.List.{List, [], ◌∷◌, ◌++◌}
use native.Mathlib.Omega.{arith}
use lib.ListN.{length, take, drop, set, length-set}
use lib.Seq.{set-append_left, take-set-lt, drop-set-lt, length-take-le}
use Rattle.wire.specs.Bytes.{pasted}
use Rattle.wire.proofs.Laws.{pasted-fits, length-pasted}
use Rattle.texts.specs.Writing.{Wrote, Lined}
use Rattle.texts.proofs.Written.{wrote_none, wrote_byte, wrote_then}
use Rattle.writing_elements.specs.Encode.{element}

pub set-pasted : (b : List ℕ) (at : ℕ) (w : List ℕ) (i x : ℕ) → i < at → at + length w ≤ length b → set (pasted b at w) i x ≡ pasted (set b i x) at w
set-pasted b at w i x h room =
    ap (λ (l : List ℕ). set l i x) (pasted-fits b at w room)
    ∙ set-append_left (take at b) (w ++ drop (at + length w) b) i x (omega (arith, length-take-le at b (omega arith)))
    ∙ ap (λ (l : List ℕ). l ++ (w ++ drop (at + length w) b)) (sym (take-set-lt at b i x h))
    ∙ ap (λ (l : List ℕ). take at (set b i x) ++ (w ++ l)) (sym (drop-set-lt (at + length w) b i x (omega arith)))
    ∙ sym (pasted-fits (set b i x) at w (omega (arith, length-set b i x)))

-- two bytes stored
pub wrote-head : (out : List ℕ) (at a b : ℕ) → at + 2 ≤ length out → Wrote out at (a ∷ b ∷ []) (set (set out at a) (at + 1) b) (at + 2)
wrote-head out at a b h =
    let first = wrote_byte out at a (record { room = omega arith }) in
    let second = wrote_byte (set out at a) (at + 1) b (record { room = omega (arith, length-set out at a) }) in
    subst (λ (k : ℕ). Wrote out at (a ∷ b ∷ []) (set (set out at a) (at + 1) b) k) {x = at + 1 + 1} {y = at + 2} (omega arith)
    (wrote_then {s = a ∷ []} {t = b ∷ []} (record { room = omega arith }) first second)

module _ (kind : ℕ) (v out : List ℕ) (at : ℕ) {new : List ℕ} {next : ℕ} (room : at + 2 + length v ≤ length out) (w : Wrote out (at + 2) v new next) where
  pub wrote-row : {len : ℕ} → len ≡ length v → Wrote out at (element kind v) (set (set new at kind) (at + 1) len) next
  wrote-row {len} e =
      let b = set (set out at kind) (at + 1) len in
      let m : length b ≡ length out = simp length-set in
      let is : set (set new at kind) (at + 1) len ≡ pasted b (at + 2) v =
      ap (λ (l : List ℕ). set (set l at kind) (at + 1) len) w.bytes
      ∙ ap (λ (l : List ℕ). set l (at + 1) len) (set-pasted out (at + 2) v at kind (omega arith) room)
      ∙ set-pasted (set out at kind) (at + 2) v (at + 1) len (omega arith) (omega (arith, length-set out at kind)) in
      subst (λ (k : ℕ). Wrote out at (kind ∷ k ∷ v) (set (set new at kind) (at + 1) len) next) e
      (subst (λ (l : List ℕ). Wrote out at (kind ∷ len ∷ v) l next) (sym is)
      (wrote_then {s = kind ∷ len ∷ []} {t = v} (record { room = omega arith }) (wrote-head out at kind len (omega arith)) (record { bytes = refl; place = w.place })))

pub lined-row : (kind most : ℕ) (v out : List ℕ) (at : ℕ) {new : List ℕ} {next len : ℕ} → at + 2 + most ≤ length out → Lined most out (at + 2) v new next → len ≡ next - at - 2
    → Lined (2 + most) out at (element kind v) (set (set new at kind) (at + 1) len) next
lined-row kind most v out at room w e =
    record {
      wrote = wrote-row kind v out at (omega (arith, w.short.bytes)) w.wrote (omega (arith, w.wrote.place));
      short = record { bytes = omega (arith, w.short.bytes) };
    }

-- nothing written, whatever the bound
pub lined-none : (most : ℕ) (out : List ℕ) (at : ℕ) → Lined most out at [] out at
lined-none most out at = record { wrote = wrote_none out at; short = record { bytes = omega arith } }

-- a text written leaves the buffer's length
pub lined-length : {most : ℕ} {out : List ℕ} {at : ℕ} {v new : List ℕ} {next : ℕ} → Lined most out at v new next → length new ≡ length out
lined-length {out = out} {at = at} {v = v} w = ap length w.wrote.bytes ∙ length-pasted out at v

-- what is left of the room behind a text
pub lined-room : (m n : ℕ) {out : List ℕ} {at : ℕ} {v new : List ℕ} {next : ℕ} → at + (m + n) ≤ length out → Lined m out at v new next → next + n ≤ length new
lined-room m n h w = omega (arith, lined-length w, w.wrote.place, w.short.bytes)
