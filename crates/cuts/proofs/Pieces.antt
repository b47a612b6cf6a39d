-- Pieces of whole elements: a walk over the message arrives where each of them ends.
--
--   reached_over     a piece of whole elements is walked over
-- Trusts: nothing.
use Prim.Native.Nat.{ℕ, ◌+◌, ◌≤◌}
use mathlib.Core.Path.{◌≡◌, sym, ap, ◌∙◌}
use mathlib.Core.List.{List, ◌∷◌, ◌++◌, append_assoc}
use native.Mathlib.Omega.{arith}
use lib.ListN.{length, get_or, length-append}
use lib.Seq.{get_or-append-add}
use Rattle.elements.specs.Elements.{Value, head_at, length_byte}
use Rattle.elements.proofs.Laws.{head_at-whole}
use Rattle.cuts.specs.Walks.{Reached, next, Elements, none, more}

-- a whole element at the seam of two lists
head_at_lem : (msg pre rest value : List ℕ) (kind : ℕ) → msg ≡ pre ++ (kind ∷ length value ∷ (value ++ rest)) → length value ≤ 254
    → head_at msg (length pre) (length msg) ≡ Value (length value)
head_at_lem msg pre rest value kind e short =
    let len : length msg ≡ length pre + (2 + (length value + length rest)) = ap length e ∙ simp (length-append) (omega arith) in
    let byte : length value ≡ length_byte msg (length pre) = sym (ap (λ (l : List ℕ). get_or l (length pre + 1) 0) e ∙ get_or-append-add pre (kind ∷ length value ∷ (value ++ rest)) 1 0) in
    head_at-whole msg (length pre) (length msg) (omega arith) byte (λ z. omega arith) (omega arith)

pub reached_over : (msg pre p post : List ℕ) → msg ≡ pre ++ (p ++ post) → Elements p → Reached msg (length pre) → (n : ℕ) → n ≡ length pre + length p → Reached msg n
reached_over msg pre p post e none t n f = let z : n ≡ length pre = omega arith in rw z t
reached_over msg pre p post e (more kind value rest short r) t n f =
    let here : msg ≡ pre ++ (kind ∷ length value ∷ (value ++ (rest ++ post))) = e ∙ ap (λ (l : List ℕ). pre ++ (kind ∷ length value ∷ l)) (append_assoc value rest post) in
    let head = head_at_lem msg pre (rest ++ post) value kind here short in
    let long : length (pre ++ (kind ∷ length value ∷ value)) ≡ length pre + 2 + length value = simp length-append (omega arith) in
    let all : length (value ++ rest) ≡ length value + length rest = length-append value rest in
    reached_over msg (pre ++ (kind ∷ length value ∷ value)) rest post (here ∙ sym (append_assoc pre (kind ∷ length value ∷ value) (rest ++ post))) r (rw long (next (length value) t head)) n (omega arith)
