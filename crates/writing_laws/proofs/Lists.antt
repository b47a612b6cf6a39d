-- Lists, and lists in arrays.
--
--   length_more     one entry more                                 drop-replicate    equal entries, some left out
--   pasted-padded   a value copied to the start of an empty array
--   all_more        one entry more of which a claim holds          all-part          every byte of a part of a message is a byte
-- Trusts: nothing.
use Prim.Native.Nat.{ℕ, zero, suc, ◌+◌, ◌-◌, ◌≤◌, ◌<◌}
use mathlib.Core.Path.{◌≡◌, ap, ◌∙◌}
use mathlib.Core.List.{List, [], ◌∷◌, ◌++◌}
use native.Mathlib.Omega.{arith}
use lib.ListN.{length, get_or, take, drop, replicate, length-append, length-replicate}
use lib.Seq.{get_or-drop}
use Rattle.table.specs.Table.{padded}
use Rattle.wire.specs.Bytes.{pasted}
use Rattle.wire.proofs.Laws.{pasted-fits}
use Rattle.writing_laws.specs.Claims.{All, none, more, Byte}

pub length_more : {A : Type 0} (xs : List A) (x : A) → length (xs ++ (x ∷ [])) ≡ length xs + 1
length_more xs x = length-append xs (x ∷ [])

pub drop-replicate : {A : Type 0} (d : A) (k n : ℕ) → drop k (replicate n d) ≡ replicate (n - k) d
drop-replicate d zero n = let e : n ≡ n - 0 = omega arith in ap (λ (m : ℕ). replicate m d) e
drop-replicate d (suc k) zero = let e : 0 ≡ 0 - suc k = omega arith in ap (λ (m : ℕ). replicate m d) e
drop-replicate d (suc k) (suc n) = let e : n - k ≡ suc n - suc k = omega arith in drop-replicate d k n ∙ ap (λ (m : ℕ). replicate m d) e

-- a value copied to the start of an empty array
pub pasted-padded : (limit : ℕ) (us : List ℕ) → length us ≤ limit → pasted (replicate limit 0) 0 us ≡ padded limit 0 us
unfolding padded
pasted-padded limit us h =
    pasted-fits (replicate limit 0) 0 us (omega (arith, length-replicate {A = ℕ} limit 0))
    ∙ ap (λ (l : List ℕ). us ++ l) (ap (λ (k : ℕ). drop k (replicate limit 0)) {x = 0 + length us} {y = length us} (omega arith) ∙ drop-replicate 0 (length us) limit)

pub all_more : {A : Type 0} {P : A → Type 0} {xs : List A} {x : A} → All P xs → P x → All P (xs ++ (x ∷ []))
all_more none p = more p none
all_more (more q qs) p = more q (all_more qs p)

-- a part of a message of bytes
all_from : (msg : List ℕ) → ((k : ℕ) → get_or msg k 0 < 256) → (n : ℕ) → All Byte (take n msg)
all_from [] h zero = none
all_from [] h (suc n) = none
all_from (x ∷ msg) h zero = none
all_from (x ∷ msg) h (suc n) = more (h 0) (all_from msg (λ k. h (suc k)) n)

pub all-part : (msg : List ℕ) → ((k : ℕ) → get_or msg k 0 < 256) → (at n : ℕ) → All Byte (take n (drop at msg))
all-part msg h at n = all_from (drop at msg) (λ k. rw (get_or-drop at msg k 0) (h (at + k))) n
