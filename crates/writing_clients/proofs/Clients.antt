-- A client ID as bytes (specs/Encode.antt of writing_elements, client_bytes): what `put_number` says of each of its forms, where there is room.
--
--   client-all    a broadcast of length 0          client-mac    a MAC          client-other    any other kind
-- Trusts: nothing.
use Prim.Native.Nat.{ℕ, ◌+◌, ◌≤◌}
use mathlib.Core.Path.{◌≡◌, subst}
use mathlib.Core.List.{List}
use native.Mathlib.Omega.{arith}
use borrow.Author.Tests.{eq-eqb, ne_eqb}
use lib.ListN.{length}
use Rattle.table.specs.declared.Client.{Client}
use Rattle.texts.specs.Put.{put}
use Rattle.texts.specs.Writing.{Lined}
use Rattle.writing_elements.specs.Encode.{big_endian, element, client_bytes}
use Rattle.writing_numbers.proofs.Within.{number→lined}

module _ (x : Client) {out new : List ℕ} {at next : ℕ} (room : at + 8 ≤ length out) where
  -- the number that was written is the client ID
  written : (kind width n : ℕ) → width ≤ 6 → element kind (big_endian width n) ≡ client_bytes x → record { next = next; out = new } ≡ put (element kind (big_endian width n)) out at
      → Lined 8 out at (client_bytes x) new next
  written kind width n few same e =
      let w = number→lined kind width n {out = out} {at = at} (omega arith) e in
      subst (λ (l : List ℕ). Lined 8 out at l new next) same (record { wrote = w.wrote; short = record { bytes = omega (arith, w.short.bytes) } })

  pub client-all : x.kind ≡ 0 → record { next = next; out = new } ≡ put (element 1 (big_endian 0 0)) out at → Lined 8 out at (client_bytes x) new next
  unfolding client_bytes big_endian
  client-all k e = written 1 0 0 (omega arith) (simp (eq-eqb x.kind 0 k)) e

  pub client-mac : x.kind ≡ 2 → record { next = next; out = new } ≡ put (element 2 (big_endian 6 x.value)) out at → Lined 8 out at (client_bytes x) new next
  unfolding client_bytes
  client-mac k e = written 2 6 x.value (omega arith) (simp (ne_eqb x.kind 0 (λ z. omega (arith, z)), eq-eqb x.kind 2 k)) e

  pub client-other : (x.kind ≡ 0 → ⊥) → (x.kind ≡ 2 → ⊥) → record { next = next; out = new } ≡ put (element x.kind (big_endian 2 x.value)) out at
      → Lined 8 out at (client_bytes x) new next
  unfolding client_bytes
  client-other a b e = written x.kind 2 x.value (omega arith) (simp (ne_eqb x.kind 0 a, ne_eqb x.kind 2 b)) e
