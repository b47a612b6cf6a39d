-- The client IDs of a rule, written and read back (specs/Clients.antt of clients, client_bytes of encoding).
--
--   clients_so xs       the row's state after the client IDs xs
--   good_client        one client ID more
--   clients_back       the row of a 50.4 with these client IDs passes its tests and gives them back
-- Trusts: nothing.
use Prim.Native.Nat.{ℕ, ◌+◌, ◌≤◌, ◌<◌}
use mathlib.Core.Path.{◌≡◌, refl}
use mathlib.Core.Bool.{true, false}
use mathlib.Core.List.{List, [], ◌∷◌, ◌++◌}
use native.Mathlib.Omega.{arith}
use borrow.Author.Tests.{ne_eqb, lt-ltb, le-ltb, lt-leb}
use lib.ListN.{length}
use Rattle.table.specs.Table.{empty_client, padded}
use Rattle.table.specs.declared.Client.{Client}
use Rattle.table.proofs.Padded.{padded-more}
use Rattle.types.specs.declared.Length.{Length}
use Rattle.types.specs.declared.Length.TheVariants.{Bytes, NoneOr}
use Rattle.types.specs.declared.Values.{Values}
use Rattle.types.specs.declared.Values.TheVariants.{Any, NotZero}
use Rattle.types.specs.Places.{type_under}
use Rattle.element_tests.specs.Tests.{second_copy, wrong_length, bad_value, is_full}
use Rattle.rows.specs.Tests.{is_row, none_counted}
use Rattle.rows.specs.Rows.{row_of}
use Rattle.clients.specs.Clients.{with_client, client_at, with_client_child, clients_in}
use Rattle.clients.specs.declared.Clients.{Clients}
use Rattle.texts.specs.Text.{each}
use Rattle.writing_elements.specs.Encode.{big_endian, element, client_bytes}
use Rattle.writing_elements.proofs.Stands.{Stands, stands_byte, stands_value, stands_number}
use Rattle.writing_laws.specs.Claims.{All, ClientGood, everyone, broadcast, mac, system, application}
use Rattle.writing_laws.proofs.Known.{known, clients_1, clients_2, clients_3, clients_4, clients_musts}
use Rattle.writing_laws.proofs.Lists.{length_more}
use Rattle.writing_laws.proofs.Segments.{Good, good_each, good_child, leaf_fine, row-tested, row_folded}

-- after the client IDs xs
abbrev pub clients_so : List Client → Clients
clients_so xs = record { count = length xs; list = padded 8 empty_client xs }

-- k of the one list are counted
abbrev pub counted : ℕ → List ℕ
counted k = k ∷ 0 ∷ 0 ∷ 0 ∷ 0 ∷ 0 ∷ 0 ∷ 0 ∷ []

pub with_client-more : (xs : List Client) (x : Client) → length xs < 8 → with_client x (clients_so xs) ≡ clients_so (xs ++ (x ∷ []))
unfolding with_client
with_client-more xs x h = simp (lt-ltb (length xs) 8 h, padded-more 8 empty_client xs x h, length_more xs x)

module _ (msg : List ℕ) (own : ℕ) (xs : List Client) (h : length xs < 8) where
  -- a client ID whose element has this type and value
  one : (p kind : ℕ) (l : Length) (vs : Values) (v : List ℕ) (x : Client) → type_under 14 kind ≡ known p l true vs 8 0 → p < 26 → is_row l ≡ false → length v ≤ 254 → wrong_length l (length v) ≡ false
      → ((at : ℕ) → Stands msg at (element kind v) → bad_value msg vs at (length v) ≡ false)
      → 1 ≤ kind → kind ≤ 4 → ((at : ℕ) → Stands msg at (element kind v) → client_at msg at (length v) ≡ x)
      → Good msg 14 own (with_client_child msg) (element kind v) (counted (length xs)) (clients_so xs) (counted (length xs + 1)) (clients_so (xs ++ (x ∷ [])))
  unfolding second_copy is_full with_client_child
  one p kind l vs v x typed small leaf few size value low high back =
      good_child msg 14 own (with_client_child msg) kind 0 (length xs + 1) v few
      (λ at s. leaf_fine msg 14 (known p l true vs 8 0) kind v (counted (length xs)) typed
      (record { listed = λ z. omega (arith, z); few = few; copy = refl; size = size; value = value; room = simp (lt-leb 8 (length xs) h) }) at s leaf)
      (λ at s. simp (stands_byte s, back at s, le-ltb 4 kind high, ne_eqb kind 0 (λ z. omega (arith, z))) (with_client-more xs x h))

  pub good_client : {x : Client} → ClientGood x → Good msg 14 own (with_client_child msg) (client_bytes x) (counted (length xs)) (clients_so xs) (counted (length xs + 1)) (clients_so (xs ++ (x ∷ [])))
  unfolding client_bytes big_endian wrong_length is_row bad_value client_at
  good_client everyone = one 17 1 (NoneOr 2) NotZero [] _ clients_1 (omega arith) refl (omega arith) refl (λ at s. refl) (omega arith) (omega arith) (λ at s. simp (stands_byte s))
  good_client (broadcast {v} l u) =
      one 17 1 (NoneOr 2) NotZero (big_endian 2 v) _ clients_1 (omega arith) refl (omega arith) refl
      (λ at s. simp (stands_number msg (at + 2) 2 v u (stands_value s), ne_eqb v 0 (λ z. omega (arith, z)))) (omega arith) (omega arith)
      (λ at s. simp (stands_byte s, stands_number msg (at + 2) 2 v u (stands_value s)))
  good_client (mac {v} u) =
      one 18 2 (Bytes 6) Any (big_endian 6 v) _ clients_2 (omega arith) refl (omega arith) refl (λ at s. refl) (omega arith) (omega arith)
      (λ at s. simp (stands_byte s, stands_number msg (at + 2) 6 v u (stands_value s)))
  good_client (system {v} u) =
      one 19 3 (Bytes 2) Any (big_endian 2 v) _ clients_3 (omega arith) refl (omega arith) refl (λ at s. refl) (omega arith) (omega arith)
      (λ at s. simp (stands_byte s, stands_number msg (at + 2) 2 v u (stands_value s)))
  good_client (application {v} u) =
      one 20 4 (Bytes 2) Any (big_endian 2 v) _ clients_4 (omega arith) refl (omega arith) refl (λ at s. refl) (omega arith) (omega arith)
      (λ at s. simp (stands_byte s, stands_number msg (at + 2) 2 v u (stands_value s)))

module _ (msg : List ℕ) (own : ℕ) where
  -- the row of a 50.4
  pub clients_back : {ys : List Client} (at : ℕ) → length ys ≤ 8 → All ClientGood ys → Stands msg at (each client_bytes ys)
      → (row_of msg 14 own at (at + length (each client_bytes ys)) none_counted ≡ record { bad = 0; off = own })
      × (clients_in msg at (at + length (each client_bytes ys)) ≡ clients_so ys)
  unfolding clients_in padded
  clients_back {ys} at h g s =
      let r = good_each msg 14 own (with_client_child msg) client_bytes ClientGood 8 counted clients_so (λ xs x l p. good_client msg own xs l p) [] (omega arith) g at s in
      (row-tested msg 14 own (with_client_child msg) r (clients_musts _), row_folded msg 14 own (with_client_child msg) r)
