-- The client IDs of a 50.4 that passes its tests are such as reading can produce (specs/Claims.antt).
--
--   ClientsMade      a state of the fold that is the filling of a good list
--   clients_made     the client IDs of a 50.4 that passes
-- Trusts: nothing.
use Prim.Native.Nat.{ℕ, ◌+◌, ◌^◌, ◌≤◌, ◌<◌}
use mathlib.Core.Path.{◌≡◌, refl, ap, ◌∙◌}
use mathlib.Core.Bool.{Bool, true, false, cond, not, ◌&&◌}
use mathlib.Core.List.{List, [], ◌∷◌, ◌++◌}
use native.Mathlib.Omega.{arith}
use borrow.Author.Tests.{eqb-true, eqb-false, ltb-true, ltb-false}
use lib.ListN.{length}
use lib.Dec.{eqb, ltb}
use Rattle.numbers.specs.Numbers.{number_at}
use Rattle.numbers.proofs.Laws.{number_at_below}
use Rattle.table.specs.Table.{padded}
use Rattle.table.specs.declared.Client.{Client}
use Rattle.types.specs.Places.{type_under}
use Rattle.types.specs.declared.Length.TheVariants.{NoneOr}
use Rattle.types.specs.declared.Values.TheVariants.{NotZero}
use Rattle.element_tests.specs.Tests.{wrong_length, bad_value}
use Rattle.rows.specs.Tests.{none_counted}
use Rattle.rows.specs.Rows.{row_of, element_of}
use Rattle.children.specs.Rows.{type_at}
use Rattle.clients.specs.Clients.{no_clients, with_client, client_at, with_client_child, clients_in}
use Rattle.clients.specs.declared.Clients.{Clients}
use Rattle.writing_laws.specs.Claims.{All, none, ClientGood, everyone, broadcast, mac, system, application}
use Rattle.writing_laws.proofs.Known.{known, clients_1}
use Rattle.writing_laws.proofs.Lists.{length_more, all_more}
use Rattle.writing_laws.proofs.Clients.{clients_so, with_client-more}
use Rattle.writing_laws.proofs.Keeps.{Bytes as Octets, Sees, element_sees, row_keeps}

pub record ClientsMade (so : Clients) : Type 0 where
  pub xs : List Client
  pub few : length xs ≤ 8
  pub is : so ≡ clients_so xs
  pub good : All ClientGood xs

with_client-full : (xs : List Client) (x : Client) → ltb (length xs) 8 ≡ false → with_client x (clients_so xs) ≡ clients_so xs
unfolding with_client
with_client-full xs x e = simp e

-- one client ID more, where there is room
client-more : {so : Clients} (x : Client) → ClientGood x → ClientsMade so → ClientsMade (with_client x so)
client-more x g m = rw m.is (on (ltb (length m.xs) 8) refl)
  where
    on : (b : Bool) → ltb (length m.xs) 8 ≡ b → ClientsMade (with_client x (clients_so m.xs))
    on true e =
        let h = ltb-true (length m.xs) 8 e in
        record { xs = m.xs ++ (x ∷ []); few = omega (arith, length_more m.xs x); is = with_client-more m.xs x h; good = all_more m.good g }
    on false e = rw (with_client-full m.xs x e) (record { xs = m.xs; few = m.few; is = refl; good = m.good })

module _ (msg : List ℕ) (octets : Octets msg) (at len : ℕ) (u : List ℕ) (fine : (element_of msg 14 at len u).bad ≡ 0) where
  client_good : 1 ≤ type_at msg at → type_at msg at ≤ 4 → ClientGood (client_at msg at len)
  unfolding client_at wrong_length bad_value
  client_good l h = on (eqb (type_at msg at) 1) (eqb (type_at msg at) 2) (eqb (type_at msg at) 3) refl refl refl
    where
      below : (w : ℕ) → number_at w msg (at + 2) < 256 ^ w
      below w = number_at_below w msg (at + 2) octets

      first : type_at msg at ≡ 1 → ClientGood (cond (eqb len 0) (record { kind = 0; value = 0 }) (record { kind = 1; value = number_at 2 msg (at + 2) }))
      first e = pick (eqb len 0) (eqb len 2) (eqb (number_at 2 msg (at + 2)) 0) refl s.size s.value refl
        where
          s : Sees msg 14 at len u (known 17 (NoneOr 2) true NotZero 8 0)
          s = element_sees msg 14 at len u (known 17 (NoneOr 2) true NotZero 8 0) (ap (type_under 14) e ∙ clients_1) (λ z. omega (arith, z)) fine

          pick : (a b c : Bool) → eqb len 0 ≡ a → not a && not b ≡ false → b && c ≡ false → eqb (number_at 2 msg (at + 2)) 0 ≡ c
              → ClientGood (cond a (record { kind = 0; value = 0 }) (record { kind = 1; value = number_at 2 msg (at + 2) }))
          pick true b c p q r w = everyone
          pick false true true p q r w = absurd (let z : ◌≡◌ {A = ℕ} 0 1 = ap (λ (t : Bool). cond {A = ℕ} t 0 1) r in omega arith)
          pick false true false p q r w = broadcast {v = number_at 2 msg (at + 2)} (omega (arith, eqb-false (number_at 2 msg (at + 2)) 0 w)) (below 2)
          pick false false c p q r w = absurd (let z : ◌≡◌ {A = ℕ} 0 1 = ap (λ (t : Bool). cond {A = ℕ} t 0 1) q in omega arith)

      on : (a b c : Bool) → eqb (type_at msg at) 1 ≡ a → eqb (type_at msg at) 2 ≡ b → eqb (type_at msg at) 3 ≡ c
          → ClientGood (cond b (record { kind = 2; value = number_at 6 msg (at + 2) })
          (cond a (cond (eqb len 0) (record { kind = 0; value = 0 }) (record { kind = 1; value = number_at 2 msg (at + 2) })) (record { kind = type_at msg at; value = number_at 2 msg (at + 2) })))
      on a true c p q r = mac (below 6)
      on true false c p q r = first (eqb-true _ _ p)
      on false false true p q r = rw (eqb-true (type_at msg at) 3 r) (system (below 2))
      on false false false p q r =
          let e : type_at msg at ≡ 4 = omega (arith, eqb-false (type_at msg at) 1 p, eqb-false (type_at msg at) 2 q, eqb-false (type_at msg at) 3 r) in
          rw e (application (below 2))

  client_made : {so : Clients} → ClientsMade so → ClientsMade (with_client_child msg at len so)
  unfolding with_client_child
  client_made {so} m = on (ltb 4 (type_at msg at)) (eqb (type_at msg at) 0) refl refl
    where
      on : (a b : Bool) → ltb 4 (type_at msg at) ≡ a → eqb (type_at msg at) 0 ≡ b → ClientsMade (cond a so (cond b so (with_client (client_at msg at len) so)))
      on true b p q = m
      on false true p q = m
      on false false p q = client-more (client_at msg at len) (client_good (omega (arith, eqb-false (type_at msg at) 0 q)) (ltb-false 4 (type_at msg at) p)) m

pub clients_made : (msg : List ℕ) → Octets msg → (own at end : ℕ) → (row_of msg 14 own at end none_counted).bad ≡ 0 → ClientsMade (clients_in msg at end)
unfolding clients_in padded
clients_made msg octets own at end z =
    (row_keeps msg 14 own (with_client_child msg) end (λ u so. ClientsMade so) (λ at len u so head fine m. client_made msg octets at len u fine m) at none_counted no_clients z
    (record { xs = []; few = omega arith; is = refl; good = none })).holds
