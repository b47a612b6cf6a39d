-- The rule of a 50 that passes its tests is one that reading can produce (specs/Claims.antt).
--
--   rule_made        the rule of a 50 that passes
-- Trusts: nothing.
use Prim.Native.Nat.{ℕ, ◌+◌}
use mathlib.Core.Path.{◌≡◌, refl, ap, ◌∙◌}
use mathlib.Core.Bool.{Bool, true, false, cond, not, ◌&&◌}
use mathlib.Core.List.{List, []}
use native.Mathlib.Omega.{arith}
use borrow.Author.Tests.{eqb-true, eqb-false}
use lib.ListN.{length, get_or, take, drop, length-take, length-drop}
use lib.Dec.{eqb}
use Rattle.numbers.specs.Numbers.{number_at}
use Rattle.numbers.proofs.Laws.{number_at_below}
use Rattle.elements.specs.Elements.{Value, head_at}
use Rattle.elements.proofs.Laws.{head_at-fits}
use Rattle.table.specs.Table.{empty_client, empty_rule, clients_of, numbers_of, ucids_of, padded}
use Rattle.table.specs.declared.Rule.{Rule}
use Rattle.table.proofs.Padded.{take-padded}
use Rattle.types.specs.Places.{type_under}
use Rattle.types.specs.declared.Length.TheVariants.{Row, Bytes}
use Rattle.types.specs.declared.Values.TheVariants.{Any, NotZero}
use Rattle.element_tests.specs.Tests.{wrong_length, bad_value}
use Rattle.rows.specs.Tests.{is_row, none_counted}
use Rattle.rows.specs.Rows.{row_of, element_of}
use Rattle.children.specs.Rows.{type_at, row_in, row_fold}
use Rattle.clients.specs.Clients.{clients_in}
use Rattle.clients.specs.declared.Clients.{Clients}
use Rattle.rules.specs.Rules.{with_number, with_priority, with_ucids, with_clients, with_tunnel, with_named, with_rule_child}
use Rattle.writing_laws.specs.Claims.{none, NumberGood, RuleGood}
use Rattle.writing_laws.proofs.Known.{known, rule_4, rule_6}
use Rattle.writing_laws.proofs.Lists.{all-part}
use Rattle.writing_laws.proofs.Clients.{clients_so}
use Rattle.writing_laws.proofs.Keeps.{Bytes as Octets, Sees, element_sees, row_keeps}
use Rattle.writing_laws.proofs.MadeClients.{ClientsMade, clients_made}
use Rattle.writing_laws.proofs.MadeLists.{RuleMade, named_more, ucids_made}

module _ (msg : List ℕ) (octets : Octets msg) (at len end : ℕ) (u : List ℕ) (head : head_at msg at end ≡ Value len) (fine : (element_of msg 1 at len u).bad ≡ 0) where
  clients_in_lem : type_at msg at ≡ 4 → ClientsMade (clients_in msg (at + 2) (at + 2 + len))
  unfolding is_row
  clients_in_lem e =
      let s = element_sees msg 1 at len u (known 14 Row false Any 255 3) (ap (type_under 1) e ∙ rule_4) (λ z. omega (arith, z)) fine in
      clients_made msg octets at (at + 2) (at + 2 + len) (s.inner refl)

  named_in : type_at msg at ≡ 6 → NumberGood (number_at 2 msg (at + 2))
  unfolding wrong_length bad_value
  named_in e = pick (eqb len 2) (eqb (number_at 2 msg (at + 2)) 0) s.size s.value refl
    where
      s : Sees msg 1 at len u (known 16 (Bytes 2) true NotZero 8 5)
      s = element_sees msg 1 at len u (known 16 (Bytes 2) true NotZero 8 5) (ap (type_under 1) e ∙ rule_6) (λ z. omega (arith, z)) fine

      pick : (b c : Bool) → not b ≡ false → b && c ≡ false → eqb (number_at 2 msg (at + 2)) 0 ≡ c → NumberGood (number_at 2 msg (at + 2))
      pick false c p q r = absurd (let z : ◌≡◌ {A = ℕ} 0 1 = ap (λ (t : Bool). cond {A = ℕ} t 0 1) p in omega arith)
      pick true true p q r = absurd (let z : ◌≡◌ {A = ℕ} 0 1 = ap (λ (t : Bool). cond {A = ℕ} t 0 1) q in omega arith)
      pick true false p q r = (omega (arith, eqb-false (number_at 2 msg (at + 2)) 0 r), number_at_below 2 msg (at + 2) octets)

  value-length : length (take len (drop (at + 2) msg)) ≡ len
  value-length = simp (length-take, length-drop) (omega (arith, (head_at-fits msg at end head).1))

  child_made : {q : Rule} → RuleMade q → RuleMade (with_rule_child msg at len q)
  unfolding with_rule_child
  child_made {q} m = on (eqb (type_at msg at) 1) (eqb (type_at msg at) 2) (eqb (type_at msg at) 3) (eqb (type_at msg at) 4) (eqb (type_at msg at) 5) (eqb (type_at msg at) 6) refl refl
    where
      on : (a b c d e f : Bool) → eqb (type_at msg at) 4 ≡ d → eqb (type_at msg at) 6 ≡ f
          → RuleMade (cond a (with_number (get_or msg (at + 2) 0) q) (cond b (with_priority (get_or msg (at + 2) 0) q) (cond c (with_ucids (take len (drop (at + 2) msg)) len q)
          (cond d (with_clients (clients_in msg (at + 2) (at + 2 + len)) q) (cond e (with_tunnel (number_at 6 msg (at + 2)) q) (cond f (with_named (number_at 2 msg (at + 2)) q) q))))))
      on true b c d e f x y =
          record { n = get_or msg (at + 2) 0; p = m.p; us = m.us; cs = m.cs; t = m.t; ns = m.ns; is = ap (with_number (get_or msg (at + 2) 0)) m.is; own = octets (at + 2); priority = m.priority; ucid = m.ucid; ucids = m.ucids; clients = m.clients; numbers = m.numbers; client = m.client; number = m.number; tunnel = m.tunnel }
      on false true c d e f x y =
          record { n = m.n; p = get_or msg (at + 2) 0; us = m.us; cs = m.cs; t = m.t; ns = m.ns; is = ap (with_priority (get_or msg (at + 2) 0)) m.is; own = m.own; priority = octets (at + 2); ucid = m.ucid; ucids = m.ucids; clients = m.clients; numbers = m.numbers; client = m.client; number = m.number; tunnel = m.tunnel }
      on false false true d e f x y = ucids_made (take len (drop (at + 2) msg)) len value-length (all-part msg octets (at + 2) len) m
      on false false false true e f x y =
          let k = clients_in_lem (eqb-true _ _ x) in
          record {
            n = m.n;
            p = m.p;
            us = m.us;
            cs = k.xs;
            t = m.t;
            ns = m.ns;
            is = ap (λ (so : Clients). with_clients so q) k.is ∙ ap (with_clients (clients_so k.xs)) m.is;
            own = m.own;
            priority = m.priority;
            ucid = m.ucid;
            ucids = m.ucids;
            clients = k.few;
            numbers = m.numbers;
            client = k.good;
            number = m.number;
            tunnel = m.tunnel;
          }
      on false false false false true f x y =
          record {
            n = m.n;
            p = m.p;
            us = m.us;
            cs = m.cs;
            t = number_at 6 msg (at + 2);
            ns = m.ns;
            is = ap (with_tunnel (number_at 6 msg (at + 2))) m.is;
            own = m.own;
            priority = m.priority;
            ucid = m.ucid;
            ucids = m.ucids;
            clients = m.clients;
            numbers = m.numbers;
            client = m.client;
            number = m.number;
            tunnel = number_at_below 6 msg (at + 2) octets;
          }
      on false false false false false true x y = named_more (number_at 2 msg (at + 2)) (named_in (eqb-true _ _ y)) m
      on false false false false false false x y = m

rule_good : {q : Rule} → RuleMade q → RuleGood q
unfolding ucids_of clients_of numbers_of
rule_good {q} m =
    rw m.is
    (record {
      own = m.own;
      priority = m.priority;
      ucid = rw (take-padded 16 0 m.us m.ucids) m.ucid;
      ucids = record { count = rw (take-padded 16 0 m.us m.ucids) refl; array = rw (take-padded 16 0 m.us m.ucids) refl };
      clients = record { count = rw (take-padded 8 empty_client m.cs m.clients) refl; array = rw (take-padded 8 empty_client m.cs m.clients) refl };
      numbers = record { count = rw (take-padded 8 0 m.ns m.numbers) refl; array = rw (take-padded 8 0 m.ns m.numbers) refl };
      client = rw (take-padded 8 empty_client m.cs m.clients) m.client;
      number = rw (take-padded 8 0 m.ns m.numbers) m.number;
      tunnel = m.tunnel;
    })

-- the rule in the row from `at` to `end`
pub rule_made : (msg : List ℕ) → Octets msg → (own at end : ℕ) → (row_of msg 1 own at end none_counted).bad ≡ 0 → RuleGood (row_fold (with_rule_child msg) (row_in msg at end) empty_rule)
unfolding padded
rule_made msg octets own at end z =
    rule_good (row_keeps msg 1 own (with_rule_child msg) end (λ u q. RuleMade q) (λ at len u q head fine m. child_made msg octets at len end u head fine m) at none_counted empty_rule z
    (record { n = 0; p = 0; us = []; cs = []; t = 0; ns = []; is = refl; own = omega arith; priority = omega arith; ucid = none; ucids = omega arith; clients = omega arith; numbers = omega arith; client = none; number = none; tunnel = omega arith })).holds
