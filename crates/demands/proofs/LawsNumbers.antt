-- The numbers of a rule that reading leaves, told by where the elements stand, as LawsOrder tells the rules and classifiers.
--
--   numbers_of-rule_at   the numbers of a rule are those of its 50.6 in byte order, the first 8
-- Trusts: nothing.
use Prim.Native.Nat.{ℕ, ◌+◌, ◌≤◌}
use mathlib.Core.Path.{◌≡◌, refl, sym, ap, ◌∙◌}
use mathlib.Core.Bool.{Bool, true, false, cond}
use mathlib.Core.List.{List, map}
use mathlib.Core.Logic.{inl, inr}
use native.Mathlib.Omega.{arith}
use borrow.Author.Tests.{ltb-true, ltb-false, eqb-true}
use lib.ListN.{length, get_or, take, drop, set, replicate, length-set}
use lib.Seq.{take_all}
use lib.Dec.{eqb, leb, ltb}
use Rattle.numbers.specs.Numbers.{number_at}
use Rattle.wire.specs.Bytes.{pasted}
use Rattle.table.specs.Table.{numbers_of, empty_rule}
use Rattle.table.specs.declared.Rule.{Rule}
use Rattle.table.proofs.Laws.{length-numbers_of_le}
use Rattle.children.specs.Rows.{row_inside, type_at, places_of}
use Rattle.clients.specs.Clients.{clients_in}
use Rattle.rules.specs.Rules.{with_number, with_priority, with_ucids, with_clients, with_tunnel, with_named, with_rule_child, rule_at}
use Rattle.demands.proofs.LawsFill.{Takes, filled, stored, full}

abbrev Numbers : Rule → Type 0
Numbers q = (length q.numbers ≡ 8) × (q.numbercount ≤ 8)

-- a rule with other lists of UCIDs and numbers
abbrev with_lists : ℕ → List ℕ → ℕ → List ℕ → Rule → Rule
with_lists u us n ns q =
    record { number = q.number; priority = q.priority; ucidcount = u; clientcount = q.clientcount; numbercount = n; ucids = us; numbers = ns; tunnel = q.tunnel; clients = q.clients }

abbrev with_ucid_list : ℕ → List ℕ → Rule → Rule
with_ucid_list n l q = with_lists n l q.numbercount q.numbers q

abbrev with_numbers : ℕ → List ℕ → Rule → Rule
with_numbers n l q = with_lists q.ucidcount q.ucids n l q

module _ (msg : List ℕ) (at len : ℕ) (q : Rule) where
  -- a child of another type
  abbrev otherwise : Bool → Bool → Bool → Bool → Bool → Bool → Rule
  otherwise a b c d e g =
      cond a (with_number (get_or msg (at + 2) 0) q) (cond b (with_priority (get_or msg (at + 2) 0) q)
      (cond c (cond g (with_ucid_list len (pasted (replicate 16 0) 0 (take len (drop (at + 2) msg))) q) q)
      (cond d (with_clients (clients_in msg (at + 2) (at + 2 + len)) q) (cond e (with_tunnel (number_at 6 msg (at + 2)) q) q))))

  numbers-other : eqb (type_at msg at) 6 ≡ false → ((with_rule_child msg at len q).numbers ≡ q.numbers) × ((with_rule_child msg at len q).numbercount ≡ q.numbercount)
  unfolding with_rule_child with_ucids
  numbers-other n =
      rw n (on (eqb (type_at msg at) 1) (eqb (type_at msg at) 2) (eqb (type_at msg at) 3) (eqb (type_at msg at) 4) (eqb (type_at msg at) 5) (leb len 16))
    where
      on : (a b c d e g : Bool) → ((otherwise a b c d e g).numbers ≡ q.numbers) × ((otherwise a b c d e g).numbercount ≡ q.numbercount)
      on true b c d e g = (refl, refl)
      on false true c d e g = (refl, refl)
      on false false true d e true = (refl, refl)
      on false false true d e false = (refl, refl)
      on false false false true e g = (refl, refl)
      on false false false false true g = (refl, refl)
      on false false false false false g = (refl, refl)

  numbers_six : eqb (type_at msg at) 6 ≡ true → with_rule_child msg at len q ≡ with_named (number_at 2 msg (at + 2)) q
  unfolding with_rule_child
  numbers_six y = simp (eqb-true (type_at msg at) 6 y)

  -- the number that a 50.6 has
  abbrev value : ℕ
  value = number_at 2 msg (at + 2)

  numbers-named : Numbers q → Numbers (with_named value q) × Takes 8 (numbers_of q) value (numbers_of (with_named value q))
  unfolding with_named numbers_of
  numbers-named s = on (ltb q.numbercount 8) refl
    where
      on : (b : Bool) → ltb q.numbercount 8 ≡ b
          → (let r = cond b (with_numbers (q.numbercount + 1) (set q.numbers q.numbercount value) q) q in Numbers r × Takes 8 (numbers_of q) value (numbers_of r))
      on true x =
          let h = ltb-true q.numbercount 8 x in
          ((simp length-set s.0, omega arith), inl (stored 8 q.numbercount q.numbers value h s.0))
      on false x = (s, inr (full 8 q.numbercount q.numbers (ltb-false q.numbercount 8 x) s.1 s.0, refl))

  numbers_keep : Numbers q → Numbers (with_rule_child msg at len q)
  numbers_keep s = on (eqb (type_at msg at) 6) refl
    where
      on : (b : Bool) → eqb (type_at msg at) 6 ≡ b → Numbers (with_rule_child msg at len q)
      on true y = rw (numbers_six y) (numbers-named s).0
      on false n = let same = numbers-other n in (ap length same.0 ∙ s.0, omega (arith, same.1))

  numbers_same : eqb (type_at msg at) 6 ≡ false → numbers_of (with_rule_child msg at len q) ≡ numbers_of q
  unfolding numbers_of
  numbers_same n = let same = numbers-other n in rw (same.0, same.1) refl

  numbers_more : Numbers q → eqb (type_at msg at) 6 ≡ true → Takes 8 (numbers_of q) value (numbers_of (with_rule_child msg at len q))
  numbers_more s y = rw (numbers_six y) (numbers-named s).1

pub numbers_of-rule_at : (msg : List ℕ) (at : ℕ) → numbers_of (rule_at msg at) ≡ take 8 (map (λ p. number_at 2 msg (p + 2)) (places_of msg 6 (row_inside msg at)))
unfolding rule_at numbers_of
numbers_of-rule_at msg at =
    sym (take_all 8 (numbers_of (rule_at msg at)) (length-numbers_of_le (rule_at msg at)))
    ∙ filled numbers_of 8 Numbers msg 6 (with_rule_child msg) (λ p. number_at 2 msg (p + 2)) (numbers_keep msg) (numbers_same msg) (numbers_more msg)
    (row_inside msg at) empty_rule (refl, omega arith)
