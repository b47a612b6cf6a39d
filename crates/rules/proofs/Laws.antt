-- Laws of with_rule_child (specs/Rules.antt): one for each way a child of a rule is taken up, in the order of the types.
--
--   with_rule_child-number, -priority, -ucids, -clients, -tunnel, -named   what the child of each type sets
--   with_rule_child_long    50.3 over 16 bytes        with_rule_child-full   a ninth 50.6        with_rule_child-other   any other type
-- Trusts: nothing.
use Prim.Native.Nat.{ℕ, ◌+◌, ◌≤◌, ◌<◌}
use mathlib.Core.Path.{◌≡◌}
use mathlib.Core.List.{List}
use borrow.Author.Tests.{lt-ltb, le-ltb, le-leb, lt-leb, ne_eqb}
use lib.ListN.{get_or, set, take, drop, replicate}
use Rattle.numbers.specs.Numbers.{number_at}
use Rattle.wire.specs.Bytes.{pasted}
use Rattle.table.specs.declared.Rule.{Rule}
use Rattle.children.specs.Rows.{type_at}
use Rattle.rules.specs.Rules.{with_number, with_priority, with_ucids, with_clients, with_tunnel, with_named, with_rule_child}
use Rattle.clients.specs.Clients.{clients_in}
use Rattle.clients.specs.declared.Clients.{Clients}

module _ (msg : List ℕ) (at len : ℕ) (q : Rule) where
  pub with_rule_child-number : type_at msg at ≡ 1 → {v : ℕ} → v ≡ get_or msg (at + 2) 0 → with_number v q ≡ with_rule_child msg at len q
  unfolding with_rule_child
  with_rule_child-number k e = simp (k, e)

  pub with_rule_child-priority : type_at msg at ≡ 2 → {v : ℕ} → v ≡ get_or msg (at + 2) 0 → with_priority v q ≡ with_rule_child msg at len q
  unfolding with_rule_child
  with_rule_child-priority k e = simp (k, e)

  pub with_rule_child-ucids : type_at msg at ≡ 3 → len ≤ 16 → {list : List ℕ} → list ≡ pasted (replicate 16 0) 0 (take len (drop (at + 2) msg))
      → record { number = q.number; priority = q.priority; ucidcount = len; clientcount = q.clientcount; numbercount = q.numbercount; ucids = list; numbers = q.numbers; tunnel = q.tunnel; clients = q.clients }
      ≡ with_rule_child msg at len q
  unfolding with_rule_child with_ucids
  with_rule_child-ucids k h e = simp (k, le-leb len 16 h, e)

  pub with_rule_child_long : type_at msg at ≡ 3 → 16 < len → q ≡ with_rule_child msg at len q
  unfolding with_rule_child with_ucids
  with_rule_child_long k h = simp (k, lt-leb len 16 h)

  pub with_rule_child-clients : type_at msg at ≡ 4 → {so : Clients} → so ≡ clients_in msg (at + 2) (at + 2 + len) → with_clients so q ≡ with_rule_child msg at len q
  unfolding with_rule_child
  with_rule_child-clients k e = simp (k, e)

  pub with_rule_child-tunnel : type_at msg at ≡ 5 → {v : ℕ} → v ≡ number_at 6 msg (at + 2) → with_tunnel v q ≡ with_rule_child msg at len q
  unfolding with_rule_child
  with_rule_child-tunnel k e = simp (k, e)

  pub with_rule_child-named : type_at msg at ≡ 6 → q.numbercount < 8 → {v : ℕ} → v ≡ number_at 2 msg (at + 2) → {list : List ℕ} → list ≡ set q.numbers q.numbercount v
      → record { number = q.number; priority = q.priority; ucidcount = q.ucidcount; clientcount = q.clientcount; numbercount = q.numbercount + 1; ucids = q.ucids; numbers = list; tunnel = q.tunnel; clients = q.clients }
      ≡ with_rule_child msg at len q
  unfolding with_rule_child with_named
  with_rule_child-named k h e l = simp (k, lt-ltb q.numbercount 8 h, l, e)

  pub with_rule_child-full : type_at msg at ≡ 6 → 8 ≤ q.numbercount → q ≡ with_rule_child msg at len q
  unfolding with_rule_child with_named
  with_rule_child-full k h = simp (k, le-ltb q.numbercount 8 h)

  pub with_rule_child-other : (type_at msg at ≡ 1 → ⊥) → (type_at msg at ≡ 2 → ⊥) → (type_at msg at ≡ 3 → ⊥) → (type_at msg at ≡ 4 → ⊥) → (type_at msg at ≡ 5 → ⊥) → (type_at msg at ≡ 6 → ⊥)
      → q ≡ with_rule_child msg at len q
  unfolding with_rule_child
  with_rule_child-other a b c d e f = simp (ne_eqb _ _ a, ne_eqb _ _ b, ne_eqb _ _ c, ne_eqb _ _ d, ne_eqb _ _ e, ne_eqb _ _ f)
