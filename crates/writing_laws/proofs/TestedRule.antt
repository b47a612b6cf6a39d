-- The tests of a client ID and of a rule say what the claims say (specs/Claims.antt; specs/Entries.antt of writing_entries).
--
--   client_true, client_claims, client-empty     a client ID: from the test, to the test, an unused one
--   rule_true, rule_claims, rule-empty           a rule
-- Trusts: nothing.
use Prim.Native.Nat.{ℕ, ◌^◌, ◌≤◌, ◌<◌}
use mathlib.Core.Path.{◌≡◌, refl, ap, ◌∙◌}
use mathlib.Core.Bool.{Bool, true, false, cond, not, ◌&&◌}
use mathlib.Core.List.{List}
use native.Mathlib.Omega.{arith}
use borrow.Author.Tests.{eqb-true, eqb-false, ltb-true, leb-true, lt-ltb, ne_eqb, not-true}
use lib.ListN.{take, replicate}
use lib.Dec.{eqb, ltb}
use Rattle.wire.proofs.Laws.{both}
use Rattle.table.specs.Table.{limited_to, clients_of, numbers_of, ucids_of, empty_client, empty_rule}
use Rattle.table.specs.declared.Client.{Client}
use Rattle.table.specs.declared.Rule.{Rule}
use Rattle.table.proofs.Laws.{length-clients_of_le, length-numbers_of_le, length-ucids_of_le}
use Rattle.writing_entries.specs.Entries.{all_of, is_zero, sound_client, unused_client, sound_rule, unused_rule}
use Rattle.writing_laws.specs.Claims.{ClientGood, everyone, broadcast, mac, system, application, RuleGood}
use Rattle.writing_laws.specs.Typed.{TypedRule}
use Rattle.writing_laws.proofs.Passed.{listed_tested, listed_test, all_take, all-passed, all_passes, anything, all-empty}

pub zero_true : (n : ℕ) → is_zero n ≡ true → n ≡ 0
zero_true n e = eqb-true n 0 e

pub some_true : (n : ℕ) → not (is_zero n) ≡ true → 1 ≤ n
some_true n e = omega (arith, eqb-false n 0 (not-true (is_zero n) e))

pub true_some : (n : ℕ) → 1 ≤ n → not (is_zero n) ≡ true
true_some n h = simp (ne_eqb n 0 (λ z. omega (arith, z)))

pub client_true : (x : Client) → sound_client x ≡ true → ClientGood x
unfolding sound_client
client_true x = on x.kind x.value (eqb x.kind 0) (eqb x.kind 1) (eqb x.kind 2) refl refl refl
  where
    last : (k v : ℕ) → (k ≡ 0 → ⊥) → (k ≡ 1 → ⊥) → (k ≡ 2 → ⊥) → k < 5 → v < 256 ^ 2 → ClientGood (record { kind = k; value = v })
    last k v a b c h w = pick (eqb k 3) refl
      where
        pick : (t : Bool) → eqb k 3 ≡ t → ClientGood (record { kind = k; value = v })
        pick true e = rw (eqb-true k 3 e) (system w)
        pick false e = let f : k ≡ 4 = omega (arith, eqb-false k 3 e) in rw f (application w)

    on : (k v : ℕ) (a b c : Bool) → eqb k 0 ≡ a → eqb k 1 ≡ b → eqb k 2 ≡ c
        → cond a (is_zero v) (cond b (not (is_zero v) && ltb v (256 ^ 2)) (cond c (ltb v (256 ^ 6)) (ltb k 5 && ltb v (256 ^ 2)))) ≡ true → ClientGood (record { kind = k; value = v })
    on k v true b c p q r e = rw (eqb-true k 0 p, eqb-true v 0 e) everyone
    on k v false true c p q r e = let h = both _ _ e in rw (eqb-true k 1 q) (broadcast (some_true v h.0) (ltb-true v (256 ^ 2) h.1))
    on k v false false true p q r e = rw (eqb-true k 2 r) (mac (ltb-true v (256 ^ 6) e))
    on k v false false false p q r e = let h = both _ _ e in last k v (eqb-false k 0 p) (eqb-false k 1 q) (eqb-false k 2 r) (ltb-true k 5 h.0) (ltb-true v (256 ^ 2) h.1)

pub client_claims : (x : Client) → ClientGood x → sound_client x ≡ true
unfolding sound_client
client_claims x everyone = refl
client_claims x (broadcast {v} l u) = simp (true_some v l, lt-ltb v (256 ^ 2) u)
client_claims x (mac {v} u) = lt-ltb v (256 ^ 6) u
client_claims x (system {v} u) = lt-ltb v (256 ^ 2) u
client_claims x (application {v} u) = lt-ltb v (256 ^ 2) u

pub client-empty : (x : Client) → unused_client x ≡ true → x ≡ empty_client
unfolding unused_client
client-empty x e = let b = both _ _ e in on x.kind x.value (zero_true _ b.0) (zero_true _ b.1)
  where
    on : (k v : ℕ) → k ≡ 0 → v ≡ 0 → ◌≡◌ {A = Client} (record { kind = k; value = v }) empty_client
    on k v p q = rw (p, q) refl

-- what the arrays of a rule hold is typed, and what of them is used passed
pub rule_true : (q : Rule) → TypedRule q → sound_rule q ≡ true → RuleGood q
unfolding sound_rule ucids_of clients_of numbers_of
rule_true q t e =
    let a = both _ _ e in
    let b = both _ _ a.1 in
    let c = both _ _ b.1 in
    let d = both _ _ c.1 in
    let f = both _ _ d.1 in
    let g = both _ _ f.1 in
    let h = both _ _ g.1 in
    let i = both _ _ h.1 in
    record {
      own = t.number;
      priority = t.priority;
      ucids = listed_tested is_zero 0 16 (λ x w. zero_true x) q.ucidcount q.ucids (anything q.ucids) t.ucids (leb-true _ _ a.0) b.0;
      clients = listed_tested unused_client empty_client 8 (λ x w. client-empty x) q.clientcount q.clients (anything q.clients) t.clients (leb-true _ _ c.0) d.0;
      numbers = listed_tested is_zero 0 8 (λ x w. zero_true x) q.numbercount q.numbers (anything q.numbers) t.numbers (leb-true _ _ g.0) h.0;
      ucid = all_take (limited_to 16 q.ucidcount) t.ucid;
      client = all-passed sound_client (λ x w s. client_true x s) (anything (take (limited_to 8 q.clientcount) q.clients)) f.0;
      number = all-passed (λ n. not (is_zero n)) (λ n w s. (some_true n s, w)) (all_take (limited_to 8 q.numbercount) t.named) i.0;
      tunnel = ltb-true q.tunnel (256 ^ 6) i.1;
    }

pub unused : unused_client empty_client ≡ true
unfolding unused_client
unused = refl

pub rule_claims : (q : Rule) → RuleGood q → sound_rule q ≡ true
unfolding sound_rule
rule_claims q g =
    let u = listed_test is_zero 0 16 refl g.ucids (length-ucids_of_le q) in
    let c = listed_test unused_client empty_client 8 unused g.clients (length-clients_of_le q) in
    let n = listed_test is_zero 0 8 refl g.numbers (length-numbers_of_le q) in
    rw (u.0, u.1, c.0, c.1, n.0, n.1, all_passes sound_client client_claims g.client, all_passes (λ n. not (is_zero n)) (λ n w. true_some n w.0) g.number, lt-ltb q.tunnel (256 ^ 6) g.tunnel) refl

pub rule-empty : (q : Rule) → TypedRule q → unused_rule q ≡ true → q ≡ empty_rule
unfolding unused_rule
rule-empty q t e =
    let a = both _ _ e in
    let b = both _ _ a.1 in
    let c = both _ _ b.1 in
    let d = both _ _ c.1 in
    let f = both _ _ d.1 in
    let g = both _ _ f.1 in
    let h = both _ _ g.1 in
    let i = both _ _ h.1 in
    let us : q.ucids ≡ replicate 16 0 = all-empty is_zero 0 (λ x w. zero_true x) (anything q.ucids) g.0 ∙ ap (λ (n : ℕ). replicate n 0) t.ucids in
    let ns : q.numbers ≡ replicate 8 0 = all-empty is_zero 0 (λ x w. zero_true x) (anything q.numbers) h.0 ∙ ap (λ (n : ℕ). replicate n 0) t.numbers in
    let cs : q.clients ≡ replicate 8 empty_client = all-empty unused_client empty_client (λ x w. client-empty x) (anything q.clients) i.1 ∙ ap (λ (n : ℕ). replicate n empty_client) t.clients in
    make q.number q.priority q.ucidcount q.clientcount q.numbercount q.tunnel q.ucids q.numbers q.clients
    (zero_true _ a.0) (zero_true _ b.0) (zero_true _ c.0) (zero_true _ d.0) (zero_true _ f.0) (zero_true _ i.0) us ns cs
  where
    make : (n p u c m t : ℕ) (us ns : List ℕ) (cs : List Client) → n ≡ 0 → p ≡ 0 → u ≡ 0 → c ≡ 0 → m ≡ 0 → t ≡ 0 → us ≡ replicate 16 0 → ns ≡ replicate 8 0 → cs ≡ replicate 8 empty_client
        → ◌≡◌ {A = Rule} (record { number = n; priority = p; ucidcount = u; clientcount = c; numbercount = m; ucids = us; numbers = ns; tunnel = t; clients = cs }) empty_rule
    make n p u c m t us ns cs e1 e2 e3 e4 e5 e6 e7 e8 e9 = simp (e1, e2, e3, e4, e5, e6, e7, e8, e9)

pub unused_rule_lem : unused_rule empty_rule ≡ true
unfolding unused_rule all_of unused_client
unused_rule_lem = refl
