-- A rule on the way whose lists are good, and one entry more (specs/Claims.antt).
--
--   RuleMade         a state of the fold that is the filling of good lists
--   named_more       one classifier number more           ucids_made     the UCIDs
-- Trusts: nothing.
use Prim.Native.Nat.{ℕ, ◌^◌, ◌≤◌, ◌<◌}
use mathlib.Core.Path.{◌≡◌, refl, ap, ◌∙◌}
use mathlib.Core.Bool.{Bool, true, false}
use mathlib.Core.List.{List, [], ◌∷◌, ◌++◌}
use native.Mathlib.Omega.{arith}
use borrow.Author.Tests.{ltb-true, leb-true, lt-ltb, le-leb}
use lib.ListN.{length}
use lib.Dec.{ltb, leb}
use Rattle.table.specs.declared.Client.{Client}
use Rattle.table.specs.declared.Rule.{Rule}
use Rattle.table.proofs.Padded.{padded-more}
use Rattle.rules.specs.Rules.{with_ucids, with_named}
use Rattle.writing_laws.specs.Claims.{All, ClientGood, NumberGood, Byte}
use Rattle.writing_laws.proofs.Lists.{length_more, pasted-padded, all_more}
use Rattle.writing_laws.proofs.Rule.{rule_so}

pub record RuleMade (q : Rule) : Type 0 where
  pub n : ℕ
  pub p : ℕ
  pub us : List ℕ
  pub cs : List Client
  pub t : ℕ
  pub ns : List ℕ
  pub is : q ≡ rule_so n p us cs t ns
  pub own : Byte n
  pub priority : Byte p
  pub ucid : All Byte us
  pub ucids : length us ≤ 16
  pub clients : length cs ≤ 8
  pub numbers : length ns ≤ 8
  pub client : All ClientGood cs
  pub number : All NumberGood ns
  pub tunnel : t < 256 ^ 6

with_named-more : (n p t : ℕ) (us : List ℕ) (cs : List Client) (ns : List ℕ) (x : ℕ) → length ns < 8 → with_named x (rule_so n p us cs t ns) ≡ rule_so n p us cs t (ns ++ (x ∷ []))
unfolding with_named
with_named-more n p t us cs ns x h = simp (lt-ltb (length ns) 8 h, padded-more 8 0 ns x h, length_more ns x)

with_named-full : (n p t : ℕ) (us : List ℕ) (cs : List Client) (ns : List ℕ) (x : ℕ) → ltb (length ns) 8 ≡ false → with_named x (rule_so n p us cs t ns) ≡ rule_so n p us cs t ns
unfolding with_named
with_named-full n p t us cs ns x e = simp e

pub named_more : {q : Rule} (x : ℕ) → NumberGood x → RuleMade q → RuleMade (with_named x q)
named_more x g m = rw m.is (on (ltb (length m.ns) 8) refl)
  where
    on : (b : Bool) → ltb (length m.ns) 8 ≡ b → RuleMade (with_named x (rule_so m.n m.p m.us m.cs m.t m.ns))
    on true e =
        let h = ltb-true (length m.ns) 8 e in
        record {
          n = m.n;
          p = m.p;
          us = m.us;
          cs = m.cs;
          t = m.t;
          ns = m.ns ++ (x ∷ []);
          is = with_named-more m.n m.p m.t m.us m.cs m.ns x h;
          own = m.own;
          priority = m.priority;
          ucid = m.ucid;
          ucids = m.ucids;
          clients = m.clients;
          numbers = omega (arith, length_more m.ns x);
          client = m.client;
          number = all_more m.number g;
          tunnel = m.tunnel;
        }
    on false e =
        record {
          n = m.n;
          p = m.p;
          us = m.us;
          cs = m.cs;
          t = m.t;
          ns = m.ns;
          is = with_named-full m.n m.p m.t m.us m.cs m.ns x e;
          own = m.own;
          priority = m.priority;
          ucid = m.ucid;
          ucids = m.ucids;
          clients = m.clients;
          numbers = m.numbers;
          client = m.client;
          number = m.number;
          tunnel = m.tunnel;
        }

with_ucids-short : (n p t : ℕ) (us : List ℕ) (cs : List Client) (ns value : List ℕ) (len : ℕ) → length value ≡ len → len ≤ 16 → with_ucids value len (rule_so n p us cs t ns) ≡ rule_so n p value cs t ns
unfolding with_ucids
with_ucids-short n p t us cs ns value len e h = simp (le-leb len 16 h, pasted-padded 16 value (omega arith), e)

with_ucids_long : (q : Rule) (value : List ℕ) (len : ℕ) → leb len 16 ≡ false → with_ucids value len q ≡ q
unfolding with_ucids
with_ucids_long q value len e = simp e

pub ucids_made : {q : Rule} (value : List ℕ) (len : ℕ) → length value ≡ len → All Byte value → RuleMade q → RuleMade (with_ucids value len q)
ucids_made {q} value len e bytes m = on (leb len 16) refl
  where
    on : (b : Bool) → leb len 16 ≡ b → RuleMade (with_ucids value len q)
    on true y =
        let h = leb-true len 16 y in
        record {
          n = m.n;
          p = m.p;
          us = value;
          cs = m.cs;
          t = m.t;
          ns = m.ns;
          is = ap (with_ucids value len) m.is ∙ with_ucids-short m.n m.p m.t m.us m.cs m.ns value len e h;
          own = m.own;
          priority = m.priority;
          ucid = bytes;
          ucids = omega arith;
          clients = m.clients;
          numbers = m.numbers;
          client = m.client;
          number = m.number;
          tunnel = m.tunnel;
        }
    on false y = rw (with_ucids_long q value len y) m
