-- Laws of with_client_child (specs/Clients.antt).
--
--   no_client_child, with_client_child_lem, full-client_child   a child of 50.4: no client ID, one more, one that has no place
-- Trusts: nothing.
use Prim.Native.Nat.{ℕ, ◌+◌}
use mathlib.Core.Path.{◌≡◌, refl, sym, ◌∙◌}
use mathlib.Core.Bool.{Bool, true, false, cond, not, ◌&&◌}
use mathlib.Core.List.{List}
use lib.ListN.{set}
use lib.Dec.{eqb, ltb}
use Rattle.table.specs.declared.Client.{Client}
use Rattle.children.specs.Rows.{type_at}
use Rattle.clients.specs.Clients.{is_client, client_at, with_client, with_client_child}
use Rattle.clients.specs.declared.Clients.{Clients}

-- a child of 50.4: no client ID, one more, and one that has no place
module _ (msg : List ℕ) (at len : ℕ) (so : Clients) {listed : Bool} (e : listed ≡ is_client (type_at msg at)) where
  child_by : with_client_child msg at len so ≡ cond listed (with_client (client_at msg at len) so) so
  unfolding with_client_child is_client
  child_by = rw e (on (ltb 4 (type_at msg at)) (eqb (type_at msg at) 0))
    where
      on : (a b : Bool) → cond a so (cond b so (with_client (client_at msg at len) so)) ≡ cond (not a && not b) (with_client (client_at msg at len) so) so
      on true b = refl
      on false true = refl
      on false false = refl

  pub no_client_child : listed ≡ false → so ≡ with_client_child msg at len so
  no_client_child f = sym (child_by ∙ simp f)

  module _ (t : listed ≡ true) where
    pub with_client_child_lem : ltb so.count 8 ≡ true → {one : Client} → one ≡ client_at msg at len → record { count = so.count + 1; list = set so.list so.count one }
        ≡ with_client_child msg at len so
    unfolding with_client
    with_client_child_lem h a = sym (child_by ∙ simp (t, h, a))

    pub full-client_child : ltb so.count 8 ≡ false → so ≡ with_client_child msg at len so
    unfolding with_client
    full-client_child h = sym (child_by ∙ simp (t, h))
