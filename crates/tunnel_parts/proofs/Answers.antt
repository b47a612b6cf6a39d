-- Laws of `prepared_verdict` (specs/Prepared.antt): one for each answer, in the order in which the tests are made.
--
--   prepared_verdict-length    a wrong length     Refused 16    prepared_verdict-bare      mode 0     Refused 17
--   prepared_verdict-other     another address    Other         prepared_verdict_unnamed   mode 1     Forward 0
--   prepared_verdict-first     an entry matches: its number     prepared_verdict-none      none does: Filtered
-- Trusts: nothing.
use Prim.Native.Nat.{ℕ, ◌≤◌, ◌<◌}
use mathlib.Core.Path.{◌≡◌}
use mathlib.Core.Bool.{true, false}
use mathlib.Core.List.{List}
use lib.ListN.{get_or}
use lib.Dec.{eqb}
use borrow.Author.Tests.{eq-eqb, ne_eqb, lt-ltb, le-ltb}
use Rattle.table.specs.Table.{limited_to}
use Rattle.order.specs.Best.{first_place}
use Rattle.packets.specs.Packets.{wrong_length, address_at}
use Rattle.matching.specs.Entry.{matches_entry}
use Rattle.payloads.specs.Judged.{Refused, Other, Forward, Filtered}
use Rattle.tunnel_parts.specs.declared.Tunnel.{Tunnel}
use Rattle.tunnel_parts.specs.Prepared.{entries_of, prepared_verdict}

module _ (tu : Tunnel) (frame : List ℕ) where
  pub prepared_verdict-length : wrong_length frame ≡ true → prepared_verdict tu frame ≡ Refused 16
  unfolding prepared_verdict
  prepared_verdict-length w = rw w

  module _ (w : wrong_length frame ≡ false) where
    pub prepared_verdict-bare : tu.mode ≡ 0 → prepared_verdict tu frame ≡ Refused 17
    unfolding prepared_verdict
    prepared_verdict-bare e = rw (w, eq-eqb _ _ e)

    module _ (ruled : tu.mode ≡ 0 → ⊥) where
      pub prepared_verdict-other : eqb (address_at frame) tu.address ≡ false → prepared_verdict tu frame ≡ Other
      unfolding prepared_verdict
      prepared_verdict-other e = rw (w, ne_eqb _ _ ruled, e)

      module _ (ours : eqb (address_at frame) tu.address ≡ true) where
        pub prepared_verdict_unnamed : tu.mode ≡ 1 → prepared_verdict tu frame ≡ Forward 0
        unfolding prepared_verdict
        prepared_verdict_unnamed e = rw (w, ne_eqb _ _ ruled, ours, eq-eqb _ _ e)

        -- the place k of the first entry that matches, of n entries
        module _ (named : tu.mode ≡ 1 → ⊥) (k n : ℕ) (place : k ≡ first_place (matches_entry frame) (entries_of tu)) (many : n ≡ limited_to 32 tu.count) where
          pub prepared_verdict-first : k < n → prepared_verdict tu frame ≡ Forward (get_or tu.numbers k 0)
          unfolding prepared_verdict
          prepared_verdict-first h = simp (w, ne_eqb _ _ ruled, ours, ne_eqb _ _ named, ← place, ← many, lt-ltb _ _ h)

          pub prepared_verdict-none : n ≤ k → prepared_verdict tu frame ≡ Filtered
          unfolding prepared_verdict
          prepared_verdict-none h = simp (w, ne_eqb _ _ ruled, ours, ne_eqb _ _ named, ← place, ← many, le-ltb _ _ h)
