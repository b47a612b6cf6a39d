-- What a call can be lent: a record that stands in memory has sixteen places in each of its arrays, so that demand 2 asks nothing of it.
--
--   lendable_sized   a record to which the language gives machine values is Sized
--   demand_2_lent    demand 2 for every such record, that is for every record that a call can be lent
--   empty_lendable   there are such: the records with nothing collected, one for each setting
--
-- That what is owned has such values is the logic's `shows` (denote, Laws.antt): owning r at vs shows `Is` of them, for every type, in every model.
-- Trusts: nothing.
use Prim.Native.Nat.{ℕ, zero, suc, ◌^◌, ◌≤◌, ◌<◌}
use mathlib.Core.Path.{◌≡◌, refl}
use mathlib.Core.List.{List}
use native.Mathlib.Omega.{arith}
use lib.ListN.{length, replicate}
use mir.Syntax.{Width, w8, w16}
use mir.Val.{Val, vint, bits}
use denote.Shadow.{shadow}
use denote.Laws.{Is}
use denote.Plain.{UInt}
use denote.Array.{each}
use denote.Struct.Laws as LL
use Rattle.collection.specs.declared.Collection.{Collection}
use Rattle.collection.specs.Record.{empty_collection, is_strict}
use Rattle.collection.specs.contracts.Collection as record_type
use Rattle.collection.proofs.Collection.TheLaws as record-laws
use Rattle.collector_demands.specs.Runs.{run_from, reply_from, HeldBy, stands_for, Sized}
use Rattle.collector_demands.specs.Demand.{Lent, lent_after, reply_to}
use Rattle.collector_demands.proofs.Demands.{demand_2}

-- the record is what these machine values mean
abbrev pub Lendable : Collection → List Val → Type 0
Lendable r vs = Is record_type.the_row r vs

pub lendable_sized : (r : Collection) (vs : List Val) → Lendable r vs → Sized r
lendable_sized r vs is =
    let fields = LL.owed record_type.the_type record-laws.the_laws r vs is in
    record { flags = fields.1.1.0.1.0.1; lens = fields.1.1.1.0.1.0.1 }

pub demand_2_lent : (s : Lent) (vs : List Val) → Lendable s.held vs → 24000 ≤ length s.slots → 24000 ≤ length s.join → (h : List (List ℕ)) (b : List ℕ)
    → (reply_to s h b ≡ reply_from (is_strict s.held) (stands_for s.held s.slots) h b)
    × HeldBy (run_from (is_strict s.held) (stands_for s.held s.slots) h) (lent_after s h).held (lent_after s h).slots
demand_2_lent s vs is = demand_2 s (lendable_sized s.held vs is)

-- ---- a record that is so

-- n zeroes of an array are n zeroes in memory
zeroes : (w : Width) → 0 < 2 ^ bits w → (n : ℕ) → shadow (each ℕ (UInt w).own_val (replicate n 0) (replicate n (vint w 0)))
zeroes w l zero = tt
zeroes w l (suc n) = ((refl, l), zeroes w l n)

pub empty_lendable : (strict : ℕ) → strict < 2 ^ bits w16 → Lendable (empty_collection strict 0 0) (LL.vals record_type.the_type record-laws.the_laws (empty_collection strict 0 0))
empty_lendable strict fits =
    let byte : 0 < 2 ^ bits w8 = omega arith in
    let pair : 0 < 2 ^ bits w16 = omega arith in
    LL.owes record_type.the_type record-laws.the_laws (empty_collection strict 0 0)
    ((refl, byte), ((refl, byte), ((replicate 16 (vint w8 0), ((refl, refl), zeroes w8 byte 16)), ((replicate 16 (vint w16 0), ((refl, refl), zeroes w16 pair 16)), ((refl, fits), tt)))))
