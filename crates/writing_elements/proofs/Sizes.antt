-- How many bytes are written (specs/Encode.antt).
--
--   each-most, client-most, number-most, ucids-most, clients-most, part-most, timer-most, channel-most      the parts of a row
--   rule_row-most, part_row-most, classifier_row-most, configuration_row-most                                   a row
--   rule-most, classifier-most, configured-most      an element: 132, 37, 210
-- Trusts: nothing.
use Prim.Native.Nat.{ℕ, ◌+◌, ◌*◌, ◌≤◌}
use mathlib.Core.Bool.{Bool, true, false, cond}
use mathlib.Core.List.{List, [], ◌∷◌, ◌++◌}
use native.Mathlib.Omega.{arith}
use native.Mathlib.Nat.{mul-suc}
use lib.ListN.{length, length-append}
use lib.Dec.{eqb}
use Rattle.table.specs.Table.{channels_of, clients_of, numbers_of, ucids_of, is_present}
use Rattle.table.specs.declared.Client.{Client}
use Rattle.table.specs.declared.Rule.{Rule}
use Rattle.table.specs.declared.Classifier.{Classifier}
use Rattle.table.specs.declared.Table.{Table}
use Rattle.table.proofs.Laws.{length-clients_of_le, length-numbers_of_le, length-ucids_of_le, length-channels_of_le}
use Rattle.wire.specs.Bytes.{concat}
use Rattle.texts.specs.Text.{each}
use Rattle.writing_elements.specs.Encode.{big_endian, element, client_bytes, number_bytes, ucid_bytes, rule_row, rule_bytes, part, part_row, classifier_row, classifier_bytes, channel_bytes, timer, timers_row, configuration_row, configured}
use Rattle.writing_elements.proofs.Stands.{length-big_endian}

pub each-most : {X : Type 0} (f : X → List ℕ) (most : ℕ) → ((x : X) → length (f x) ≤ most) → (xs : List X) → length (each f xs) ≤ most * length xs
unfolding each
each-most f most h [] = omega arith
each-most f most h (x ∷ xs) = omega (arith, h x, length-append (f x) (each f xs), each-most f most h xs, mul-suc most (length xs))

-- ---- a rule

pub client-most : (x : Client) → length (client_bytes x) ≤ 8
unfolding client_bytes big_endian
client-most x = on (eqb x.kind 0) (eqb x.kind 2)
  where
    on : (a b : Bool) → length (cond a (element 1 []) (cond b (element 2 (big_endian 6 x.value)) (element x.kind (big_endian 2 x.value)))) ≤ 8
    on true b = omega arith
    on false true = omega arith
    on false false = omega arith

pub number-most : (n : ℕ) → length (number_bytes n) ≤ 4
unfolding number_bytes big_endian
number-most n = omega arith

pub ucids-most : (us : List ℕ) → length (ucid_bytes us) ≤ 2 + length us
unfolding ucid_bytes
ucids-most [] = omega arith
ucids-most (u ∷ us) = omega arith

pub clients-most : (xs : List Client) → length xs ≤ 8 → length (each client_bytes xs) ≤ 64
clients-most xs h = omega (arith, each-most client_bytes 8 client-most xs)

pub rule_row-most : (q : Rule) → length (rule_row q) ≤ 130
unfolding rule_row
rule_row-most q =
    let us = ucid_bytes (ucids_of q) in
    let cs = each client_bytes (clients_of q) in
    let t = big_endian 6 q.tunnel in
    let ns = each number_bytes (numbers_of q) in
    omega (
      arith,
      length-append us (element 4 cs ++ (element 5 t ++ ns)),
      length-append cs (element 5 t ++ ns),
      length-append t ns,
      length-big_endian 6 q.tunnel,
      ucids-most (ucids_of q),
      length-ucids_of_le q,
      clients-most (clients_of q) (length-clients_of_le q),
      each-most number_bytes 4 number-most (numbers_of q),
      length-numbers_of_le q,
    )

pub rule-most : (q : Rule) → length (rule_bytes q) ≤ 132
unfolding rule_bytes
rule-most q = omega (arith, rule_row-most q)

-- ---- a classifier

pub part-most : (mark : ℕ) (bs : List ℕ) → length (part mark bs) ≤ length bs
unfolding part
part-most mark bs = on (is_present mark)
  where
    on : (b : Bool) → length (cond b bs []) ≤ length bs
    on true = omega arith
    on false = omega arith

pub part_row-most : (q : Classifier) → length (part_row q) ≤ 26
unfolding part_row
part_row-most q =
    let a = part q.hassource (element 3 (big_endian 4 q.source)) in
    let b = part q.hasmask (element 4 (big_endian 4 q.mask)) in
    let c = big_endian 4 q.destination in
    let d = part q.hasstart (element 9 (big_endian 2 q.start)) in
    let e = part q.hasend (element 10 (big_endian 2 q.end)) in
    omega (
      arith,
      length-append a (b ++ (element 5 c ++ (d ++ e))),
      length-append b (element 5 c ++ (d ++ e)),
      length-append c (d ++ e),
      length-append d e,
      part-most q.hassource (element 3 (big_endian 4 q.source)),
      part-most q.hasmask (element 4 (big_endian 4 q.mask)),
      part-most q.hasstart (element 9 (big_endian 2 q.start)),
      part-most q.hasend (element 10 (big_endian 2 q.end)),
      length-big_endian 4 q.source,
      length-big_endian 4 q.mask,
      length-big_endian 4 q.destination,
      length-big_endian 2 q.start,
      length-big_endian 2 q.end,
    )

pub classifier_row-most : (q : Classifier) → length (classifier_row q) ≤ 35
unfolding classifier_row
classifier_row-most q =
    let a = big_endian 2 q.number in
    omega (arith, length-append a (element 5 (q.priority ∷ []) ++ element 9 (part_row q)), length-big_endian 2 q.number, part_row-most q)

pub classifier-most : (q : Classifier) → length (classifier_bytes q) ≤ 37
unfolding classifier_bytes
classifier-most q = omega (arith, classifier_row-most q)

-- ---- the configuration

pub timer-most : (kind usual v : ℕ) → length (timer kind usual v) ≤ 4
unfolding timer
timer-most kind usual v = on (eqb v usual)
  where
    on : (b : Bool) → length (cond b [] (element kind (big_endian 2 v))) ≤ 4
    on true = omega arith
    on false = omega (arith, length-big_endian 2 v)

pub channel-most : (hertz : ℕ) → length (channel_bytes hertz) ≤ 6
unfolding channel_bytes
channel-most hertz = omega (arith, length-big_endian 4 hertz)

pub configuration_row-most : (t : Table) → length (configuration_row t) ≤ 208
unfolding configuration_row timers_row
configuration_row-most t =
    let a = timer 2 2 t.timers.tdsg1 in
    let b = timer 3 600 t.timers.tdsg2 in
    let c = timer 4 300 t.timers.tdsg3 in
    let d = timer 5 1800 t.timers.tdsg4 in
    omega (
      arith,
      length-append (each channel_bytes (channels_of t)) (a ++ (b ++ (c ++ d))),
      length-append a (b ++ (c ++ d)),
      length-append b (c ++ d),
      length-append c d,
      each-most channel_bytes 6 channel-most (channels_of t),
      length-channels_of_le t,
      timer-most 2 2 t.timers.tdsg1,
      timer-most 3 600 t.timers.tdsg2,
      timer-most 4 300 t.timers.tdsg3,
      timer-most 5 1800 t.timers.tdsg4,
    )

length-configured : (row : List ℕ) → length (concat (configured row)) ≤ 2 + length row
unfolding concat
length-configured [] = omega arith
length-configured (b ∷ row) = omega (arith, length-append row [])

pub configured-most : (t : Table) → length (concat (configured (configuration_row t))) ≤ 210
configured-most t = omega (arith, length-configured (configuration_row t), configuration_row-most t)
