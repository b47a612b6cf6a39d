-- Entries: what refusal 19 asks of one rule and of one classifier of a lent table (document 02, Req 01).
--
--   all_of test l             every entry of a list passes
--   list_fits sound unused n l   the first n places of an array are sound, the others unused
--   sound_client, sound_rule, sound_classifier       an entry that a message could have given
--   unused_client, unused_rule, unused_classifier    an entry behind a count: 0 throughout
--
-- A count above its limit fails here, though it is read as its limit elsewhere: no reading leaves it.
-- Tested by: each field of accepted tables changed, and random tables against the other program, in host/.
-- Trusts: nothing.
use Rattle.std.specs.Prelude.{ℕ, ◌^◌, Bool, true, cond, not, ◌&&◌, List, [], ◌∷◌, take, drop, eqb, leb, ltb}
use Rattle.table.specs.Table.{clients_of, numbers_of}
use Rattle.table.specs.declared.Client.{Client}
use Rattle.table.specs.declared.Rule.{Rule}
use Rattle.table.specs.declared.Classifier.{Classifier}

unfoldable pub all_of : {A : Type 0} → (A → Bool) → List A → Bool
all_of test [] = true
all_of test (x ∷ xs) = test x && all_of test xs

abbrev pub list_fits : {A : Type 0} → (A → Bool) → (A → Bool) → ℕ → List A → Bool
list_fits sound unused n l = all_of unused (drop n l) && all_of sound (take n l)

abbrev pub is_zero : ℕ → Bool
is_zero n = eqb n 0

-- ---- rules

-- kind 0 has no value, a broadcast of value 0 is prohibited, a MAC has 48 bits, the others 16; there is no kind 5
unfoldable pub sound_client : Client → Bool
sound_client x =
    cond (eqb x.kind 0) (is_zero x.value)
    (cond (eqb x.kind 1) (not (is_zero x.value) && ltb x.value (256 ^ 2))
    (cond (eqb x.kind 2) (ltb x.value (256 ^ 6))
    (ltb x.kind 5 && ltb x.value (256 ^ 2))))

unfoldable pub unused_client : Client → Bool
unused_client x = is_zero x.kind && is_zero x.value

unfoldable pub sound_rule : Rule → Bool
sound_rule q =
    leb q.ucidcount 16 && (all_of is_zero (drop q.ucidcount q.ucids)
    && (leb q.clientcount 8 && (all_of unused_client (drop q.clientcount q.clients) && (all_of sound_client (clients_of q)
    && (leb q.numbercount 8 && (all_of is_zero (drop q.numbercount q.numbers) && (all_of (λ n. not (is_zero n)) (numbers_of q)
    && ltb q.tunnel (256 ^ 6))))))))

unfoldable pub unused_rule : Rule → Bool
unused_rule q =
    is_zero q.number && (is_zero q.priority && (is_zero q.ucidcount && (is_zero q.clientcount && (is_zero q.numbercount
    && (all_of is_zero q.ucids && (all_of is_zero q.numbers && (is_zero q.tunnel && all_of unused_client q.clients)))))))

-- ---- classifiers

-- a mark of 0 with value 0, or a mark of 1
unfoldable pub sound_part : ℕ → ℕ → Bool
sound_part mark v = cond (eqb mark 0) (is_zero v) (eqb mark 1)

unfoldable pub sound_classifier : Classifier → Bool
sound_classifier q =
    not (is_zero q.number) && (sound_part q.hassource q.source && (sound_part q.hasmask q.mask && (sound_part q.hasstart q.start && sound_part q.hasend q.end)))

unfoldable pub unused_classifier : Classifier → Bool
unused_classifier q =
    is_zero q.destination && (is_zero q.source && (is_zero q.mask && (is_zero q.number && (is_zero q.start && (is_zero q.end
    && (is_zero q.priority && (is_zero q.hassource && (is_zero q.hasmask && (is_zero q.hasstart && is_zero q.hasend)))))))))
