-- Encode: the elements that are written for a table (document 02, Req 01).
--
--   big_endian w n      the last w bytes of a number, the greatest first
--   element kind v     an element: its type, the length of its value, the value
--   client_bytes, rule_bytes, classifier_bytes      one client ID, rule, classifier as an element; children by rising type
--   configuration_row t the children of the configuration: channels, then the timers that are not the usual ones
--   elements_of t       the configuration where it has a child, the classifiers, the rules, in table order
--   message_of t        their bytes
--
-- Any table has a message; `producible` says which tables come back from it (specs/Producible.antt of writing_check).
-- Tested by: document 01's M and a table with all three kinds of element, written and computed, in proofs/Bench.antt of writing_laws; the writer
-- against the other program in host/.
-- Trusts: nothing.
use Rattle.std.specs.Prelude.{ℕ, zero, suc, ◌/◌, ◌%◌, cond, List, [], ◌∷◌, ◌++◌, map, length, eqb}
use Rattle.table.specs.Table.{rules_of, classifiers_of, channels_of, clients_of, numbers_of, ucids_of, is_present}
use Rattle.table.specs.declared.Client.{Client}
use Rattle.table.specs.declared.Rule.{Rule}
use Rattle.table.specs.declared.Classifier.{Classifier}
use Rattle.table.specs.declared.TimerValues.{TimerValues}
use Rattle.table.specs.declared.Table.{Table}
use Rattle.wire.specs.Bytes.{concat}
use Rattle.texts.specs.Text.{each}

unfoldable pub big_endian : ℕ → ℕ → List ℕ
big_endian zero n = []
big_endian (suc w) n = big_endian w (n / 256) ++ (n % 256 ∷ [])

abbrev pub element : ℕ → List ℕ → List ℕ
element kind value = kind ∷ length value ∷ value

-- ---- a rule

-- a broadcast of length 0 is a kind of its own
unfoldable pub client_bytes : Client → List ℕ
client_bytes one =
    cond (eqb one.kind 0) (element 1 [])
    (cond (eqb one.kind 2) (element 2 (big_endian 6 one.value))
    (element one.kind (big_endian 2 one.value)))

unfoldable pub number_bytes : ℕ → List ℕ
number_bytes n = element 6 (big_endian 2 n)

-- no list of UCIDs, no element
unfoldable pub ucid_bytes : List ℕ → List ℕ
ucid_bytes [] = []
ucid_bytes (u ∷ us) = element 3 (u ∷ us)

unfoldable pub rule_row : Rule → List ℕ
rule_row q =
    element 1 (q.number ∷ [])
    ++ (element 2 (q.priority ∷ [])
    ++ (ucid_bytes (ucids_of q)
    ++ (element 4 (each client_bytes (clients_of q))
    ++ (element 5 (big_endian 6 q.tunnel)
    ++ each number_bytes (numbers_of q)))))

unfoldable pub rule_bytes : Rule → List ℕ
rule_bytes q = element 50 (rule_row q)

-- ---- a classifier

-- a part that is marked present
unfoldable pub part : ℕ → List ℕ → List ℕ
part mark bytes = cond (is_present mark) bytes []

unfoldable pub part_row : Classifier → List ℕ
part_row q =
    part q.hassource (element 3 (big_endian 4 q.source))
    ++ (part q.hasmask (element 4 (big_endian 4 q.mask))
    ++ (element 5 (big_endian 4 q.destination)
    ++ (part q.hasstart (element 9 (big_endian 2 q.start))
    ++ part q.hasend (element 10 (big_endian 2 q.end)))))

unfoldable pub classifier_row : Classifier → List ℕ
classifier_row q = element 2 (big_endian 2 q.number) ++ (element 5 (q.priority ∷ []) ++ element 9 (part_row q))

unfoldable pub classifier_bytes : Classifier → List ℕ
classifier_bytes q = element 23 (classifier_row q)

-- ---- the configuration

unfoldable pub channel_bytes : ℕ → List ℕ
channel_bytes hertz = element 1 (big_endian 4 hertz)

-- a timer value that is not the usual one
unfoldable pub timer : ℕ → ℕ → ℕ → List ℕ
timer kind usual v = cond (eqb v usual) [] (element kind (big_endian 2 v))

unfoldable pub timers_row : TimerValues → List ℕ
timers_row v = timer 2 2 v.tdsg1 ++ (timer 3 600 v.tdsg2 ++ (timer 4 300 v.tdsg3 ++ timer 5 1800 v.tdsg4))

unfoldable pub configuration_row : Table → List ℕ
configuration_row t = each channel_bytes (channels_of t) ++ timers_row t.timers

-- an empty configuration is not written
abbrev pub configured : List ℕ → List (List ℕ)
configured [] = []
configured (b ∷ bs) = element 51 (b ∷ bs) ∷ []

-- ---- the table

unfoldable pub elements_of : Table → List (List ℕ)
elements_of t = configured (configuration_row t) ++ (map classifier_bytes (classifiers_of t) ++ map rule_bytes (rules_of t))

unfoldable pub message_of : Table → List ℕ
message_of t = concat (elements_of t)
