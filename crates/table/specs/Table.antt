-- Table: what a table holds, and the empty values of its records (document 01, "Elements").
--
--   limited_to limit n   a count of a lent record: above its limit it is read as the limit
--   rules_of, classifiers_of, channels_of   the lists of a table, as long as its counts say
--   clients_of, numbers_of, ucids_of        the lists of a rule, likewise
--   is_present mark      whether a marked part of a classifier is there
--   padded limit d l    a list in an array of `limit` places: behind its entries every place holds d
--   empty_table          the table of the empty message: every place 0, absent timers 2, 600, 300 and 1800
--
-- Places beyond a count are not looked at. Trusts: nothing.
use Rattle.std.specs.Prelude.{ℕ, ◌-◌, Bool, cond, not, List, ◌++◌, length, take, replicate, ltb, eqb}
use Rattle.table.specs.declared.Client.{Client}
use Rattle.table.specs.declared.Rule.{Rule}
use Rattle.table.specs.declared.Classifier.{Classifier}
use Rattle.table.specs.declared.TimerValues.{TimerValues}
use Rattle.table.specs.declared.Table.{Table}

abbrev pub limited_to : ℕ → ℕ → ℕ
limited_to limit n = cond (ltb limit n) limit n

unfoldable pub rules_of : Table → List Rule
rules_of t = take (limited_to 32 t.rulecount) t.rules

unfoldable pub classifiers_of : Table → List Classifier
classifiers_of t = take (limited_to 32 t.classifiercount) t.classifiers

unfoldable pub channels_of : Table → List ℕ
channels_of t = take (limited_to 32 t.channelcount) t.channels

unfoldable pub clients_of : Rule → List Client
clients_of r = take (limited_to 8 r.clientcount) r.clients

-- the classifier numbers that a rule names
unfoldable pub numbers_of : Rule → List ℕ
numbers_of r = take (limited_to 8 r.numbercount) r.numbers

unfoldable pub ucids_of : Rule → List ℕ
ucids_of r = take (limited_to 16 r.ucidcount) r.ucids

-- a mark of 0 says absent, any other says present
abbrev pub is_present : ℕ → Bool
is_present mark = not (eqb mark 0)

unfoldable pub padded : {A : Type 0} → ℕ → A → List A → List A
padded limit d l = l ++ replicate (limit - length l) d

abbrev pub empty_client : Client
empty_client = record { kind = 0; value = 0 }

abbrev pub empty_rule : Rule
empty_rule =
    record { number = 0; priority = 0; ucidcount = 0; clientcount = 0; numbercount = 0; ucids = replicate 16 0; numbers = replicate 8 0; tunnel = 0; clients = replicate 8 empty_client }

abbrev pub empty_classifier : Classifier
empty_classifier =
    record { destination = 0; source = 0; mask = 0; number = 0; start = 0; end = 0; priority = 0; hassource = 0; hasmask = 0; hasstart = 0; hasend = 0 }

abbrev pub default_timers : TimerValues
default_timers = record { tdsg1 = 2; tdsg2 = 600; tdsg3 = 300; tdsg4 = 1800 }

abbrev pub empty_table : Table
empty_table =
    record { rulecount = 0; classifiercount = 0; channelcount = 0; timers = default_timers; channels = replicate 32 0; classifiers = replicate 32 empty_classifier; rules = replicate 32 empty_rule }
