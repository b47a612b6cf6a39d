-- Text: what the listing of a table says, as a list of bytes (document 01, "Listing").
--
--   sizes_line, rule_line, classifier_line, channel_line, timers_line    the lines of a table
--   table_text          the listing of a table under its change count: every rule, classifier and channel, in table order
--
-- Lists are read by the counts of specs/Table.antt of table, so any lent table has a listing. A tunnel number of 2^48 or more, which no
-- message gives, shows its low 48 bits. A channel that no message gives is shown as it stands.
-- Tested by: document 01's example in proofs/Bench.antt; the samples of examples/; random bodies against the other program.
-- Trusts: nothing.
use Rattle.std.specs.Prelude.{ℕ, List, ◌++◌, length}
use Rattle.table.specs.declared.Rule.{Rule}
use Rattle.table.specs.declared.Classifier.{Classifier}
use Rattle.table.specs.declared.TimerValues.{TimerValues}
use Rattle.table.specs.declared.Table.{Table}
use Rattle.table.specs.Table.{rules_of, classifiers_of, channels_of, clients_of, numbers_of}
use Rattle.texts.specs.Text.{ascii, field, address, each}

unfoldable pub sizes_line : ℕ → Table → List ℕ
sizes_line count t =
    field (ascii "dcd ") count ++ (field (ascii " rules ") (length (rules_of t)) ++ (field (ascii " classifiers ") (length (classifiers_of t)) ++ (field (ascii " channels ") (length (channels_of t)) ++ ascii "\n")))

unfoldable pub rule_line : Rule → List ℕ
rule_line r =
    field (ascii "rule ") r.number ++ (field (ascii " priority ") r.priority ++ (address (ascii " tunnel ") r.tunnel ++ (field (ascii " clients ") (length (clients_of r)) ++ (field (ascii " classifiers ") (length (numbers_of r)) ++ ascii "\n"))))

unfoldable pub classifier_line : Classifier → List ℕ
classifier_line cl = field (ascii "classifier ") cl.number ++ (field (ascii " priority ") cl.priority ++ ascii "\n")

unfoldable pub channel_line : ℕ → List ℕ
channel_line hertz = field (ascii "channel ") hertz ++ ascii "\n"

unfoldable pub timers_line : TimerValues → List ℕ
timers_line v =
    field (ascii "timers ") v.tdsg1 ++ (field (ascii " ") v.tdsg2 ++ (field (ascii " ") v.tdsg3 ++ (field (ascii " ") v.tdsg4 ++ ascii "\n")))

unfoldable pub table_text : ℕ → Table → List ℕ
table_text count t =
    sizes_line count t ++ (each rule_line (rules_of t) ++ (each classifier_line (classifiers_of t) ++ (each channel_line (channels_of t) ++ timers_line t.timers)))
