-- Classifiers: what the row of a classifier leaves (document 01, "Elements", 23 and 23.9).
--
--   with_part_child at len q         the classifier q with the child of 23.9 at `at` taken up
--   with_classifier_child at len q   the classifier q with the child of 23 at `at`, of len bytes, taken up
--   classifier_at msg at            the classifier of the element at `at`: its children, in byte order, taken up into an empty classifier
--
-- A part that does not come stays absent: its mark and its value are 0. A child of an unlisted type is passed over, as document 01 has it.
-- No test is made here: a byte beyond the message counts as 0; messages with such children are refused by tests 6 to 13.
-- Tested by: proofs/Bench.antt of the crate reader.
-- Trusts: nothing.
use Rattle.std.specs.Prelude.{ℕ, ◌+◌, cond, List, get_or, eqb}
use Rattle.numbers.specs.Numbers.{number_at}
use Rattle.table.specs.Table.{empty_classifier}
use Rattle.table.specs.declared.Classifier.{Classifier}
use Rattle.children.specs.Rows.{row_in, row_inside, row_fold, type_at}

abbrev pub with_number : ℕ → Classifier → Classifier
with_number v q =
    record { destination = q.destination; source = q.source; mask = q.mask; number = v; start = q.start; end = q.end; priority = q.priority; hassource = q.hassource; hasmask = q.hasmask; hasstart = q.hasstart; hasend = q.hasend }

abbrev pub with_priority : ℕ → Classifier → Classifier
with_priority v q =
    record { destination = q.destination; source = q.source; mask = q.mask; number = q.number; start = q.start; end = q.end; priority = v; hassource = q.hassource; hasmask = q.hasmask; hasstart = q.hasstart; hasend = q.hasend }

abbrev pub with_source : ℕ → Classifier → Classifier
with_source v q =
    record { destination = q.destination; source = v; mask = q.mask; number = q.number; start = q.start; end = q.end; priority = q.priority; hassource = 1; hasmask = q.hasmask; hasstart = q.hasstart; hasend = q.hasend }

abbrev pub with_mask : ℕ → Classifier → Classifier
with_mask v q =
    record { destination = q.destination; source = q.source; mask = v; number = q.number; start = q.start; end = q.end; priority = q.priority; hassource = q.hassource; hasmask = 1; hasstart = q.hasstart; hasend = q.hasend }

abbrev pub with_destination : ℕ → Classifier → Classifier
with_destination v q =
    record { destination = v; source = q.source; mask = q.mask; number = q.number; start = q.start; end = q.end; priority = q.priority; hassource = q.hassource; hasmask = q.hasmask; hasstart = q.hasstart; hasend = q.hasend }

abbrev pub with_start : ℕ → Classifier → Classifier
with_start v q =
    record { destination = q.destination; source = q.source; mask = q.mask; number = q.number; start = v; end = q.end; priority = q.priority; hassource = q.hassource; hasmask = q.hasmask; hasstart = 1; hasend = q.hasend }

abbrev pub with_end : ℕ → Classifier → Classifier
with_end v q =
    record { destination = q.destination; source = q.source; mask = q.mask; number = q.number; start = q.start; end = v; priority = q.priority; hassource = q.hassource; hasmask = q.hasmask; hasstart = q.hasstart; hasend = 1 }

unfoldable pub with_part_child : List ℕ → ℕ → ℕ → Classifier → Classifier
with_part_child msg at len q =
    cond (eqb (type_at msg at) 3) (with_source (number_at 4 msg (at + 2)) q)
    (cond (eqb (type_at msg at) 4) (with_mask (number_at 4 msg (at + 2)) q)
    (cond (eqb (type_at msg at) 5) (with_destination (number_at 4 msg (at + 2)) q)
    (cond (eqb (type_at msg at) 9) (with_start (number_at 2 msg (at + 2)) q)
    (cond (eqb (type_at msg at) 10) (with_end (number_at 2 msg (at + 2)) q)
    q))))

-- the classifier with the IP part from `at` to `end` taken up
unfoldable pub with_part : List ℕ → ℕ → ℕ → Classifier → Classifier
with_part msg at end q = row_fold (with_part_child msg) (row_in msg at end) q

unfoldable pub with_classifier_child : List ℕ → ℕ → ℕ → Classifier → Classifier
with_classifier_child msg at len q =
    cond (eqb (type_at msg at) 2) (with_number (number_at 2 msg (at + 2)) q)
    (cond (eqb (type_at msg at) 5) (with_priority (get_or msg (at + 2) 0) q)
    (cond (eqb (type_at msg at) 9) (with_part msg (at + 2) (at + 2 + len) q)
    q))

unfoldable pub classifier_at : List ℕ → ℕ → Classifier
classifier_at msg at = row_fold (with_classifier_child msg) (row_inside msg at) empty_classifier
