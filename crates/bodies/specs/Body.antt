-- Body: the listing of one body by itself (document 01, "Listing").
--
--   zeros              a buffer of 24,000 bytes, all 0
--   received body      what the body leaves where nothing is collected, the table is empty and both buffers are `zeros`
--   report_text         the listing of a report, under a change count and with a table: a refusal with its number and offset (0 for a
--                      refused body), an unfinished collection with its empty slots, or an accepted table
--   body_text body      the listing of the body: that of its report, under its own change count
--
-- A first body is no Repeat, and a loose collection is not dropped (proofs/Laws.antt), so those cases are never shown.
-- Tested by: document 01's example, on which dcdlist is run; the samples of examples/bodies.
-- Trusts: nothing.
use Rattle.std.specs.Prelude.{ℕ, List, get_or, replicate}
use Rattle.table.specs.declared.Table.{Table}
use Rattle.table.specs.Table.{empty_table}
use Rattle.collection.specs.Record.{empty_collection}
use Rattle.receiver.specs.Receive.{Told, body_refused, again, waiting, accepted, message_refused, dropped, Had, receive_step}
use Rattle.notices.specs.Text.{refusal_text, waiting_text}
use Rattle.listing.specs.Text.{table_text}

unfoldable pub zeros : List ℕ
zeros = replicate 24000 0

unfoldable pub received : List ℕ → Had
received body = receive_step (empty_collection 0 0 0) empty_table zeros zeros body

unfoldable pub report_text : Told → ℕ → Table → List ℕ
report_text (body_refused n) count t = refusal_text n 0
report_text again count t = waiting_text 0
report_text (waiting k) count t = waiting_text k
report_text accepted count t = table_text count t
report_text (message_refused n offset) count t = refusal_text n offset
report_text (dropped cut) count t = refusal_text 21 cut

unfoldable pub body_text : List ℕ → List ℕ
body_text body = report_text (received body).report (get_or body 0 0) (received body).table
