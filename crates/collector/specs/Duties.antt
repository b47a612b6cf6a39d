-- Duties: what is left of a step inside the collector. No promise of a public function cites it.
--
--   Parts body count number slot bytes   that these are the parts of a body
--   stored_step r slots join k piece     what is left of a step when that record is known
--   held_after a r                       the record that an answer leaves, where the piece is noted in r
--
-- Trusts: nothing.
use Rattle.std.specs.Prelude.{◌≡◌, ℕ, ◌*◌, List, length}
use Rattle.wire.specs.Bytes.{pasted}
use Rattle.collection.specs.declared.Collection.{Collection}
use Rattle.collection.specs.Record.{empty_collection}
use Rattle.body_tests.specs.Refusals.{count_of, number_of, slot_of, piece_of}
use Rattle.collector.specs.Answers.{Said, refused, again, waiting, complete, dropped}
use Rattle.collector.specs.Step.{noted, After, finished}

pub record Parts (body : List ℕ) (count number slot : ℕ) (bytes : List ℕ) : Type 0 where
  pub counted : count ≡ count_of body
  pub numbered : number ≡ number_of body
  pub slotted : slot ≡ slot_of body
  pub rest : bytes ≡ piece_of body

abbrev pub stored_step : Collection → List ℕ → List ℕ → ℕ → List ℕ → After
stored_step r slots join k piece = finished (noted r k (length piece)) (pasted slots (k * 1500) piece) join (length piece)

abbrev pub held_after : Said → Collection → Collection
held_after (refused n) r = r
held_after again r = r
held_after (waiting k) r = r
held_after (complete n) r = r
held_after (dropped cut) r = empty_collection r.strict 0 0
