-- Typed: what the types of its fields say of a table already: numbers below 2^8, 2^16, 2^32 and arrays of their lengths.
--
--   TypedRule, TypedClassifier, Typed     as every lent record has them
--
-- A premise of `refused_exact` alone: no promise asks for it.
-- Trusts: nothing.
use Rattle.std.specs.Prelude.{◌^◌, ◌<◌, ◌≡◌, length}
use Rattle.table.specs.declared.Rule.{Rule}
use Rattle.table.specs.declared.Classifier.{Classifier}
use Rattle.table.specs.declared.Table.{Table}
use Rattle.writing_laws.specs.Claims.{All, Byte}

pub record TypedRule (q : Rule) : Type 0 where
  pub number : Byte q.number
  pub priority : Byte q.priority
  pub ucids : length q.ucids ≡ 16
  pub ucid : All Byte q.ucids
  pub clients : length q.clients ≡ 8
  pub numbers : length q.numbers ≡ 8
  pub named : All (λ n. n < 256 ^ 2) q.numbers

pub record TypedClassifier (q : Classifier) : Type 0 where
  pub number : q.number < 256 ^ 2
  pub priority : Byte q.priority
  pub source : q.source < 256 ^ 4
  pub mask : q.mask < 256 ^ 4
  pub destination : q.destination < 256 ^ 4
  pub start : q.start < 256 ^ 2
  pub end : q.end < 256 ^ 2

pub record Typed (t : Table) : Type 0 where
  pub channels : length t.channels ≡ 32
  pub channel : All (λ n. n < 256 ^ 4) t.channels
  pub classifiers : length t.classifiers ≡ 32
  pub classifier : All TypedClassifier t.classifiers
  pub rules : length t.rules ≡ 32
  pub rule : All TypedRule t.rules
  pub tdsg1 : t.timers.tdsg1 < 256 ^ 2
  pub tdsg2 : t.timers.tdsg2 < 256 ^ 2
  pub tdsg3 : t.timers.tdsg3 < 256 ^ 2
  pub tdsg4 : t.timers.tdsg4 < 256 ^ 2
