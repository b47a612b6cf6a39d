-- Claims: the tables that reading can produce, as claims (document 02, Req 01, refusal 19).
--
--   All P l             every entry of a list
--   ClientGood, RuleGood, ClassifierGood    what a client ID, a rule, a classifier of such a table keep
--   Producible t        the table: every list within its room and its unused places empty, every entry good, no number twice, every number
--                       that a rule names carried by a classifier
--
-- The executable test is `producible` (specs/Producible.antt of writing_check); the ranges of numbers that the types of the fields give already stand here as claims too.
-- Trusts: nothing.
use Rattle.std.specs.Prelude.{ℕ, ◌^◌, ◌≤◌, ◌<◌, ◌≡◌, true, false, List, [], ◌∷◌, length}
use Rattle.table.specs.Table.{rules_of, classifiers_of, channels_of, clients_of, numbers_of, ucids_of, empty_client, empty_rule, empty_classifier, padded}
use Rattle.table.specs.declared.Client.{Client}
use Rattle.table.specs.declared.Rule.{Rule}
use Rattle.table.specs.declared.Classifier.{Classifier}
use Rattle.table.specs.declared.Table.{Table}
use Rattle.element_tests.specs.Tests.{no_channel}
use Rattle.listed.specs.Listed.{is_distinct}
use Rattle.named.specs.Named.{Nothing, classifier_numbers, unanswered}
use Rattle.reader.specs.Take.{rule_numbers}

pub data All {A : Type 0} (P : A → Type 0) : List A → Type 0 where
  none : All P []
  more : {x : A} {xs : List A} → P x → All P xs → All P (x ∷ xs)

-- a list, its count and its array
pub record Listed {A : Type 0} (limit : ℕ) (d : A) (l : List A) (n : ℕ) (places : List A) : Type 0 where
  pub count : n ≡ length l
  pub array : places ≡ padded limit d l

pub data ClientGood : Client → Type 0 where
  everyone : ClientGood (record { kind = 0; value = 0 })
  broadcast : {v : ℕ} → 1 ≤ v → v < 256 ^ 2 → ClientGood (record { kind = 1; value = v })
  mac : {v : ℕ} → v < 256 ^ 6 → ClientGood (record { kind = 2; value = v })
  system : {v : ℕ} → v < 256 ^ 2 → ClientGood (record { kind = 3; value = v })
  application : {v : ℕ} → v < 256 ^ 2 → ClientGood (record { kind = 4; value = v })

abbrev pub NumberGood : ℕ → Type 0
NumberGood n = (1 ≤ n) × (n < 256 ^ 2)

abbrev pub Byte : ℕ → Type 0
Byte x = x < 256

pub record RuleGood (q : Rule) : Type 0 where
  pub own : Byte q.number
  pub priority : Byte q.priority
  pub ucids : Listed 16 0 (ucids_of q) q.ucidcount q.ucids
  pub clients : Listed 8 empty_client (clients_of q) q.clientcount q.clients
  pub numbers : Listed 8 0 (numbers_of q) q.numbercount q.numbers
  pub ucid : All Byte (ucids_of q)
  pub client : All ClientGood (clients_of q)
  pub number : All NumberGood (numbers_of q)
  pub tunnel : q.tunnel < 256 ^ 6

-- an optional part: absent with value 0, or present and of so many bytes
pub data PartGood (w : ℕ) : ℕ → ℕ → Type 0 where
  absent : PartGood w 0 0
  present : {v : ℕ} → v < 256 ^ w → PartGood w 1 v

pub record ClassifierGood (q : Classifier) : Type 0 where
  pub number : NumberGood q.number
  pub priority : Byte q.priority
  pub source : PartGood 4 q.hassource q.source
  pub mask : PartGood 4 q.hasmask q.mask
  pub destination : q.destination < 256 ^ 4
  pub start : PartGood 2 q.hasstart q.start
  pub end : PartGood 2 q.hasend q.end

abbrev pub ChannelGood : ℕ → Type 0
ChannelGood hertz = (no_channel hertz ≡ false) × (hertz < 256 ^ 4)

pub record Producible (t : Table) : Type 0 where
  pub channels : Listed 32 0 (channels_of t) t.channelcount t.channels
  pub classifiers : Listed 32 empty_classifier (classifiers_of t) t.classifiercount t.classifiers
  pub rules : Listed 32 empty_rule (rules_of t) t.rulecount t.rules
  pub channel : All ChannelGood (channels_of t)
  pub classifier : All ClassifierGood (classifiers_of t)
  pub rule : All RuleGood (rules_of t)
  pub tdsg1 : NumberGood t.timers.tdsg1
  pub tdsg2 : NumberGood t.timers.tdsg2
  pub tdsg3 : t.timers.tdsg3 < 256 ^ 2
  pub tdsg4 : t.timers.tdsg4 < 256 ^ 2
  pub ruleapart : is_distinct (rule_numbers t) ≡ true
  pub classifierapart : is_distinct (classifier_numbers t) ≡ true
  pub answered : unanswered t ≡ Nothing
