-- A written message is one of bytes, and so: a table is producible exactly where some message of bytes reads to it.
--
--   message_of-bytes     every byte of a written message is below 256
--   producible_exact    Producible, and a message that reads to the table: each from the other
-- Trusts: nothing.
use Prim.Native.Nat.{ℕ, zero, suc, ◌/◌, ◌≤◌, ◌<◌}
use mathlib.Core.Path.{◌≡◌, sym, ap, subst}
use mathlib.Core.Bool.{Bool, true, false, cond}
use mathlib.Core.List.{List, [], ◌∷◌, ◌++◌}
use native.Mathlib.Omega.{arith}
use native.Mathlib.Nat.{mod-lt}
use lib.ListN.{length}
use lib.Dec.{eqb}
use Rattle.table.specs.Table.{clients_of, ucids_of, is_present}
use Rattle.table.specs.declared.Client.{Client}
use Rattle.table.specs.declared.Rule.{Rule}
use Rattle.table.specs.declared.Classifier.{Classifier}
use Rattle.table.specs.declared.Table.{Table}
use Rattle.table.proofs.Laws.{length-clients_of_le, length-ucids_of_le}
use Rattle.reader.specs.Read.{read_table}
use Rattle.reader.specs.Read.{Reading}
use Rattle.reader.specs.Read.{Accepted}
use Rattle.texts.specs.Text.{each}
use Rattle.wire.specs.Bytes.{concat}
use Rattle.writing_elements.specs.Encode.{big_endian, element, client_bytes, number_bytes, ucid_bytes, rule_row, rule_bytes, part, part_row, classifier_row, classifier_bytes, channel_bytes, timer, timers_row, configuration_row, configured, message_of}
use Rattle.writing_elements.proofs.Sizes.{clients-most, rule_row-most, part_row-most, classifier_row-most, configuration_row-most}
use Rattle.writing_elements.proofs.Messages.{message_of_parts}
use Rattle.writing_elements.proofs.Stands.{length-big_endian}
use Rattle.writing_laws.specs.Claims.{All, none, more, Byte, ClientGood, everyone, broadcast, mac, system, application, NumberGood, RuleGood, ClassifierGood, ChannelGood, Producible}
use Rattle.writing_laws.proofs.Keeps.{Bytes as Octets}
use Rattle.writing_laws.proofs.Back.{read_table_back}
use Rattle.writing_laws.proofs.Made.{read_table-producible}

all_append : {A : Type 0} {P : A → Type 0} {xs ys : List A} → All P xs → All P ys → All P (xs ++ ys)
all_append none q = q
all_append (more p ps) q = more p (all_append ps q)

all-each : {X : Type 0} {P : X → Type 0} (f : X → List ℕ) → ((x : X) → P x → All Byte (f x)) → {xs : List X} → All P xs → All Byte (each f xs)
unfolding each
all-each f h none = none
all-each f h (more {x = x} p ps) = all_append (h x p) (all-each f h ps)

all-number : (w n : ℕ) → All Byte (big_endian w n)
unfolding big_endian
all-number zero n = none
all-number (suc w) n = all_append (all-number w (n / 256)) (more (mod-lt n (omega arith)) none)

all-element : (kind : ℕ) {v : List ℕ} → kind < 256 → length v ≤ 254 → All Byte v → All Byte (element kind v)
all-element kind {v} k l p = more k (more {x = length v} (omega arith) p)

-- a number as an element
all_plain : (kind w n : ℕ) → kind < 256 → w ≤ 254 → All Byte (element kind (big_endian w n))
all_plain kind w n k l = all-element kind k (omega (arith, length-big_endian w n)) (all-number w n)

client-bytes : (x : Client) → ClientGood x → All Byte (client_bytes x)
unfolding client_bytes
client-bytes x everyone = all-element 1 (omega arith) (omega arith) none
client-bytes x (broadcast {v} l u) = all_plain 1 2 v (omega arith) (omega arith)
client-bytes x (mac {v} u) = all_plain 2 6 v (omega arith) (omega arith)
client-bytes x (system {v} u) = all_plain 3 2 v (omega arith) (omega arith)
client-bytes x (application {v} u) = all_plain 4 2 v (omega arith) (omega arith)

number-bytes : (n : ℕ) → NumberGood n → All Byte (number_bytes n)
unfolding number_bytes
number-bytes n g = all_plain 6 2 n (omega arith) (omega arith)

ucid-bytes : (us : List ℕ) → length us ≤ 16 → All Byte us → All Byte (ucid_bytes us)
unfolding ucid_bytes
ucid-bytes [] h p = none
ucid-bytes (u ∷ us) h p = all-element 3 (omega arith) (omega arith) p

rule-bytes : (q : Rule) → RuleGood q → All Byte (rule_bytes q)
unfolding rule_bytes rule_row
rule-bytes q g =
    all-element 50 (omega arith) (omega (arith, rule_row-most q))
    (all_append (all-element 1 (omega arith) (omega arith) (more g.own none))
    (all_append (all-element 2 (omega arith) (omega arith) (more g.priority none))
    (all_append (ucid-bytes (ucids_of q) (length-ucids_of_le q) g.ucid)
    (all_append (all-element 4 (omega arith) (omega (arith, clients-most (clients_of q) (length-clients_of_le q))) (all-each client_bytes client-bytes g.client))
    (all_append (all_plain 5 6 q.tunnel (omega arith) (omega arith)) (all-each number_bytes number-bytes g.number))))))

part_bytes : (mark : ℕ) {bs : List ℕ} → All Byte bs → All Byte (part mark bs)
unfolding part
part_bytes mark {bs} p = on (is_present mark)
  where
    on : (b : Bool) → All Byte (cond b bs [])
    on true = p
    on false = none

classifier-bytes : (q : Classifier) → ClassifierGood q → All Byte (classifier_bytes q)
unfolding classifier_bytes classifier_row part_row
classifier-bytes q g =
    all-element 23 (omega arith) (omega (arith, classifier_row-most q))
    (all_append (all_plain 2 2 q.number (omega arith) (omega arith))
    (all_append (all-element 5 (omega arith) (omega arith) (more g.priority none))
    (all-element 9 (omega arith) (omega (arith, part_row-most q))
    (all_append (part_bytes q.hassource (all_plain 3 4 q.source (omega arith) (omega arith)))
    (all_append (part_bytes q.hasmask (all_plain 4 4 q.mask (omega arith) (omega arith)))
    (all_append (all_plain 5 4 q.destination (omega arith) (omega arith))
    (all_append (part_bytes q.hasstart (all_plain 9 2 q.start (omega arith) (omega arith))) (part_bytes q.hasend (all_plain 10 2 q.end (omega arith) (omega arith))))))))))

timer-bytes : (kind usual v : ℕ) → kind < 256 → All Byte (timer kind usual v)
unfolding timer
timer-bytes kind usual v k = on (eqb v usual)
  where
    on : (b : Bool) → All Byte (cond b [] (element kind (big_endian 2 v)))
    on true = none
    on false = all_plain kind 2 v k (omega arith)

channel-bytes : (hertz : ℕ) → ChannelGood hertz → All Byte (channel_bytes hertz)
unfolding channel_bytes
channel-bytes hertz g = all_plain 1 4 hertz (omega arith) (omega arith)

configuration_bytes : (t : Table) → Producible t → All Byte (configuration_row t)
unfolding configuration_row timers_row
configuration_bytes t g =
    all_append (all-each channel_bytes channel-bytes g.channel)
    (all_append (timer-bytes 2 2 t.timers.tdsg1 (omega arith)) (all_append (timer-bytes 3 600 t.timers.tdsg2 (omega arith))
    (all_append (timer-bytes 4 300 t.timers.tdsg3 (omega arith)) (timer-bytes 5 1800 t.timers.tdsg4 (omega arith)))))

configured-bytes : (row : List ℕ) → length row ≤ 254 → All Byte row → All Byte (concat (configured row))
unfolding concat
configured-bytes [] h p = none
configured-bytes (b ∷ row) h p = all_append (all-element 51 (omega arith) h p) none

octets_all : {l : List ℕ} → All Byte l → Octets l
octets_all none k = omega arith
octets_all (more p ps) zero = p
octets_all (more p ps) (suc k) = octets_all ps k

pub message_of-bytes : (t : Table) → Producible t → Octets (message_of t)
message_of-bytes t g =
    octets_all (subst (λ (l : List ℕ). All Byte l) (sym (message_of_parts t))
    (all_append (configured-bytes (configuration_row t) (omega (arith, configuration_row-most t)) (configuration_bytes t g))
    (all_append (all-each classifier_bytes classifier-bytes g.classifier) (all-each rule_bytes rule-bytes g.rule))))

-- some message of bytes reads to the table
pub record ReadsTo (t : Table) : Type 0 where
  pub message : List ℕ
  pub octets : Octets message
  pub reads : (given : Table) → read_table given message ≡ record { verdict = Accepted; table = t }

-- REQ 01, refusal 19: a table that reading can produce
pub producible_exact : (t : Table) → (Producible t → ReadsTo t) × (ReadsTo t → Producible t)
producible_exact t = (
  λ g. record { message = message_of t; octets = message_of-bytes t g; reads = read_table_back t g },
  λ r. subst Producible (ap (λ (x : Reading). x.table) (r.reads t)) (read_table-producible r.message r.octets t (ap (λ (x : Reading). x.verdict) (r.reads t))),
)
