-- How large a buffer always suffices: the longest listing of any table has 3,755 bytes (specs/Listing.antt of notices).
--
--   Ranged count t     every number that is listed fits its field, as it does in any lent table
--   listing-fits       then the listing has at most 3,755 bytes
--   listing_longest    and one such table's listing has as many
-- Trusts: nothing.
use Prim.Native.Nat.{ℕ, zero, suc, ◌+◌, ◌*◌, ◌^◌, ◌≤◌, ◌<◌}
use mathlib.Core.Path.{◌≡◌, refl, sym, ap, ◌∙◌}
use mathlib.Core.List.{List, [], ◌∷◌, ◌++◌}
use native.Mathlib.Omega.{arith}
use native.Mathlib.Nat.{mul-suc, suc-mul, add_comm}
use lib.Dec.{lit<}
use lib.ListN.{length, get_or, replicate, get_or-replicate, length-append}
use Rattle.table.specs.declared.Rule.{Rule}
use Rattle.table.specs.declared.Classifier.{Classifier}
use Rattle.table.specs.declared.Table.{Table}
use Rattle.table.specs.Table.{rules_of, classifiers_of, channels_of, clients_of, numbers_of, empty_client, empty_rule, empty_classifier}
use Rattle.table.proofs.Laws.{length-rules_of_le, length-classifiers_of_le, length-channels_of_le}
use Rattle.texts.specs.Text.{digit, decimal, decimal_in, hexadecimal, field, address, each}
use Rattle.texts.specs.Writing.{Short}
use Rattle.texts.proofs.Lengths.{join-short}
use Rattle.listing.specs.Text.{sizes_line, rule_line, classifier_line, channel_line, timers_line, table_text}
use Rattle.listing.proofs.Lengths.{sizes_line-short, rule_line-short, classifier_line-short, channel_line-short, timers_line-short}

pub record Ranged (count : ℕ) (t : Table) : Type 0 where
  pub change : count < 256
  pub number : (i : ℕ) → i < length (rules_of t) → (get_or (rules_of t) i empty_rule).number < 256
  pub priority : (i : ℕ) → i < length (rules_of t) → (get_or (rules_of t) i empty_rule).priority < 256
  pub classifier : (i : ℕ) → i < length (classifiers_of t) → (get_or (classifiers_of t) i empty_classifier).number < 65536
  pub rank : (i : ℕ) → i < length (classifiers_of t) → (get_or (classifiers_of t) i empty_classifier).priority < 256
  pub channel : (i : ℕ) → i < length (channels_of t) → get_or (channels_of t) i 0 < 2 ^ 32
  pub tdsg1 : t.timers.tdsg1 < 65536
  pub tdsg2 : t.timers.tdsg2 < 65536
  pub tdsg3 : t.timers.tdsg3 < 65536
  pub tdsg4 : t.timers.tdsg4 < 65536

-- as many lines as the list has entries, each of at most `most` bytes
each-short : {A : Type 0} (most : ℕ) (line : A → List ℕ) (d : A) (l : List A) (limit : ℕ)
    → length l ≤ limit → ((i : ℕ) → i < length l → Short most (line (get_or l i d))) → Short (most * limit) (each line l)
unfolding each
each-short most line d [] limit few h = record { bytes = omega arith }
each-short most line d (x ∷ xs) zero few h = absurd (omega arith)
each-short most line d (x ∷ xs) (suc limit) few h =
    let rest = each-short most line d xs limit (omega arith) (λ i q. h (suc i) (omega arith)) in
    let one = join-short most (most * limit) (h 0 (omega arith)) rest in
    record { bytes = omega (arith, one.bytes, mul-suc most limit) }

pub listing-fits : {count : ℕ} {t : Table} → Ranged count t → length (table_text count t) ≤ 3755
unfolding table_text
listing-fits {count} {t} r =
    let sizes = sizes_line-short count t r.change in
    let rules = each-short 66 rule_line empty_rule (rules_of t) 32 (length-rules_of_le t) (λ i q. rule_line-short _ (r.number i q) (r.priority i q)) in
    let classifiers = each-short 30 classifier_line empty_classifier (classifiers_of t) 32 (length-classifiers_of_le t) (λ i q. classifier_line-short _ (r.classifier i q) (r.rank i q)) in
    let channels = each-short 19 channel_line 0 (channels_of t) 32 (length-channels_of_le t) (λ i q. channel_line-short _ (r.channel i q)) in
    let timers = timers_line-short t.timers r.tdsg1 r.tdsg2 r.tdsg3 r.tdsg4 in
    (join-short 44 3711 sizes (join-short 2112 1599 rules (join-short 960 639 classifiers (join-short 608 31 channels timers)))).bytes

-- a table with every list full and every number at its largest
longest_rule : Rule
longest_rule =
    record {
      number = 255;
      priority = 255;
      ucidcount = 16;
      clientcount = 8;
      numbercount = 8;
      ucids = replicate 16 0;
      numbers = replicate 8 1;
      tunnel = 0;
      clients = replicate 8 empty_client;
    }

longest_classifier : Classifier
longest_classifier =
    record { destination = 0; source = 0; mask = 0; number = 65535; start = 0; end = 0; priority = 255; hassource = 0; hasmask = 0; hasstart = 0; hasend = 0 }

pub longest : Table
unfolding longest_rule longest_classifier
longest =
    record {
      rulecount = 32;
      classifiercount = 32;
      channelcount = 32;
      timers = record { tdsg1 = 65535; tdsg2 = 65535; tdsg3 = 65535; tdsg4 = 65535 };
      channels = replicate 32 4294967295;
      classifiers = replicate 32 longest_classifier;
      rules = replicate 32 longest_rule;
    }

pub longest_ranged : Ranged 255 longest
unfolding longest longest_rule longest_classifier rules_of classifiers_of channels_of
longest_ranged =
    record {
      change = lit< tt;
      number = λ i q. rw (get_or-replicate 32 i longest_rule empty_rule q) (lit< tt);
      priority = λ i q. rw (get_or-replicate 32 i longest_rule empty_rule q) (lit< tt);
      classifier = λ i q. rw (get_or-replicate 32 i longest_classifier empty_classifier q) (lit< tt);
      rank = λ i q. rw (get_or-replicate 32 i longest_classifier empty_classifier q) (lit< tt);
      channel = λ i q. rw (get_or-replicate {A = ℕ} 32 i 4294967295 0 q) (lit< tt);
      tdsg1 = lit< tt;
      tdsg2 = lit< tt;
      tdsg3 = lit< tt;
      tdsg4 = lit< tt;
    }

-- the lines of equal entries
each-replicate : {A : Type 0} (line : A → List ℕ) (n : ℕ) (x : A) → length (each line (replicate n x)) ≡ n * length (line x)
unfolding each
each-replicate line zero x = omega arith
each-replicate line (suc n) x =
    length-append (line x) (each line (replicate n x)) ∙ ap (λ (k : ℕ). length (line x) + k) (each-replicate line n x)
    ∙ sym (suc-mul n (length (line x)) ∙ add_comm (n * length (line x)) (length (line x)))

-- the lengths of a text's five parts, computed
parts : (a b c d e : List ℕ) (l m n o p : ℕ)
    → length a ≡ l → length b ≡ m → length c ≡ n → length d ≡ o → length e ≡ p → length (a ++ (b ++ (c ++ (d ++ e)))) ≡ l + (m + (n + (o + p)))
parts a b c d e l m n o p f g h i j = simp length-append (omega arith)

pub listing_longest : length (table_text 255 longest) ≡ 3755
unfolding longest longest_rule longest_classifier rules_of classifiers_of channels_of clients_of numbers_of digit decimal decimal_in hexadecimal field address sizes_line rule_line classifier_line channel_line timers_line table_text
listing_longest =
    let rules = each-replicate rule_line 32 longest_rule in
    let classifiers = each-replicate classifier_line 32 longest_classifier in
    let channels = each-replicate channel_line 32 4294967295 in
    parts (sizes_line 255 longest) (each rule_line (rules_of longest)) (each classifier_line (classifiers_of longest)) (each channel_line (channels_of longest)) (timers_line longest.timers)
    44 2112 960 608 31 refl rules classifiers channels refl
