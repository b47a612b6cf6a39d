-- How long a line can be (specs/Text.antt): sizes_line-short 44, rule_line-short 66, classifier_line-short 30, channel_line-short 19, timers_line-short 31.
-- The lines of a list are as long as its limit allows: lined_listed. A field that shows a count: wrote_count.
-- Trusts: nothing.
use Prim.Native.Nat.{ℕ, ◌*◌, ◌^◌, ◌≤◌, ◌<◌}
use mathlib.Core.Path.{◌≡◌, subst, ap, ◌∙◌}
use mathlib.Core.List.{List, ◌++◌}
use native.Mathlib.Nat.{mul-le-mul_left}
use lib.ListN.{length}
use Rattle.table.specs.declared.Rule.{Rule}
use Rattle.table.specs.declared.Classifier.{Classifier}
use Rattle.table.specs.declared.TimerValues.{TimerValues}
use Rattle.table.specs.declared.Table.{Table}
use Rattle.table.proofs.Laws.{length-rules_of_le, length-classifiers_of_le, length-channels_of_le, length-clients_of_le, length-numbers_of_le}
use Rattle.texts.specs.Text.{field, each}
use Rattle.texts.specs.Put.{put}
use Rattle.texts.specs.Writing.{Fits, Wrote, Short, Lined}
use Rattle.texts.proofs.Lengths.{join-short, end_short, field-short, address-short, count-short, lined-most}
use Rattle.texts.proofs.Puts.{wrote_put}
use Rattle.listing.specs.Text.{sizes_line, rule_line, classifier_line, channel_line, timers_line}

pub sizes_line-short : (count : ℕ) (t : Table) → count < 256 → Short 44 (sizes_line count t)
unfolding sizes_line
sizes_line-short count t h =
    join-short 7 37 (field-short _ 2 h tt)
    (join-short 9 28 (count-short _ 1 32 (length-rules_of_le t) tt)
    (join-short 15 13 (count-short _ 1 32 (length-classifiers_of_le t) tt) (join-short 12 1 (count-short _ 1 32 (length-channels_of_le t) tt) (end_short _))))

module _ (r : Rule) where
  pub rule_line-short : r.number < 256 → r.priority < 256 → Short 66 (rule_line r)
  unfolding rule_line
  rule_line-short h p =
      join-short 8 58 (field-short _ 2 h tt)
      (join-short 13 45 (field-short _ 2 p tt)
      (join-short 20 25 (address-short _ _)
      (join-short 10 15 (count-short _ 0 8 (length-clients_of_le r) tt) (join-short 14 1 (count-short _ 0 8 (length-numbers_of_le r) tt) (end_short _)))))

module _ (cl : Classifier) where
  pub classifier_line-short : cl.number < 65536 → cl.priority < 256 → Short 30 (classifier_line cl)
  unfolding classifier_line
  classifier_line-short h p = join-short 16 14 (field-short _ 4 h tt) (join-short 13 1 (field-short _ 2 p tt) (end_short _))

pub channel_line-short : (hertz : ℕ) → hertz < 2 ^ 32 → Short 19 (channel_line hertz)
unfolding channel_line
channel_line-short hertz h = join-short 18 1 (field-short _ 9 h tt) (end_short _)

module _ (v : TimerValues) where
  pub timers_line-short : v.tdsg1 < 65536 → v.tdsg2 < 65536 → v.tdsg3 < 65536 → v.tdsg4 < 65536 → Short 31 (timers_line v)
  unfolding timers_line
  timers_line-short a b c d =
      join-short 12 19 (field-short _ 4 a tt) (join-short 6 13 (field-short _ 4 b tt) (join-short 6 7 (field-short _ 4 c tt) (join-short 6 1 (field-short _ 4 d tt) (end_short _))))

pub lined_listed : {A : Type 0} (most limit : ℕ) (line : A → List ℕ) {xs l : List A} {out new : List ℕ} {at next : ℕ} → xs ≡ l → length l ≤ limit
    → Lined (most * length xs) out at (each line xs) new next → Lined (most * limit) out at (each line l) new next
lined_listed {A} most limit line {xs} {l} {out} {new} {at} {next} same few w =
    lined-most (most * length l) (most * limit) (mul-le-mul_left {m = length l} {n = limit} most few)
    (subst (λ (x : List A). Lined (most * length x) out at (each line x) new next) same w)

-- the count that is printed is the length of a list
pub wrote_count : {out new last t : List ℕ} {at next end m n : ℕ} (word : List ℕ) → m ≡ n → Fits out at (field word n ++ t)
    → record { next = next; out = new } ≡ put (field word m) out at → (Fits new next t → Wrote new next t last end) → Wrote out at (field word n ++ t) last end
wrote_count {out} {at = at} {n = n} word e h w k = wrote_put (field word n) h (w ∙ ap (λ (x : ℕ). put (field word x) out at) e) k
