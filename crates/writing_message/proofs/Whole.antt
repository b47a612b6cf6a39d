-- The three groups of elements one behind the other are the message, and the record has its pieces (specs/Message.antt, message_in).
--
--   configured-filled     the configuration, written at the array's start and added to the record
--   message_in-whole       the configuration, the classifiers, the rules: the message
-- Trusts: nothing.
use Prim.Native.Nat.{ℕ, ◌≤◌}
use mathlib.Core.Path.{◌≡◌, refl, sym, ap, ◌∙◌}
use mathlib.Core.List.{List, [], ◌∷◌, ◌++◌, map, map-append}
use native.Mathlib.Omega.{arith}
use lib.ListN.{length, length-append}
use Rattle.table.specs.Table.{rules_of, classifiers_of}
use Rattle.table.specs.declared.Table.{Table}
use Rattle.wire.specs.Bytes.{concat}
use Rattle.texts.specs.Writing.{Wrote, Lined}
use Rattle.texts.proofs.Lengths.{lined_then}
use Rattle.texts.proofs.Written.{wrote_same}
use Rattle.writing_elements.specs.Encode.{element, configured, configuration_row, classifier_bytes, rule_bytes, elements_of, message_of}
use Rattle.writing_elements.proofs.Sizes.{configured-most}
use Rattle.writing_elements.proofs.Messages.{message_of_parts}
use Rattle.writing_numbers.specs.Within.{put_within}
use Rattle.writing_numbers.proofs.Within.{within→lined}
use Rattle.writing_message.specs.Message.{no_cut, cut_on, cut_all, message_in}
use Rattle.writing_message.specs.Filling.{Filled, Added}
use Rattle.writing_message.specs.declared.Cut.{Cut}
use Rattle.writing_message.specs.declared.Message.{Message}
use Rattle.writing_message.proofs.Filled.{filled_none, filled_le, filled_more, cut_all-append}

-- a configuration that is not written adds nothing
configured-cut : (row : List ℕ) → cut_on (length (concat (configured row))) no_cut ≡ cut_all no_cut (map length (configured row))
unfolding cut_on cut_all concat
configured-cut [] = refl
configured-cut (b ∷ row) = ap (λ (n : ℕ). cut_on n no_cut) {x = length (element 51 (b ∷ row) ++ [])} {y = length (element 51 (b ∷ row))} (omega (arith, length-append row []))

module _ (t : Table) (held : List ℕ) (size : length held ≡ 5632) {at : ℕ} {first : List ℕ} (e : record { next = at; out = first } ≡ put_within 210 (concat (configured (configuration_row t))) held 0) where
  configured-lined : Lined 210 held 0 (concat (configured (configuration_row t))) first at
  configured-lined = within→lined 210 (concat (configured (configuration_row t))) held 0 (omega arith) (configured-most t) e

  pub configured-length : at ≤ 210
  configured-length = let w = configured-lined in omega (arith, w.wrote.place, w.short.bytes)

  pub configured-filled : {c : Cut} → c ≡ cut_on at no_cut → Filled at c
  configured-filled f = rw f (filled_le (omega arith) (filled_more (omega (arith, configured-length)) filled_none))

  module _ {c : Cut} (f : c ≡ cut_on at no_cut) {second : List ℕ} {m : Message} (a : Added 1184 classifier_bytes (classifiers_of t) first (record { length = at; cut = c }) second m) where
    pub classified_length : m.length ≤ 1394
    classified_length = omega (arith, configured-length, a.lined.wrote.place, a.lined.short.bytes)

    module _ {last : List ℕ} {r : Message} (b : Added 4224 rule_bytes (rules_of t) second m last r) where
      wrote-all : Wrote held 0 (message_of t) last r.length
      wrote-all = wrote_same (sym (message_of_parts t)) (lined_then 210 5408 (omega arith) configured-lined (λ room. lined_then 1184 4224 room a.lined (λ room. b.lined))).wrote

      cut_all_lem : r.cut ≡ cut_all no_cut (map length (elements_of t))
      unfolding elements_of
      cut_all_lem =
          let row = configured (configuration_row t) in
          let qs = map classifier_bytes (classifiers_of t) in
          let rs = map rule_bytes (rules_of t) in
          let one : c ≡ cut_all no_cut (map length row) = f ∙ ap (λ (n : ℕ). cut_on n no_cut) {x = at} {y = length (concat row)} (omega (arith, configured-lined.wrote.place)) ∙ configured-cut (configuration_row t) in
          b.cut ∙ rw (a.cut, one, map-append length row (qs ++ rs), map-append length qs rs, cut_all-append no_cut (map length row) (map length qs ++ map length rs), cut_all-append (cut_all no_cut (map length row)) (map length qs) (map length rs)) refl

      pub message_in-whole : record { message = r; held = last } ≡ message_in t held
      unfolding message_in
      message_in-whole =
          let n : r.length ≡ length (message_of t) = omega (arith, wrote-all.place) in
          ap (λ (x : ℕ). record { message = record { length = x; cut = r.cut }; held = last }) n
          ∙ ap (λ (x : Cut). record { message = record { length = length (message_of t); cut = x }; held = last }) cut_all_lem
          ∙ ap (λ (x : List ℕ). record { message = record { length = length (message_of t); cut = cut_all no_cut (map length (elements_of t)) }; held = x }) wrote-all.bytes
