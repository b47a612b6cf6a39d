-- A classifier, written and read back (specs/Classifiers.antt of classifiers, classifier_bytes of encoding).
-- Trusts: nothing.
use Prim.Native.Nat.{ℕ, ◌+◌, ◌^◌, ◌<◌}
use mathlib.Core.Path.{◌≡◌, refl, sym, ap, ◌∙◌}
use mathlib.Core.Bool.{true, false}
use mathlib.Core.List.{List, [], ◌∷◌}
use native.Mathlib.Omega.{arith}
use borrow.Author.Tests.{ne_eqb, le-ltb, lt-leb}
use lib.ListN.{length, get_or}
use Rattle.table.specs.Table.{empty_classifier}
use Rattle.table.specs.declared.Classifier.{Classifier}
use Rattle.types.specs.declared.Length.TheVariants.{Row, Bytes}
use Rattle.types.specs.declared.Values.TheVariants.{Any, NotZero}
use Rattle.element_tests.specs.Tests.{second_copy, wrong_length, bad_value, is_full}
use Rattle.rows.specs.Tests.{is_row, none_counted}
use Rattle.rows.specs.Rows.{element_of}
use Rattle.children.specs.Rows.{row_fold}
use Rattle.children.proofs.Laws.{row_inside-row}
use Rattle.classifiers.specs.Classifiers.{with_part_child, with_part, with_classifier_child, classifier_at}
use Rattle.writing_elements.specs.Encode.{big_endian, element, part, part_row, classifier_row, classifier_bytes}
use Rattle.writing_elements.proofs.Sizes.{part_row-most, classifier_row-most}
use Rattle.writing_elements.proofs.Stands.{Stands, stands_byte, stands_value, stands_number, stands_head}
use Rattle.writing_laws.specs.Claims.{NumberGood, PartGood, absent, present, ClassifierGood}
use Rattle.writing_laws.proofs.Known.{known, top_23, classifier_2, classifier_5, classifier_9, part_3, part_4, part_5, part_9, part_10, classifier_musts, part_musts}
use Rattle.writing_laws.proofs.Segments.{passed, Good, good_none, good_then, good_leaf, good_row, good_plain, row_fine, row-tested, row_folded}

abbrev pub classifier_so : (n p hs s hm m d ht t he e : ℕ) → Classifier
classifier_so n p hs s hm m d ht t he e =
    record { destination = d; source = s; mask = m; number = n; start = t; end = e; priority = p; hassource = hs; hasmask = hm; hasstart = ht; hasend = he }

abbrev counted : (a b c d e : ℕ) → List ℕ
counted a b c d e = a ∷ b ∷ c ∷ d ∷ e ∷ 0 ∷ 0 ∷ 0 ∷ []

module _ (msg : List ℕ) (own n p : ℕ) where
  good_source : {hs s : ℕ} → PartGood 4 hs s
      → Good msg 5 own (with_part_child msg) (part hs (element 3 (big_endian 4 s))) (counted 0 0 0 0 0) (classifier_so n p 0 0 0 0 0 0 0 0 0) (counted hs 0 0 0 0) (classifier_so n p hs s 0 0 0 0 0 0 0)
  unfolding part bad_value with_part_child
  good_source absent = good_none msg 5 own (with_part_child msg)
  good_source (present {v} h) =
      good_plain msg 5 own (with_part_child msg) 6 3 0 4 v Any (counted 0 0 0 0 0) part_3 (omega arith) (omega arith) refl (λ at s. refl)
      (λ at s. simp (stands_byte s, stands_number msg (at + 2) 4 v h (stands_value s)))

  good_mask : (hs s : ℕ) {hm m : ℕ} → PartGood 4 hm m
      → Good msg 5 own (with_part_child msg) (part hm (element 4 (big_endian 4 m))) (counted hs 0 0 0 0) (classifier_so n p hs s 0 0 0 0 0 0 0) (counted hs hm 0 0 0) (classifier_so n p hs s hm m 0 0 0 0 0)
  unfolding part bad_value with_part_child
  good_mask hs s absent = good_none msg 5 own (with_part_child msg)
  good_mask hs s (present {v} h) =
      good_plain msg 5 own (with_part_child msg) 7 4 1 4 v Any (counted hs 0 0 0 0) part_4 (omega arith) (omega arith) refl (λ at s. refl)
      (λ at s. simp (stands_byte s, stands_number msg (at + 2) 4 v h (stands_value s)))

  good_destination : (hs s hm m d : ℕ) → d < 256 ^ 4
      → Good msg 5 own (with_part_child msg) (element 5 (big_endian 4 d)) (counted hs hm 0 0 0) (classifier_so n p hs s hm m 0 0 0 0 0) (counted hs hm 1 0 0) (classifier_so n p hs s hm m d 0 0 0 0)
  unfolding bad_value with_part_child
  good_destination hs s hm m d h =
      good_plain msg 5 own (with_part_child msg) 8 5 2 4 d Any (counted hs hm 0 0 0) part_5 (omega arith) (omega arith) refl (λ at s. refl)
      (λ at s. simp (stands_byte s, stands_number msg (at + 2) 4 d h (stands_value s)))

  good_start : (hs s hm m d : ℕ) {ht t : ℕ} → PartGood 2 ht t
      → Good msg 5 own (with_part_child msg) (part ht (element 9 (big_endian 2 t))) (counted hs hm 1 0 0) (classifier_so n p hs s hm m d 0 0 0 0) (counted hs hm 1 ht 0) (classifier_so n p hs s hm m d ht t 0 0)
  unfolding part bad_value with_part_child
  good_start hs s hm m d absent = good_none msg 5 own (with_part_child msg)
  good_start hs s hm m d (present {v} h) =
      good_plain msg 5 own (with_part_child msg) 9 9 3 2 v Any (counted hs hm 1 0 0) part_9 (omega arith) (omega arith) refl (λ at s. refl)
      (λ at s. simp (stands_byte s, stands_number msg (at + 2) 2 v h (stands_value s)))

  good_end : (hs s hm m d ht t : ℕ) {he e : ℕ} → PartGood 2 he e
      → Good msg 5 own (with_part_child msg) (part he (element 10 (big_endian 2 e))) (counted hs hm 1 ht 0) (classifier_so n p hs s hm m d ht t 0 0) (counted hs hm 1 ht he) (classifier_so n p hs s hm m d ht t he e)
  unfolding part bad_value with_part_child
  good_end hs s hm m d ht t absent = good_none msg 5 own (with_part_child msg)
  good_end hs s hm m d ht t (present {v} h) =
      good_plain msg 5 own (with_part_child msg) 10 10 4 2 v Any (counted hs hm 1 ht 0) part_10 (omega arith) (omega arith) refl (λ at s. refl)
      (λ at s. simp (stands_byte s, stands_number msg (at + 2) 2 v h (stands_value s)))

  part_good : (q : Classifier) → ClassifierGood q
      → Good msg 5 own (with_part_child msg) (part_row q) none_counted (classifier_so n p 0 0 0 0 0 0 0 0 0) (counted q.hassource q.hasmask 1 q.hasstart q.hasend)
      (classifier_so n p q.hassource q.source q.hasmask q.mask q.destination q.hasstart q.start q.hasend q.end)
  unfolding part_row
  part_good q g =
      good_then msg 5 own (with_part_child msg) _ _ (good_source g.source)
      (good_then msg 5 own (with_part_child msg) _ _ (good_mask q.hassource q.source g.mask)
      (good_then msg 5 own (with_part_child msg) _ _ (good_destination q.hassource q.source q.hasmask q.mask q.destination g.destination)
      (good_then msg 5 own (with_part_child msg) _ _ (good_start q.hassource q.source q.hasmask q.mask q.destination g.start)
      (good_end q.hassource q.source q.hasmask q.mask q.destination q.hasstart q.start g.end))))

module _ (msg : List ℕ) (own : ℕ) where
  good_number : (n : ℕ) → NumberGood n
      → Good msg 0 own (with_classifier_child msg) (element 2 (big_endian 2 n)) (counted 0 0 0 0 0) empty_classifier (counted 1 0 0 0 0) (classifier_so n 0 0 0 0 0 0 0 0 0 0)
  unfolding bad_value with_classifier_child
  good_number n g =
      good_plain msg 0 own (with_classifier_child msg) 3 2 0 2 n NotZero (counted 0 0 0 0 0) classifier_2 (omega arith) (omega arith) refl
      (λ at s. simp (stands_number msg (at + 2) 2 n g.1 (stands_value s), ne_eqb n 0 (λ z. omega (arith, z))))
      (λ at s. simp (stands_byte s, stands_number msg (at + 2) 2 n g.1 (stands_value s)))

  good_priority : (n p : ℕ)
      → Good msg 0 own (with_classifier_child msg) (element 5 (p ∷ [])) (counted 1 0 0 0 0) (classifier_so n 0 0 0 0 0 0 0 0 0 0) (counted 1 1 0 0 0) (classifier_so n p 0 0 0 0 0 0 0 0 0)
  unfolding second_copy wrong_length is_full bad_value is_row with_classifier_child
  good_priority n p =
      good_leaf msg 0 own (with_classifier_child msg) (known 4 (Bytes 1) false Any 255 1) 5 (p ∷ []) (counted 1 0 0 0 0) classifier_5
      (record { listed = λ z. omega (arith, z); few = omega arith; copy = refl; size = refl; value = λ at s. refl; room = refl }) refl
      (λ at s. simp (stands_byte s, stands_byte (stands_value {v = p ∷ []} s)))

  good_part : (q : Classifier) → ClassifierGood q
      → Good msg 0 own (with_classifier_child msg) (element 9 (part_row q)) (counted 1 1 0 0 0) (classifier_so q.number q.priority 0 0 0 0 0 0 0 0 0) (counted 1 1 1 0 0) q
  unfolding second_copy wrong_length is_full bad_value is_row with_classifier_child with_part
  good_part q g =
      good_row msg 0 own (with_classifier_child msg) (known 5 Row false Any 255 2) 9 (part_row q) (counted 1 1 0 0 0) classifier_9
      (record { listed = λ z. omega (arith, z); few = omega (arith, part_row-most q); copy = refl; size = refl; value = λ at s. refl; room = simp (le-ltb 255 (length (part_row q)) (omega (arith, part_row-most q))) }) refl
      (λ at s.
      let r = part_good msg at q.number q.priority q g (at + 2) (stands_value s) in
      (ap (λ f. f.bad) (row-tested msg 5 at (with_part_child msg) r (part_musts _ _ _ _)), simp (stands_byte s, row_folded msg 5 at (with_part_child msg) r)))

  pub classifier_good : (q : Classifier) → ClassifierGood q → Good msg 0 own (with_classifier_child msg) (classifier_row q) none_counted empty_classifier (counted 1 1 1 0 0) q
  unfolding classifier_row
  classifier_good q g =
      good_then msg 0 own (with_classifier_child msg) _ _ (good_number q.number g.number)
      (good_then msg 0 own (with_classifier_child msg) _ _ (good_priority q.number q.priority) (good_part q g))

module _ (msg : List ℕ) (at : ℕ) (q : Classifier) (g : ClassifierGood q) (s : Stands msg at (classifier_bytes q)) where
  pub classifier_back : classifier_at msg at ≡ q
  unfolding classifier_at classifier_bytes
  classifier_back =
      ap (λ row. row_fold (with_classifier_child msg) row empty_classifier)
      (row_inside-row msg at (sym ((stands_head {v = classifier_row q} s (length msg) (omega (arith, classifier_row-most q)) (omega (arith, s.fits))))) refl)
      ∙ row_folded msg 0 at (with_classifier_child msg) (classifier_good msg at q g (at + 2) (stands_value s))

  pub classifier-tested : (u : List ℕ) → get_or u 0 0 < 32 → element_of msg 26 at (length (classifier_row q)) u ≡ passed at 0 (get_or u 0 0 + 1)
  unfolding classifier_bytes second_copy wrong_length is_full bad_value is_row
  classifier-tested u room =
      row_fine msg 26 (known 0 Row true Any 32 0) 23 (classifier_row q) u top_23
      (record { listed = λ z. omega (arith, z); few = omega (arith, classifier_row-most q); copy = refl; size = refl; value = λ at s. refl; room = simp (lt-leb 32 (get_or u 0 0) room) }) at s refl
      (ap (λ f. f.bad) (row-tested msg 0 at (with_classifier_child msg) (classifier_good msg at q g (at + 2) (stands_value s)) classifier_musts))
