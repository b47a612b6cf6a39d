-- The classifier of a 23 that passes its tests is one that reading can produce (specs/Producible.antt).
--
--   PartsMade n p q     a classifier with this number and priority whose parts are absent with value 0 or present
--   ClassifierMade u q  and whose number is good once a 23.2 was counted
--   classifier_made     the classifier of a 23 that passes
-- Trusts: nothing.
use Prim.Native.Nat.{ℕ, ◌+◌, ◌^◌, ◌≤◌, ◌<◌}
use mathlib.Core.Path.{◌≡◌, refl, sym, ap, ◌∙◌}
use mathlib.Core.Bool.{Bool, true, false, cond, not, ◌&&◌}
use mathlib.Core.List.{List}
use native.Mathlib.Omega.{arith}
use borrow.Author.Tests.{eqb-true, eqb-false}
use lib.ListN.{get_or}
use lib.Seq.{get_or-set_other}
use lib.Dec.{eqb}
use Rattle.numbers.specs.Numbers.{number_at}
use Rattle.numbers.proofs.Laws.{number_at_below}
use Rattle.table.specs.Table.{empty_classifier}
use Rattle.table.specs.declared.Classifier.{Classifier}
use Rattle.types.specs.Places.{type_under}
use Rattle.types.specs.declared.Length.TheVariants.{Row, Bytes}
use Rattle.types.specs.declared.Values.TheVariants.{Any, NotZero}
use Rattle.element_tests.specs.Tests.{stepped, wrong_length, bad_value}
use Rattle.element_tests.specs.Tests.{Step}
use Rattle.rows.specs.Tests.{none_counted}
use Rattle.rows.specs.Rows.{row_of, element_of, noted}
use Rattle.types.specs.declared.Known.{Known}
use Rattle.rows.proofs.Ways.{elem_unlisted}
use Rattle.children.specs.Rows.{type_at, row_in, row_fold}
use Rattle.children.proofs.LawsFolds.{fold_keeps}
use Rattle.classifiers.specs.Classifiers.{with_number, with_priority, with_source, with_mask, with_destination, with_start, with_end, with_part_child, with_part, with_classifier_child}
use Rattle.writing_laws.specs.Claims.{NumberGood, Byte, PartGood, absent, present, ClassifierGood}
use Rattle.writing_laws.proofs.Known.{known, classifier_2, classifier_5, classifier_9, classifier-other, classifier_numbered}
use Rattle.writing_laws.proofs.Classifier.{classifier_so}
use Rattle.writing_laws.proofs.Keeps.{Bytes as Octets, Sees, element_sees, row_keeps}

pub record PartsMade (n p : ℕ) (q : Classifier) : Type 0 where
  pub hs : ℕ
  pub s : ℕ
  pub hm : ℕ
  pub m : ℕ
  pub d : ℕ
  pub ht : ℕ
  pub t : ℕ
  pub he : ℕ
  pub e : ℕ
  pub is : q ≡ classifier_so n p hs s hm m d ht t he e
  pub source : PartGood 4 hs s
  pub mask : PartGood 4 hm m
  pub destination : d < 256 ^ 4
  pub start : PartGood 2 ht t
  pub end : PartGood 2 he e

module _ (msg : List ℕ) (octets : Octets msg) (n p : ℕ) where
  part_made : (at len : ℕ) (q : Classifier) → PartsMade n p q → PartsMade n p (with_part_child msg at len q)
  unfolding with_part_child
  part_made at len q r = on (eqb (type_at msg at) 3) (eqb (type_at msg at) 4) (eqb (type_at msg at) 5) (eqb (type_at msg at) 9) (eqb (type_at msg at) 10)
    where
      v : ℕ → ℕ
      v w = number_at w msg (at + 2)

      below : (w : ℕ) → v w < 256 ^ w
      below w = number_at_below w msg (at + 2) octets

      on : (a b c f g : Bool) → PartsMade n p (cond a (with_source (v 4) q) (cond b (with_mask (v 4) q) (cond c (with_destination (v 4) q) (cond f (with_start (v 2) q) (cond g (with_end (v 2) q) q)))))
      on true b c f g =
          record { hs = 1; s = v 4; hm = r.hm; m = r.m; d = r.d; ht = r.ht; t = r.t; he = r.he; e = r.e; is = ap (with_source (v 4)) r.is; source = present (below 4); mask = r.mask; destination = r.destination; start = r.start; end = r.end }
      on false true c f g =
          record { hs = r.hs; s = r.s; hm = 1; m = v 4; d = r.d; ht = r.ht; t = r.t; he = r.he; e = r.e; is = ap (with_mask (v 4)) r.is; source = r.source; mask = present (below 4); destination = r.destination; start = r.start; end = r.end }
      on false false true f g =
          record { hs = r.hs; s = r.s; hm = r.hm; m = r.m; d = v 4; ht = r.ht; t = r.t; he = r.he; e = r.e; is = ap (with_destination (v 4)) r.is; source = r.source; mask = r.mask; destination = below 4; start = r.start; end = r.end }
      on false false false true g =
          record { hs = r.hs; s = r.s; hm = r.hm; m = r.m; d = r.d; ht = 1; t = v 2; he = r.he; e = r.e; is = ap (with_start (v 2)) r.is; source = r.source; mask = r.mask; destination = r.destination; start = present (below 2); end = r.end }
      on false false false false true =
          record { hs = r.hs; s = r.s; hm = r.hm; m = r.m; d = r.d; ht = r.ht; t = r.t; he = 1; e = v 2; is = ap (with_end (v 2)) r.is; source = r.source; mask = r.mask; destination = r.destination; start = r.start; end = present (below 2) }
      on false false false false false = r

  parts_made : (at end : ℕ) (q : Classifier) → PartsMade n p q → PartsMade n p (with_part msg at end q)
  unfolding with_part
  parts_made at end q r = fold_keeps (PartsMade n p) (with_part_child msg) part_made (row_in msg at end) q r

pub record ClassifierMade (u : List ℕ) (q : Classifier) : Type 0 where
  pub n : ℕ
  pub p : ℕ
  pub parts : PartsMade n p q
  pub priority : Byte p
  pub number : (get_or u 0 0 ≡ 0 → ⊥) → NumberGood n

module _ (msg : List ℕ) (octets : Octets msg) (at len : ℕ) (u : List ℕ) (fine : (element_of msg 0 at len u).bad ≡ 0) where
  abbrev step : Step
  step = element_of msg 0 at len u

  number_in : type_at msg at ≡ 2 → NumberGood (number_at 2 msg (at + 2))
  unfolding wrong_length bad_value
  number_in e = pick (eqb len 2) (eqb (number_at 2 msg (at + 2)) 0) s.size s.value refl
    where
      s : Sees msg 0 at len u (known 3 (Bytes 2) false NotZero 255 0)
      s = element_sees msg 0 at len u (known 3 (Bytes 2) false NotZero 255 0) (ap (type_under 0) e ∙ classifier_2) (λ z. omega (arith, z)) fine

      pick : (b c : Bool) → not b ≡ false → b && c ≡ false → eqb (number_at 2 msg (at + 2)) 0 ≡ c → NumberGood (number_at 2 msg (at + 2))
      pick false c p q r = absurd (let z : ◌≡◌ {A = ℕ} 0 1 = ap (λ (t : Bool). cond {A = ℕ} t 0 1) p in omega arith)
      pick true true p q r = absurd (let z : ◌≡◌ {A = ℕ} 0 1 = ap (λ (t : Bool). cond {A = ℕ} t 0 1) q in omega arith)
      pick true false p q r = (omega (arith, eqb-false (number_at 2 msg (at + 2)) 0 r), number_at_below 2 msg (at + 2) octets)

  -- an element of another list leaves the count of 23.2
  other-list : (type_at msg at ≡ 2 → ⊥) → get_or (noted u step) 0 0 ≡ get_or u 0 0
  other-list not2 = on (eqb (type_at msg at) 5) (eqb (type_at msg at) 9) refl refl
    where
      elsewhere : (l c : ℕ) → 1 ≤ l → step ≡ stepped 0 at l c → get_or (noted u step) 0 0 ≡ get_or u 0 0
      elsewhere l c h e = ap (λ (s : Step). get_or (noted u s) 0 0) e ∙ get_or-set_other u l 0 c 0 (λ z. omega (arith, z))

      on : (a b : Bool) → eqb (type_at msg at) 5 ≡ a → eqb (type_at msg at) 9 ≡ b → get_or (noted u step) 0 0 ≡ get_or u 0 0
      on true b x y =
          elsewhere 1 _ (omega arith) (element_sees msg 0 at len u (known 4 (Bytes 1) false Any 255 1) (ap (type_under 0) (eqb-true _ _ x) ∙ classifier_5) (λ z. omega (arith, z)) fine).step
      on false true x y =
          elsewhere 2 _ (omega arith) (element_sees msg 0 at len u (known 5 Row false Any 255 2) (ap (type_under 0) (eqb-true _ _ y) ∙ classifier_9) (λ z. omega (arith, z)) fine).step
      on false false x y = elsewhere 8 0 (omega arith) (sym (elem_unlisted msg 0 at len u (ap (λ (k : Known). k.place) (classifier-other (type_at msg at) not2 (eqb-false _ _ x) (eqb-false _ _ y)))))

  child_made : (q : Classifier) → ClassifierMade u q → ClassifierMade (noted u step) (with_classifier_child msg at len q)
  unfolding with_classifier_child
  child_made q m = on (eqb (type_at msg at) 2) (eqb (type_at msg at) 5) (eqb (type_at msg at) 9) refl
    where
      still : (type_at msg at ≡ 2 → ⊥) → (get_or (noted u step) 0 0 ≡ 0 → ⊥) → NumberGood m.n
      still not2 z = m.number (λ e. z (other-list not2 ∙ e))

      r : PartsMade m.n m.p q
      r = m.parts

      on : (a b c : Bool) → eqb (type_at msg at) 2 ≡ a
          → ClassifierMade (noted u step) (cond a (with_number (number_at 2 msg (at + 2)) q) (cond b (with_priority (get_or msg (at + 2) 0) q) (cond c (with_part msg (at + 2) (at + 2 + len) q) q)))
      on true b c x =
          record {
            n = number_at 2 msg (at + 2);
            p = m.p;
            parts = record { hs = r.hs; s = r.s; hm = r.hm; m = r.m; d = r.d; ht = r.ht; t = r.t; he = r.he; e = r.e; is = ap (with_number (number_at 2 msg (at + 2))) r.is; source = r.source; mask = r.mask; destination = r.destination; start = r.start; end = r.end };
            priority = m.priority;
            number = λ z. number_in (eqb-true _ _ x);
          }
      on false true c x =
          record {
            n = m.n;
            p = get_or msg (at + 2) 0;
            parts = record { hs = r.hs; s = r.s; hm = r.hm; m = r.m; d = r.d; ht = r.ht; t = r.t; he = r.he; e = r.e; is = ap (with_priority (get_or msg (at + 2) 0)) r.is; source = r.source; mask = r.mask; destination = r.destination; start = r.start; end = r.end };
            priority = octets (at + 2);
            number = still (eqb-false _ _ x);
          }
      on false false true x =
          record { n = m.n; p = m.p; parts = parts_made msg octets m.n m.p (at + 2) (at + 2 + len) q r; priority = m.priority; number = still (eqb-false _ _ x) }
      on false false false x = record { n = m.n; p = m.p; parts = r; priority = m.priority; number = still (eqb-false _ _ x) }

-- the classifier in the row from `at` to `end`
pub classifier_made : (msg : List ℕ) → Octets msg → (own at end : ℕ) → (row_of msg 0 own at end none_counted).bad ≡ 0 → ClassifierGood (row_fold (with_classifier_child msg) (row_in msg at end) empty_classifier)
classifier_made msg octets own at end z =
    let k = row_keeps msg 0 own (with_classifier_child msg) end ClassifierMade (λ at len u q head fine m. child_made msg octets at len u fine q m) at none_counted empty_classifier z
    (record {
      n = 0;
      p = 0;
      parts = record { hs = 0; s = 0; hm = 0; m = 0; d = 0; ht = 0; t = 0; he = 0; e = 0; is = refl; source = absent; mask = absent; destination = omega arith; start = absent; end = absent };
      priority = omega arith;
      number = λ y. absurd (y refl);
    }) in
    let m = k.holds in
    let r = m.parts in
    rw r.is
    (record { number = m.number (classifier_numbered k.counts k.musts); priority = m.priority; source = r.source; mask = r.mask; destination = r.destination; start = r.start; end = r.end })
