-- The tests of a classifier and its parts say what the claims say (specs/Claims.antt; specs/Entries.antt of writing_entries).
--
--   part_true, part_claims                                       an optional part: from the test, to the test
--   classifier_true, classifier_claims, classifier-empty         a classifier; an unused one
-- Trusts: nothing.
use Prim.Native.Nat.{ℕ, ◌^◌, ◌<◌}
use mathlib.Core.Path.{◌≡◌, refl}
use mathlib.Core.Bool.{Bool, true, false, cond}
use borrow.Author.Tests.{eqb-true}
use lib.Dec.{eqb}
use Rattle.wire.proofs.Laws.{both}
use Rattle.table.specs.Table.{empty_classifier}
use Rattle.table.specs.declared.Classifier.{Classifier}
use Rattle.writing_entries.specs.Entries.{is_zero, sound_part, sound_classifier, unused_classifier}
use Rattle.writing_laws.specs.Claims.{PartGood, absent, present, ClassifierGood}
use Rattle.writing_laws.specs.Typed.{TypedClassifier}
use Rattle.writing_laws.proofs.TestedRule.{zero_true, some_true, true_some}

pub part_true : (w mark v : ℕ) → v < 256 ^ w → sound_part mark v ≡ true → PartGood w mark v
unfolding sound_part
part_true w mark v h = on (eqb mark 0) refl
  where
    on : (b : Bool) → eqb mark 0 ≡ b → cond b (is_zero v) (eqb mark 1) ≡ true → PartGood w mark v
    on true e z = rw (eqb-true mark 0 e, zero_true v z) absent
    on false e z = rw (eqb-true mark 1 z) (present h)

pub part_claims : {w mark v : ℕ} → PartGood w mark v → sound_part mark v ≡ true
unfolding sound_part
part_claims absent = refl
part_claims (present h) = refl

pub classifier_true : (q : Classifier) → TypedClassifier q → sound_classifier q ≡ true → ClassifierGood q
unfolding sound_classifier
classifier_true q t e =
    let a = both _ _ e in
    let b = both _ _ a.1 in
    let c = both _ _ b.1 in
    let d = both _ _ c.1 in
    record {
      number = (some_true q.number a.0, t.number);
      priority = t.priority;
      source = part_true 4 q.hassource q.source t.source b.0;
      mask = part_true 4 q.hasmask q.mask t.mask c.0;
      destination = t.destination;
      start = part_true 2 q.hasstart q.start t.start d.0;
      end = part_true 2 q.hasend q.end t.end d.1;
    }

pub classifier_claims : (q : Classifier) → ClassifierGood q → sound_classifier q ≡ true
unfolding sound_classifier
classifier_claims q g = rw (true_some q.number g.number.0, part_claims g.source, part_claims g.mask, part_claims g.start, part_claims g.end) refl

pub classifier-empty : (q : Classifier) → unused_classifier q ≡ true → q ≡ empty_classifier
unfolding unused_classifier
classifier-empty q e =
    let a = both _ _ e in
    let b = both _ _ a.1 in
    let c = both _ _ b.1 in
    let d = both _ _ c.1 in
    let f = both _ _ d.1 in
    let g = both _ _ f.1 in
    let h = both _ _ g.1 in
    let i = both _ _ h.1 in
    let j = both _ _ i.1 in
    let k = both _ _ j.1 in
    make q.destination q.source q.mask q.number q.start q.end q.priority q.hassource q.hasmask q.hasstart q.hasend
    (zero_true _ a.0) (zero_true _ b.0) (zero_true _ c.0) (zero_true _ d.0) (zero_true _ f.0) (zero_true _ g.0) (zero_true _ h.0) (zero_true _ i.0) (zero_true _ j.0) (zero_true _ k.0) (zero_true _ k.1)
  where
    make : (a b c d f g h i j k l : ℕ) → a ≡ 0 → b ≡ 0 → c ≡ 0 → d ≡ 0 → f ≡ 0 → g ≡ 0 → h ≡ 0 → i ≡ 0 → j ≡ 0 → k ≡ 0 → l ≡ 0
        → ◌≡◌ {A = Classifier} (record { destination = a; source = b; mask = c; number = d; start = f; end = g; priority = h; hassource = i; hasmask = j; hasstart = k; hasend = l }) empty_classifier
    make a b c d f g h i j k l e1 e2 e3 e4 e5 e6 e7 e8 e9 e10 e11 = simp (e1, e2, e3, e4, e5, e6, e7, e8, e9, e10, e11)

pub unused_classifier_lem : unused_classifier empty_classifier ≡ true
unfolding unused_classifier
unused_classifier_lem = refl
