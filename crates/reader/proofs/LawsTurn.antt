-- Laws of a turn of the loop over the top-level elements (specs/Steps.antt), over plain values.
--
--   turn_refused            an element that is refused with 6 to 13
--   turn_less               what is left of the message falls
--   taking_on, turn_taken   after an element that is taken up; one that is refused with 14
-- Trusts: nothing.
use Prim.Native.Nat.{ℕ, ◌-◌, ◌<◌}
use mathlib.Core.Path.{◌≡◌, refl, ◌∙◌}
use mathlib.Core.Bool.{true, false}
use mathlib.Core.List.{List}
use Rattle.std.proofs.Common.{Ok, Err}
use lib.ListN.{length}
use Rattle.refusals.specs.Refusals.{number_of}
use Rattle.refusals.specs.declared.Fault.{Fault}
use Rattle.table.specs.declared.Table.{Table}
use Rattle.rows.specs.Rows.{tested_at}
use Rattle.rows.specs.Told.{tested_of}
use Rattle.rows.specs.declared.Next.{Next}
use Rattle.rows.specs.declared.Stopped.{Stopped}
use Rattle.rows.specs.declared.Tally.{Tally}
use Rattle.rows.proofs.Told.{tested_fine, tested_bad}
use Rattle.reader.specs.Take.{with_element, is_taken}
use Rattle.reader.specs.Steps.{TakesUp}
use Rattle.reader.proofs.LawsRead.{next_less, read_refused, read_taken, read_goes}
use Rattle.reader.proofs.Kept.{Kept}
use Rattle.reader.proofs.LawsTaking.{Rests, Taking}

module _ {msg ids carried : List ℕ} {t : Table} {at : ℕ} {tally : Tally} (k : Taking msg ids carried t at tally) (inside : at < length msg) where
  pub turn_refused : (s : Stopped) → tested_of at (Err s) ≡ tested_at msg at tally → TakesUp msg (Err s.fault)
  unfolding Rests
  turn_refused s e given =
      let bad = tested_bad at s e in
      rw (bad.1, bad.2) (read_refused msg at tally refl inside given t bad.0 ∙ k.rests given)

  module _ (next : Next) (e : tested_of at (Ok next) ≡ tested_at msg at tally) where
    pub turn_less : length msg - next.place < length msg - at
    turn_less =
        let fine = tested_fine at next e in
        rw fine.1 (next_less msg at tally refl inside fine.0)

    pub taking_on : {a b : List ℕ} {u : Table} → is_taken msg at t ≡ false → u ≡ with_element msg at t → Kept a b u → Taking msg a b u next.place next.tally
    unfolding Rests
    taking_on free w keeps =
        let fine = tested_fine at next e in
        rw (fine.1, fine.2) (record { kept = keeps; rests = λ given. read_goes msg at tally refl inside given t fine.0 free w ∙ k.rests given })

    pub turn_taken : is_taken msg at t ≡ true → (f : Fault) → number_of f.refusal ≡ 14 → f.offset ≡ at → TakesUp msg (Err f)
    unfolding Rests
    turn_taken taken f n o given =
        let fine = tested_fine at next e in
        rw (n, o) (read_taken msg at tally refl inside given t fine.0 taken ∙ k.rests given)
