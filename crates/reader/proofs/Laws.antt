-- Laws of read_table (specs/Read.antt): what a caller learns of any reading.
--
--   read_table-empty       the empty message: accepted, the empty table
--   read_table-refused     a refusal: the table is the given one; it is 3 at 0, or one of 6 to 15 at a byte of the message
--   read_table-accepted    accepted: at most 23,952 bytes, and the table is table_of, sound, with every 50.6 answered (answered-all, of named)
--   read_table-verdict     the verdict does not depend on the given table
--   read_table-table       nor does an accepted table
-- Trusts: nothing.
use Prim.Native.Nat.{ℕ, ◌-◌, ◌≤◌, ◌<◌}
use mathlib.Core.Path.{◌≡◌, refl, sym, ◌∙◌}
use mathlib.Core.Bool.{Bool, true, false, cond, not}
use mathlib.Core.List.{List, [], ◌∷◌}
use mathlib.Core.Logic.{◌⊎◌, inl, inr}
use native.Mathlib.Omega.{arith}
use borrow.Author.Tests.{eqb-false, ltb-false}
use lib.ListN.{length}
use lib.Dec.{eqb, ltb}
use Rattle.table.specs.Table.{rules_of, empty_table}
use Rattle.table.specs.declared.Table.{Table}
use Rattle.children.specs.Rows.{Row, done, bad, item, row_from, row_in, row_fold}
use Rattle.rows.specs.Tests.{empty_tally}
use Rattle.rows.specs.Rows.{tested_at}
use Rattle.rows.specs.declared.Tally.{Tally}
use Rattle.rows.specs.Rows.{Tested}
use Rattle.rows.proofs.Laws.{tested_at-placed}
use Rattle.named.specs.Named.{Nothing, Lone, Answered, At, unanswered, lone_number}
use Rattle.named.proofs.Laws.{Within, from_within, lone_number-answered, lone_number_within}
use Rattle.reader.specs.Take.{with_element, table_of, is_taken}
use Rattle.reader.specs.Read.{refusal, read_lone, read_row, read_table}
use Rattle.reader.specs.Read.{Reading}
use Rattle.reader.specs.Read.{Verdict}
use Rattle.reader.specs.Read.{Accepted, Refused as Refuses}
use Rattle.reader.proofs.Sound.{Sound, sound_empty, sound_element}

-- ---- what a verdict says

abbrev step : List ℕ → ℕ → ℕ → Table → Table
step msg at len t = with_element msg at t

-- of an accepted reading, and of a refused one; `all` is the table that the elements leave
abbrev Says : List ℕ → Table → Table → Verdict → Table → Type 0
Says msg given all Accepted t = (t ≡ all) × Sound t × (unanswered t ≡ Nothing)
Says msg given all (Refuses n off) t = (t ≡ given) × (6 ≤ n) × (n ≤ 15) × (off < length msg)

module _ (given : Table) (msg : List ℕ) (some : 0 < length msg) where
  row_says : (row : Row) → Within msg row → (tally : Tally) (t : Table) → Sound t
      → Says msg given (row_fold (step msg) row t) (read_row given msg row tally t).verdict (read_row given msg row tally t).table
  row_says done w tally t s = on (lone_number msg t) refl
    where
      on : (l : Lone) → lone_number msg t ≡ l → Says msg given t (read_lone given t l).verdict (read_lone given t l).table
      on Answered e = (refl, s, lone_number-answered msg t e)
      on (At off) e = (refl, omega arith, omega arith, lone_number_within msg some t e)
  row_says (bad at n) w tally t s = (refl, w.0, omega (arith, w.1), w.2)
  row_says (item at len rest) w tally t s =
      on (eqb u.bad 0) (is_taken msg at t) refl refl (λ free. row_says rest w.1 u.tally (with_element msg at t) (sound_element s msg at free))
    where
      u : Tested
      u = tested_at msg at tally

      R : Reading
      R = read_row given msg rest u.tally (with_element msg at t)

      A : Table
      A = row_fold (step msg) rest (with_element msg at t)

      on : (a b : Bool) → eqb u.bad 0 ≡ a → is_taken msg at t ≡ b → (is_taken msg at t ≡ false → Says msg given A R.verdict R.table)
          → (let r = cond (not a) (refusal u.bad u.off given) (cond b (refusal 14 at given) R) in Says msg given A r.verdict r.table)
      on false b e f go = let p = tested_at-placed msg at tally (eqb-false _ _ e) in (refl, p.0, omega (arith, p.1), p.2)
      on true true e f go = (refl, omega arith, omega arith, w.0)
      on true false e f go = go f

pub read_table-empty : (given : Table) → read_table given [] ≡ record { verdict = Accepted; table = empty_table }
unfolding read_table row_in row_from lone_number unanswered rules_of
read_table-empty given = refl

-- the same of the whole message: 3, the empty message, and the others
abbrev pub SaysAll : List ℕ → Table → Verdict → Table → Type 0
SaysAll msg given Accepted t = (length msg ≤ 23952) × (t ≡ table_of msg) × Sound t × (unanswered t ≡ Nothing)
SaysAll msg given (Refuses n off) t = (t ≡ given) × (((n ≡ 3) × (off ≡ 0)) ⊎ ((6 ≤ n) × (n ≤ 15) × (off < length msg)))

said : (given : Table) (msg : List ℕ) (all : Table) (v : Verdict) (t : Table) → all ≡ table_of msg → length msg ≤ 23952 → Says msg given all v t → SaysAll msg given v t
said given msg all Accepted t e h x = (h, x.0 ∙ e, x.1, x.2)
said given msg all (Refuses n off) t e h x = (x.0, inr (x.1, x.2, x.3))

pub read_table_says : (given : Table) (msg : List ℕ) → SaysAll msg given (read_table given msg).verdict (read_table given msg).table
unfolding read_table table_of row_in row_from lone_number unanswered rules_of
read_table_says given [] = (omega arith, refl, sound_empty, refl)
read_table_says given (x ∷ xs) = on (ltb 23952 (length (x ∷ xs))) refl
  where
    on : (b : Bool) → ltb 23952 (length (x ∷ xs)) ≡ b
        → (let r = cond b (refusal 3 0 given) (read_row given (x ∷ xs) (row_in (x ∷ xs) 0 (length (x ∷ xs))) empty_tally empty_table) in SaysAll (x ∷ xs) given r.verdict r.table)
    on true e = (refl, inl (refl, refl))
    on false e =
        let row = row_in (x ∷ xs) 0 (length (x ∷ xs)) in
        let r = read_row given (x ∷ xs) row empty_tally empty_table in
        said given (x ∷ xs) (row_fold (step (x ∷ xs)) row empty_table) r.verdict r.table refl (ltb-false _ _ e)
        (row_says given (x ∷ xs) (omega arith) (row_in (x ∷ xs) 0 (length (x ∷ xs))) (from_within (length (x ∷ xs) - 0) (x ∷ xs) 0 (length (x ∷ xs))) empty_tally empty_table sound_empty)

module _ (given : Table) (msg : List ℕ) where
  pub read_table-refused : {n off : ℕ} → (read_table given msg).verdict ≡ Refuses n off
      → ((read_table given msg).table ≡ given) × (((n ≡ 3) × (off ≡ 0)) ⊎ ((6 ≤ n) × (n ≤ 15) × (off < length msg)))
  read_table-refused e = rw e at (read_table_says given msg)

  pub read_table-accepted : (read_table given msg).verdict ≡ Accepted
      → (length msg ≤ 23952) × ((read_table given msg).table ≡ table_of msg) × Sound (read_table given msg).table × (unanswered (read_table given msg).table ≡ Nothing)
  read_table-accepted e = rw e at (read_table_says given msg)

-- ---- the given table

module _ (g h : Table) (msg : List ℕ) where
  row-verdict : (row : Row) (tally : Tally) (t : Table) → (read_row g msg row tally t).verdict ≡ (read_row h msg row tally t).verdict
  row-verdict done tally t = on (lone_number msg t)
    where
      on : (l : Lone) → (read_lone g t l).verdict ≡ (read_lone h t l).verdict
      on Answered = refl
      on (At off) = refl
  row-verdict (bad at n) tally t = refl
  row-verdict (item at len rest) tally t =
      on (eqb (tested_at msg at tally).bad 0) (is_taken msg at t) (row-verdict rest (tested_at msg at tally).tally (with_element msg at t))
    where
      u : Tested
      u = tested_at msg at tally

      on : (a b : Bool) → (read_row g msg rest u.tally (with_element msg at t)).verdict ≡ (read_row h msg rest u.tally (with_element msg at t)).verdict
          → (cond (not a) (refusal u.bad u.off g) (cond b (refusal 14 at g) (read_row g msg rest u.tally (with_element msg at t)))).verdict
          ≡ (cond (not a) (refusal u.bad u.off h) (cond b (refusal 14 at h) (read_row h msg rest u.tally (with_element msg at t)))).verdict
      on false b e = refl
      on true true e = refl
      on true false e = e

  pub read_table-verdict : (read_table g msg).verdict ≡ (read_table h msg).verdict
  unfolding read_table
  read_table-verdict = on (ltb 23952 (length msg))
    where
      on : (b : Bool) → (cond b (refusal 3 0 g) (read_row g msg (row_in msg 0 (length msg)) empty_tally empty_table)).verdict
          ≡ (cond b (refusal 3 0 h) (read_row h msg (row_in msg 0 (length msg)) empty_tally empty_table)).verdict
      on true = refl
      on false = row-verdict (row_in msg 0 (length msg)) empty_tally empty_table

  pub read_table-table : (read_table g msg).verdict ≡ Accepted → (read_table g msg).table ≡ (read_table h msg).table
  read_table-table e = (read_table-accepted g msg e).1 ∙ sym (read_table-accepted h msg (sym read_table-verdict ∙ e)).1
