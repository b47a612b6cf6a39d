-- Rows: an element with all that stands in it, and a row of elements (document 01, "Elements" and the order of the tests).
--
--   row_step rows ..                      THE RULE: a row, by its first element and what is left of it
--   row_of msg parent own at end counts   the first refusal in the row `parent`, whose own type byte is at `own`, from `at` to `end`
--   element_of msg parent at len counts   the same of the element at `at` in that row, with a value of len bytes, and its count
--   tested_at msg at t                    the same of the top-level element at `at`, tests 6 to 8 first, and the place after it
--
-- That row_of is the rule over itself, however its steps are counted, is the law row-rule (proofs/Rule.antt).
-- Not here: 14, 15, and what a row's elements leave in the table. Tested by: proofs/Bench.antt. Trusts: nothing.
use Rattle.std.specs.Prelude.{ℕ, zero, suc, ◌+◌, ◌-◌, cond, not, List, length, get_or, set, eqb}
use Rattle.elements.specs.Elements.{Head, End, Refused, Value, head_at}
use Rattle.types.specs.Places.{type_under}
use Rattle.element_tests.specs.Tests.{Step, stepped, own_tests}
use Rattle.rows.specs.Tests.{Fault, is_row, row_end, none_counted}
use Rattle.rows.specs.declared.Tally.{Tally}

-- An element. A type not listed in the row is skipped; a listed one has its own tests, and then, where its value is a row, that
-- row is read: `inside k` reads the value as the row of the type at place k.
unfoldable pub element_with : (ℕ → Fault) → List ℕ → ℕ → ℕ → ℕ → List ℕ → Step
element_with inside msg parent at len counts =
    let known = type_under parent (get_or msg at 0) in
    let count = get_or counts known.list 0 in
    let own = own_tests msg known at len count in
    let inner = inside known.place in
    cond (eqb known.place 26) (stepped 0 at 8 0)
    (cond (not (eqb own.bad 0)) own
    (cond (not (is_row known.length)) own
    (cond (not (eqb inner.bad 0)) (stepped inner.bad inner.off known.list count)
    own)))

-- the counts after an element; there is no list 8, so that an element that is not counted leaves them
abbrev pub noted : List ℕ → Step → List ℕ
noted counts s = set counts s.list s.count

-- a refused element refuses its row; else the row goes on with the counts after it
abbrev pub go_on : Step → (Step → Fault) → Fault
go_on s rest = cond (not (eqb s.bad 0)) (record { bad = s.bad; off = s.off }) (rest s)

abbrev pub on_head : Head → Fault → ℕ → (ℕ → Fault) → Fault
on_head End ended at go = ended
on_head (Refused n) ended at go = record { bad = n; off = at }
on_head (Value len) ended at go = go len

-- THE RULE. At the end of the row test 13; else tests 6 to 8, the element, and the row from the next element on. `rows` reads the
-- shorter rows: the one inside the element, which begins with nothing counted, and the rest of this one.
unfoldable pub row_step : (ℕ → ℕ → ℕ → ℕ → List ℕ → Fault) → List ℕ → ℕ → ℕ → ℕ → ℕ → List ℕ → Fault
row_step rows msg parent own at end counts =
    on_head (head_at msg at end) (row_end parent own counts) at
    (λ len. go_on (element_with (λ k. rows k at (at + 2) (at + 2 + len) none_counted) msg parent at len counts) (λ s. rows parent own (at + 2 + len) end (noted counts s)))

-- the rule, as often as there are bytes left
unfoldable pub row_from : ℕ → List ℕ → ℕ → ℕ → ℕ → ℕ → List ℕ → Fault
row_from zero msg parent own at end counts = row_end parent own counts
row_from (suc fuel) msg parent own at end counts =
    row_step (λ k o a e u. row_from fuel msg k o a e u) msg parent own at end counts

unfoldable pub row_of : List ℕ → ℕ → ℕ → ℕ → ℕ → List ℕ → Fault
row_of msg parent own at end counts = row_from (end - at) msg parent own at end counts

unfoldable pub element_of : List ℕ → ℕ → ℕ → ℕ → List ℕ → Step
element_of msg parent at len counts =
    element_with (λ k. row_of msg k at (at + 2) (at + 2 + len) none_counted) msg parent at len counts

-- what a top-level element comes to: a refusal number, or 0; where; and the place and the tally after it
pub record Tested : Type 0 where
  pub bad : ℕ
  pub off : ℕ
  pub next : ℕ
  pub tally : Tally

abbrev pub tested : Head → ℕ → Tally → (ℕ → Step) → Tested
tested End at t step = record { bad = 0; off = at; next = at; tally = t }
tested (Refused n) at t step = record { bad = n; off = at; next = at; tally = t }
tested (Value len) at t step =
    record { bad = (step len).bad; off = (step len).off; next = at + 2 + len; tally = record { counts = noted t.counts (step len) } }

unfoldable pub tested_at : List ℕ → ℕ → Tally → Tested
tested_at msg at t = tested (head_at msg at (length msg)) at t (λ len. element_of msg 26 at len t.counts)
