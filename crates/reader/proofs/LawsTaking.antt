-- What the loop over the top-level elements keeps (specs/Steps.antt), over plain values.
--
--   Taking msg ids carried t at tally   the two lists, and that reading the rest of the message, from `at` on, is reading the whole of it
--   taking_empty                        before the first element                 takes_all    after the last
-- Trusts: nothing.
use Prim.Native.Nat.{ℕ, ◌≤◌}
use mathlib.Core.Path.{◌≡◌, refl, sym, ap, ◌∙◌}
use Rattle.std.proofs.Common.{Ok}
use mathlib.Core.List.{List}
use native.Mathlib.Omega.{arith}
use lib.ListN.{length, replicate}
use Rattle.table.specs.Table.{empty_table}
use Rattle.table.specs.declared.Table.{Table}
use Rattle.elements.proofs.Laws.{head_at-end}
use Rattle.children.specs.Rows.{row_in}
use Rattle.configurations.specs.Configurations.{empty_configuration, configuration_at}
use Rattle.children.proofs.Laws.{row_inside-done}
use Rattle.rows.specs.declared.Tally.{Tally}
use Rattle.rows.specs.Tests.{empty_tally}
use Rattle.reader.specs.Take.{with_configuration}
use Rattle.reader.specs.Read.{read_row}
use Rattle.reader.specs.Steps.{read_all, TakesUp}
use Rattle.reader.proofs.LawsRead.{read_ends}
use Rattle.reader.proofs.Kept.{Kept, kept_empty}

-- reading the rest of the message, with the tally and the table so far, is reading the whole of it
unfoldable pub Rests : List ℕ → ℕ → Tally → Table → Type 0
Rests msg at tally t = (given : Table) → read_row given msg (row_in msg at (length msg)) tally t ≡ read_all given msg

-- what the loop keeps: the lists, and that the rest of the message is the whole of it
pub record Taking (msg ruleids carried : List ℕ) (t : Table) (at : ℕ) (tally : Tally) : Type 0 where
  pub kept : Kept ruleids carried t
  pub rests : Rests msg at tally t

configuration_at-end : (msg : List ℕ) → configuration_at msg (length msg) ≡ empty_configuration
unfolding configuration_at
configuration_at-end msg =
    rw (row_inside-done msg (length msg) (sym ((head_at-end msg (length msg) (length msg) (omega arith)))) (λ len v. let z : ◌≡◌ {A = ℕ} 0 1 = cc in omega arith))

pub taking_empty : (msg : List ℕ) {t : Table} {tally : Tally} → t ≡ empty_table → tally ≡ empty_tally
    → Taking msg (replicate 32 0) (replicate 32 0) (with_configuration (configuration_at msg (length msg)) t) 0 tally
unfolding Rests read_all
taking_empty msg e f = rw (e, f, configuration_at-end msg) (record { kept = kept_empty; rests = λ given. refl })

pub takes_all : (msg : List ℕ) (t : Table) (configured : ℕ) {ids carried : List ℕ} {at : ℕ} {tally : Tally}
    → Taking msg ids carried (with_configuration (configuration_at msg configured) t) at tally → length msg ≤ at
    → TakesUp msg (Ok (record { configured = configured; table = t }))
unfolding Rests
takes_all msg t configured {ids} {carried} {at} {tally} k past given =
    read_ends msg at tally given (with_configuration (configuration_at msg configured) t) past ∙ k.rests given
