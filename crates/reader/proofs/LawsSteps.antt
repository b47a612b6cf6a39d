-- Laws of what the other private functions owe each other (specs/Steps.antt), over plain values.
--
--   reads-refused                a refusal of 6 to 14
--   reads-answered, reads-lone   what 15 leaves
-- Trusts: nothing.
use Prim.Native.Nat.{ℕ, ◌≤◌}
use mathlib.Core.Path.{◌≡◌, sym, ap, ◌∙◌}
use mathlib.Core.List.{List}
use borrow.Author.Tests.{le-ltb}
use lib.ListN.{length}
use Rattle.std.proofs.Common.{Ok, Err}
use Rattle.refusals.specs.Refusals.{number_of}
use Rattle.refusals.specs.declared.Fault.{Fault}
use Rattle.table.specs.declared.Table.{Table}
use Rattle.configurations.specs.Configurations.{configuration_at}
use Rattle.configurations.specs.declared.Configuration.{Configuration}
use Rattle.named.specs.Named.{Lone, Answered, At, lone_number}
use Rattle.reader.specs.Take.{with_configuration}
use Rattle.reader.specs.Read.{read_lone, read_table}
use Rattle.reader.specs.Steps.{handed, finished, read_all, TakesUp, ReadsAs}
use Rattle.reader.specs.declared.Taken.{Taken}

module _ (msg : List ℕ) (short : length msg ≤ 23952) where
  whole : (given : Table) → read_all given msg ≡ read_table given msg
  unfolding read_table read_all
  whole given = sym (simp (le-ltb 23952 (length msg) short))

  pub reads-refused : (fault : Fault) → TakesUp msg (Err fault) → ReadsAs msg (Err fault)
  reads-refused fault k given = k given ∙ whole given

  module _ (s : Taken) (k : TakesUp msg (Ok s)) {q : Configuration} (h : q ≡ configuration_at msg s.configured)
      {l : Lone} (f : l ≡ lone_number msg (with_configuration q s.table)) where
    pub reads-answered : l ≡ Answered → ReadsAs msg (Ok (with_configuration q s.table))
    reads-answered e given = rw h (ap (read_lone given (finished msg s)) (sym e ∙ (rw h at f)) ∙ k given ∙ whole given)

    pub reads-lone : (fault : Fault) → number_of fault.refusal ≡ 15 → l ≡ At fault.offset → ReadsAs msg (Err fault)
    reads-lone fault n e given = rw n (ap (read_lone given (finished msg s)) (sym e ∙ (rw h at f)) ∙ k given ∙ whole given)
