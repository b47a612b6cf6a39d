-- `reader::read_message`: 3; a refusal of 6 to 14 stands; else the configuration is put into the table, and test 15 gives the answer.
-- Trusts: nothing.
use mathlib.Core.Path.{refl, sym, ◌∙◌}
use borrow.Author.Tests.{lt-ltb}
use Rattle.std.proofs.lemmas.Result.{err_from_is_err_and}
use Rattle.refusals.specs.Refusals.{number_of}
use Rattle.refusals.specs.declared.Refusal.TheVariants.{Unanswered}
use Rattle.named.proofs.Sought.{in_words_only, sought_none, sought_some}
use Rattle.reader.specs.Read.{read_table}
use Rattle.reader.proofs.LawsSteps.{reads-refused, reads-answered, reads-lone}
use Rattle.reader.proofs.read_message.Goals as goal

pub returns-then-message-gt-MESSAGE_BYTES : goal.returns-then-message-gt-MESSAGE_BYTES
unfolding read_table number_of
returns-then-message-gt-MESSAGE_BYTES c = λ given. sym (simp (lt-ltb 23952 _ c.if-message-gt-MESSAGE_BYTES.true))

pub returns-in_err-taken : goal.returns-in_err-taken
returns-in_err-taken c =
    let p = err_from_is_err_and c.from_residual.result c.from_residual.ensures.1 in
    rw (p.1, p.2) (reads-refused _ c.if-message-gt-MESSAGE_BYTES.false _ c.in_err-taken.ensures)

pub returns-in-None : goal.returns-in-None
returns-in-None c =
    reads-answered _ c.if-message-gt-MESSAGE_BYTES.false c.in_ok-taken.taken c.in_ok-taken.ensures c.configuration_at-configuration.ensures (in_words_only _ _ c.lone_number.ensures) (sought_none c.in-None.is)

pub returns-in-Some : goal.returns-in-Some
unfolding number_of
returns-in-Some c =
    reads-lone _ c.if-message-gt-MESSAGE_BYTES.false c.in_ok-taken.taken c.in_ok-taken.ensures c.configuration_at-configuration.ensures (in_words_only _ _ c.lone_number.ensures)
    (record { refusal = Unanswered; offset = c.in-Some.offset }) refl (sought_some c.in-Some.is)
