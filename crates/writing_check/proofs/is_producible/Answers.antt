-- `writing_check::is_producible` gives producible: false where a list or a timer fails, else what test 15 says.
-- Trusts: nothing.
use borrow.Author.Rules.{rules}
use mathlib.Core.Path.{ap}
use mathlib.Core.Bool.{not}
use Rattle.table.proofs.Laws.{length_mapped}
use Rattle.named.proofs.Sought.{in_words_only}
use Rattle.writing_check.proofs.Laws.{answers, producible_not, producible_as}
use Rattle.writing_check.proofs.is_producible.Goals as goal

-- a list or a timer fails
pub returns-then-not-fit : goal.returns-then-not-fit
returns-then-not-fit c =
    producible_not c.args.table (search (rules, length_mapped)) (search (rules, length_mapped)) (search (rules, length_mapped)) c.channels_fit.ensures c.classifiers_fit.ensures
    c.rules_fit.ensures (ap not c.if-not-fit.true)

pub returns : goal.returns
returns c =
    producible_as c.args.table (search (rules, length_mapped)) (search (rules, length_mapped)) (search (rules, length_mapped)) c.channels_fit.ensures c.classifiers_fit.ensures
    c.rules_fit.ensures (ap not c.if-not-fit.false) (answers _ _ _ (in_words_only _ _ c.lone_number.ensures) c.is_none.ensures)
