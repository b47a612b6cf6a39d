-- `modem_record::is_held_over` gives `is_held_over`: the mark is 0 or 1, so the product is 0 or what the timer shows.
-- Trusts: nothing.
use Rattle.modem_record.proofs.LawsIdle.{is_held_over-mark}
use Rattle.modem_record.proofs.is_held_over.Goals as goal

pub returns : goal.returns
returns c = rw c.from.ensures (is_held_over-mark c.args.on c.args.left c.requires)
