-- `modem_record::suited_bit` gives a bit of the constant, and `suited` says which.
-- Trusts: nothing.
use borrow.Author.Rules.{rules}
use Rattle.modem_record.proofs.LawsIdle.{suited}
use Rattle.modem_record.proofs.suited_bit.Goals as goal

pub returns : goal.returns
returns c = suited c.args.state c.args.receiveon c.args.hasucid c.args.permission (search rules) (search rules) (search rules) (search rules)
