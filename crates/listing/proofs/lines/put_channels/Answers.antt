-- `listing::lines::put_channels`: the entries that are passed are those of `channels_of`, 32 at most.
-- Trusts: nothing.
use Rattle.std.proofs.Common.{◌≡◌, ℕ, take, ap}
use Rattle.table.specs.Table.{channels_of}
use Rattle.table.proofs.Laws.{length-channels_of_le}
use Rattle.listing.specs.Text.{channel_line}
use Rattle.listing.proofs.Lengths.{lined_listed}
use Rattle.listing.proofs.lines.put_channels.Goals as goal

pub returns-clause-text : goal.returns-clause-text
unfolding channels_of
returns-clause-text c =
    let same : take c.limited-n.result c.args.table.channels ≡ channels_of c.args.table = ap (λ (k : ℕ). take k c.args.table.channels) c.limited-n.ensures in
    lined_listed 19 32 channel_line same (length-channels_of_le c.args.table) c.put_each.ensures.text
