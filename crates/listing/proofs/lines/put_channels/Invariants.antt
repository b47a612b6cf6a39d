-- `listing::lines::put_channels` has `put_each` write the text `channel_line` of each entry.
-- Trusts: nothing.
use Rattle.listing.specs.Text.{channel_line}
use Rattle.listing.proofs.lines.put_channels.Given as goal

abbrev pub ghost-put_each : goal.ghost-put_each
ghost-put_each a = channel_line
