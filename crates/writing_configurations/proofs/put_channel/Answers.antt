-- `writing_configurations::put_channel` writes `channel_bytes`.
-- Trusts: nothing.
use Rattle.writing_configurations.proofs.Children.{channel-lined}
use Rattle.writing_configurations.proofs.put_channel.Goals as goal

pub returns : goal.returns
returns c = channel-lined c.args.hertz c.requires c.put_number.ensures
