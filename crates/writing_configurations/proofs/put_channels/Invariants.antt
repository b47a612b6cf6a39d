-- `writing_configurations::put_channels` has `writing_numbers::put_each` write `channel_bytes` of each channel.
-- Trusts: nothing.
use Rattle.writing_elements.specs.Encode.{channel_bytes}
use Rattle.writing_configurations.proofs.put_channels.Given as goal

abbrev pub ghost-put_each : goal.ghost-put_each
ghost-put_each a = channel_bytes
