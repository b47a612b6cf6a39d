-- `writing_configurations::put_channels` writes the channels, 32 at most.
-- Trusts: nothing.
use Rattle.std.proofs.Common.{refl}
use Rattle.writing_numbers.proofs.Within.{lined_listed}
use Rattle.writing_elements.specs.Encode.{channel_bytes}
use Rattle.writing_configurations.proofs.put_channels.Goals as goal

pub returns : goal.returns
returns c = lined_listed 6 32 channel_bytes refl c.requires.0 c.put_each.ensures
