-- The number of each channel, and the other one.
use Rattle.std.specs.Prelude.{ℕ}
use Rattle.terms.specs.declared.channel_id.ChannelId.{ChannelId}
use Rattle.terms.specs.declared.channel_id.ChannelId.TheVariants.{One, Two}

abbrev pub channel_number : ChannelId → ℕ
channel_number One = 1
channel_number Two = 2

abbrev pub other : ChannelId → ChannelId
other One = Two
other Two = One
