-- A value for each channel: that of one of them, and what becomes of both where it is lent.
use Rattle.std.specs.Borrow.{Lends, MutBor, Fml, RattleType}
use Rattle.terms.specs.declared.channel_id.ChannelId.{ChannelId}
use Rattle.terms.specs.declared.channel_id.ChannelId.TheVariants.{One, Two}
use Rattle.terms.specs.declared.channels.Channels.{Channels}
use Rattle.terms.specs.contracts.channels.Channels.{the_row}

abbrev pub value_of : {T : Type 0} → ChannelId → Channels T → T
value_of One c = c.one
value_of Two c = c.two

abbrev pub with_value : {T : Type 0} → ChannelId → Channels T → T → Channels T
with_value One c x = record c { one = x }
with_value Two c x = record c { two = x }

-- c ends with the value of the channel ch as it is left behind r
abbrev pub lends_value : (T : RattleType) → MutBor (Channels T.Denot) → ChannelId → MutBor T.Denot → Fml
lends_value T c ch r = Lends (the_row T) T c r (with_value ch c.now)
