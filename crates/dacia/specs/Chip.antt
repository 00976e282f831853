-- The chip: two channels, and what each call answers and leaves.
use Rattle.std.specs.Prelude.{ℕ, Bool, Option, Ok, Err, Result}
use Rattle.terms.specs.declared.channel_id.ChannelId.{ChannelId}
use Rattle.terms.specs.declared.channels.Channels.{Channels}
use Rattle.terms.specs.Channels.{value_of, with_value}
use Rattle.terms.specs.declared.modem_line.ModemLine.{ModemLine}
use Rattle.terms.specs.declared.note.Reading.{Reading}
use Rattle.terms.specs.declared.note.WriteNote.{WriteNote}
use Rattle.terms.specs.declared.refusal.Refusal.{Refusal}
use Rattle.channel.specs.declared.channel.Channel.{Channel}
use Rattle.channel.specs.declared.channel.ChannelAnswer.{ChannelAnswer}
use Rattle.channel.specs.Channel.{powered_on, after_reset, modem_changed}
use Rattle.channel.specs.Calls.{read_answer, after_read, write_answer, after_write, cycled}
use Rattle.dacia.specs.declared.chip.PoweredChip.{PoweredChip}
use Rattle.dacia.specs.declared.chip.Chip.{Chip}
use Rattle.dacia.specs.declared.chip.Inputs.{Inputs}
use Rattle.dacia.specs.Access.{ReadAccess, WriteAccess, read_opened, write_opened}

abbrev pub channel_of : ChannelId → Chip → Channel
channel_of ch c = value_of ch c.channels

abbrev pub with_channel : ChannelId → Channel → Chip → Chip
with_channel ch x c = record c { channels = with_value ch c.channels x }

-- what the chip answers to a cycle, and the part of it that is a channel's
abbrev pub ChipAnswer : Type 0
ChipAnswer = Channels ChannelAnswer

abbrev pub answer_of : ChannelId → ChipAnswer → ChannelAnswer
answer_of ch a = value_of ch a

abbrev pub powered_chip : PoweredChip
powered_chip = record { channels = record { one = powered_on; two = powered_on } }

abbrev pub chip_reset : Chip → Chip
chip_reset c = record { channels = record { one = after_reset c.channels.one; two = after_reset c.channels.two } }

abbrev pub first_reset : PoweredChip → Chip
first_reset p = chip_reset (record { channels = p.channels })

-- a chip at power on that took one reset
abbrev pub newly_reset : Chip
newly_reset = first_reset powered_chip

-- an access works on its channel, when it is ended
abbrev pub read_ended : ReadAccess → Chip → Result Reading Refusal
read_ended a c = read_answer a.place.register (channel_of a.place.channel c)

abbrev pub after_read_ended : ReadAccess → Chip → Chip
after_read_ended a c = with_channel a.place.channel (after_read a.place.register (channel_of a.place.channel c)) c

abbrev pub write_ended : WriteAccess → Chip → Option WriteNote
write_ended a c = write_answer a.place.register (channel_of a.place.channel c)

abbrev pub after_write_ended : WriteAccess → ℕ → Chip → Chip
after_write_ended a b c = with_channel a.place.channel (after_write a.place.register b (channel_of a.place.channel c)) c

-- opened and ended with nothing between; a refused one leaves the chip as it was
abbrev pub read_of : Result ReadAccess Refusal → Chip → Result Reading Refusal
read_of (Ok a) c = read_ended a c
read_of (Err e) c = Err e

abbrev pub after_read_of : Result ReadAccess Refusal → Chip → Chip
after_read_of (Ok a) c = after_read_ended a c
after_read_of (Err e) c = c

abbrev pub write_of : Result WriteAccess Refusal → Chip → Result (Option WriteNote) Refusal
write_of (Ok a) c = Ok (write_ended a c)
write_of (Err e) c = Err e

abbrev pub after_write_of : Result WriteAccess Refusal → ℕ → Chip → Chip
after_write_of (Ok a) b c = after_write_ended a b c
after_write_of (Err e) b c = c

abbrev pub read_once : ℕ → Chip → Result Reading Refusal
read_once s c = read_of (read_opened s) c

abbrev pub after_read_once : ℕ → Chip → Chip
after_read_once s c = after_read_of (read_opened s) c

abbrev pub write_once : ℕ → Chip → Result (Option WriteNote) Refusal
write_once s c = write_of (write_opened s) c

abbrev pub after_write_once : ℕ → ℕ → Chip → Chip
after_write_once s b c = after_write_of (write_opened s) b c

abbrev pub modem_on : ChannelId → ModemLine → Bool → Chip → Chip
modem_on ch line l c = with_channel ch (modem_changed line l (channel_of ch c)) c

-- a cycle: each channel has its RxD, and both have RxC and TxC
abbrev pub chip_cycled : Inputs → Chip → ChipAnswer × Chip
chip_cycled i c =
    let one = cycled i.rxd.one i.marks c.channels.one in
    let two = cycled i.rxd.two i.marks c.channels.two in
    (record { one = one.0; two = two.0 }, record { channels = record { one = one.1; two = two.1 } })
