-- Separation: what one channel answers and shows does not depend on what is done to the other.
use Rattle.std.specs.Prelude.{◌≡◌, ℕ, Bool, true, cond, ◌||◌, List, [], ◌∷◌, Option, Ok, Err, Result, ◌==◌, nat_lt}
use Rattle.terms.specs.declared.channel_id.ChannelId.{ChannelId}
use Rattle.terms.specs.declared.modem_line.ModemLine.{ModemLine}
use Rattle.terms.specs.declared.note.ReadNote.{ReadNote}
use Rattle.terms.specs.declared.note.Reading.{Reading}
use Rattle.terms.specs.declared.note.WriteNote.{WriteNote}
use Rattle.terms.specs.declared.refusal.Refusal.{Refusal}
use Rattle.terms.specs.declared.report.Report.{Report}
use Rattle.terms.specs.ChannelId.{channel_number, other}
use Rattle.terms.specs.Channels.{with_value}
use Rattle.terms.specs.Refusal.{refusal_number}
use Rattle.channel.specs.Channel.{txd_of, irq_of}
use Rattle.dacia.specs.declared.chip.Chip.{Chip}
use Rattle.dacia.specs.declared.chip.Inputs.{Inputs}
use Rattle.dacia.specs.Access.{channel_at}
use Rattle.dacia.specs.Chip.{channel_of, answer_of, chip_reset, read_once, after_read_once, write_once, after_write_once, modem_on, chip_cycled}

-- the calls on a running chip; an access is opened and ended with nothing between
pub data Call : Type 0 where
  reset : Call
  read : ℕ → Call
  write : ℕ → ℕ → Call
  modem : ChannelId → ModemLine → Bool → Call
  cycle : Inputs → Call

-- the chip after a call
unfoldable pub step : Call → Chip → Chip
step reset c = chip_reset c
step (read s) c = after_read_once s c
step (write s b) c = after_write_once s b c
step (modem ch line l) c = modem_on ch line l c
step (cycle i) c = (chip_cycled i c).1

-- what a call answers to a channel: nothing, a byte and its note if any, a note if any, a refusal's number, or a report if any
pub data Answer : Type 0 where
  silent : Answer
  byte : ℕ → Option ReadNote → Answer
  note : Option WriteNote → Answer
  refused : ℕ → Answer
  reports : Option Report → Answer

abbrev pub read_shown : Result Reading Refusal → Answer
read_shown (Ok r) = byte r.byte r.note
read_shown (Err e) = refused (refusal_number e)

abbrev pub write_shown : Result (Option WriteNote) Refusal → Answer
write_shown (Ok n) = note n
write_shown (Err e) = refused (refusal_number e)

unfoldable pub answer : ChannelId → Call → Chip → Answer
answer ch reset c = silent
answer ch (read s) c = read_shown (read_once s c)
answer ch (write s b) c = write_shown (write_once s c)
answer ch (modem e line l) c = silent
answer ch (cycle i) c = reports (answer_of ch (chip_cycled i c).0).report

-- what a channel shows of a call: the answer, and its levels after it
pub record Shown : Type 0 where
  pub answered : Answer
  pub txd : Bool
  pub irq : Bool

abbrev pub shown : ChannelId → Call → Chip → Shown
shown ch k c = let d = channel_of ch (step k c) in record { answered = answer ch k c; txd = txd_of d; irq = irq_of d }

-- whether two channels are the same
abbrev pub same : ChannelId → ChannelId → Bool
same ch e = channel_number ch == channel_number e

-- an access at a select belongs to a channel; one above 7 belongs to neither and stays
abbrev pub stays : ChannelId → ℕ → Bool
stays ch s = nat_lt 7 s || same ch (channel_at s)

-- whether a call is left when what belongs to the other channel is struck out
unfoldable pub concerns : ChannelId → Call → Bool
concerns ch reset = true
concerns ch (read s) = stays ch s
concerns ch (write s b) = stays ch s
concerns ch (modem e line l) = same ch e
concerns ch (cycle i) = true

-- the other channel's RxD struck out: any two levels there are alike
abbrev pub own_inputs : ChannelId → Inputs → Inputs
own_inputs ch i = record i { rxd = with_value (other ch) i.rxd true }

unfoldable pub own : ChannelId → Call → Call
own ch reset = reset
own ch (read s) = read s
own ch (write s b) = write s b
own ch (modem e line l) = modem e line l
own ch (cycle i) = cycle (own_inputs ch i)

-- a list of calls with the other channel's accesses, modem levels and RxD struck out
unfoldable pub struck : ChannelId → List Call → List Call
struck ch [] = []
struck ch (k ∷ ks) = let rest = struck ch ks in cond (concerns ch k) (own ch k ∷ rest) rest

-- all that a list of calls shows of a channel
unfoldable pub seen : ChannelId → List Call → Chip → List Shown
seen ch [] c = []
seen ch (k ∷ ks) c = let rest = seen ch ks (step k c) in cond (concerns ch k) (shown ch k c ∷ rest) rest

-- lists of calls that are alike for a channel show the same of it
abbrev pub Separated : Chip → Type 0
Separated c = (ch : ChannelId) (xs ys : List Call) → struck ch xs ≡ struck ch ys → seen ch xs c ≡ seen ch ys c
