-- One channel: its registers and what each action makes of it.
use Rattle.std.specs.Prelude.{ℕ, ◌+◌, ◌%◌, Bool, true, false, cond, not, ◌&&◌, ◌||◌, Some, None, Option, ◌==◌, bit_or, nat_lt}
use Rattle.serial.specs.declared.format.Format.{Format}
use Rattle.serial.specs.declared.receiver.Receiver.TheVariants.{Hunting}
use Rattle.serial.specs.declared.transmitter.Transmitter.TheVariants.{Resting}
use Rattle.serial.specs.Frame.{bit}
use Rattle.serial.specs.Transmitter.{level, resting}
use Rattle.terms.specs.declared.modem_line.ModemLine.{ModemLine}
use Rattle.terms.specs.declared.report.Report.{Report}
use Rattle.channel.specs.declared.control.Control.{Control}
use Rattle.channel.specs.declared.modem.ModemInput.{ModemInput}
use Rattle.channel.specs.declared.modem.Modem.{Modem}
use Rattle.channel.specs.declared.interrupts.Interrupts.{Interrupts}
use Rattle.channel.specs.declared.sender.Sender.{Sender}
use Rattle.channel.specs.declared.receiving.Receiving.{Receiving}
use Rattle.channel.specs.declared.channel.Channel.{Channel}
use Rattle.channel.specs.declared.channel.Marks.{Marks}
use Rattle.channel.specs.Bits.{byte_of}
use Rattle.channel.specs.Control.{rate_code, divisor, format_of}
use Rattle.channel.specs.Modem.{modem_set, seen}
use Rattle.channel.specs.Interrupts.{followed, dropped}
use Rattle.channel.specs.Sender.{is_empty, filled, sent}
use Rattle.channel.specs.Receiving.{no_errors, emptied, heard_by}

-- one part of a channel changed
abbrev pub with_control : Control → Channel → Channel
with_control k c = record c { control = k }

abbrev pub with_modem : Modem → Channel → Channel
with_modem m c = record c { modem = m }

abbrev pub with_interrupts : Interrupts → Channel → Channel
with_interrupts i c = record c { interrupts = i }

abbrev pub with_sender : Sender → Channel → Channel
with_sender s c = record c { sender = s }

abbrev pub with_receiving : Receiving → Channel → Channel
with_receiving r c = record c { receiving = r }

abbrev pub with_count : ℕ → Channel → Channel
with_count n c = record c { count = n }

-- at power on everything is 0, except that RDRF is set; TDR is empty, the transmitter rests, the receiver hunts awake
abbrev pub powered_on : Channel
powered_on = record {
  control = record { cr = 0; fr = 0; cdr = 0; acr = 0 };
  modem = let low : ModemInput = record { level = false; changed = false } in record { cts = low; dcd = low; dsr = low };
  interrupts = record { enabled = 0; requests = 0 };
  sender = record { tdr = None; transmitter = Resting };
  receiving = record { rdr = 0; rdrf = true; errors = no_errors; asleep = false; receiver = Hunting };
  count = 0;
}

-- reset clears IER, RDR, ACR, the marks of modem changes, PAR, FE, OVR, BRK and all requests, wakes the receiver and sets FR bits 1 and 0
abbrev pub after_reset : Channel → Channel
after_reset c = record c {
  control = record c.control { fr = bit_or c.control.fr 3; acr = 0 };
  modem = seen c.modem;
  interrupts = record { enabled = 0; requests = 0 };
  receiving = record c.receiving { rdr = 0; errors = no_errors; asleep = false };
}

-- TDR is empty and CTS is low
abbrev pub tdre : Channel → Bool
tdre c = is_empty c.sender.tdr && not c.modem.cts.level

-- FE, BRK or OVR
abbrev pub fob : Channel → Bool
fob c = let e = c.receiving.errors in e.fe || (e.brk || e.ovr)

-- the interrupt sources in bits 6-0, below a bit 7
abbrev pub flags : Bool → Channel → ℕ
flags top c = byte_of top (tdre c) c.modem.cts.changed c.modem.dcd.changed c.modem.dsr.changed c.receiving.errors.par (fob c) c.receiving.rdrf

-- "any": a source is set, or CTS is high and CR bit 4 clear
abbrev pub any_set : Channel → Bool
any_set c = not (flags false c == 0) || (c.modem.cts.level && not (bit c.control.cr 4))

abbrev pub isr_of : Channel → ℕ
isr_of c = flags (any_set c) c

abbrev pub csr_of : Channel → ℕ
csr_of c =
    byte_of c.receiving.errors.fe (tdre c && resting c.sender.transmitter) c.modem.cts.level c.modem.dcd.level c.modem.dsr.level
    c.receiving.errors.brk (bit c.control.fr 1) (bit c.control.fr 0)

abbrev pub txd_of : Channel → Bool
txd_of c = level c.sender.transmitter

-- low while there is a request
abbrev pub irq_of : Channel → Bool
irq_of c = c.interrupts.requests == 0

-- the sources whose request a rising bit raises: all in a tick of the transmitter, in which TDRE rises as a word is taken, elsewhere all but TDRE
abbrev pub all_sources : ℕ
all_sources = 0x7f

abbrev pub all_but_tdre : ℕ
all_but_tdre = 0x3f

-- the requests follow the sources from c to d
abbrev pub following : ℕ → Channel → Channel → Channel
following may c d = with_interrupts (followed may (flags false c) (flags false d) d.interrupts) d

-- reading ISR clears the marks of modem changes and drops all requests
abbrev pub isr_read : Channel → Channel
isr_read c = with_interrupts (dropped c.interrupts) (with_modem (seen c.modem) c)

-- reading RDR clears RDRF, PAR, FE, OVR and BRK
abbrev pub rdr_read : Channel → Channel
rdr_read c = following all_but_tdre c (with_receiving (emptied c.receiving) c)

-- writing CR: another rate code starts the count at 0
abbrev pub cr_written : ℕ → Channel → Channel
cr_written b c =
    with_count (cond (rate_code b == rate_code c.control.cr) c.count 0) (with_control (record c.control { cr = b }) c)

abbrev pub fr_written : ℕ → Channel → Channel
fr_written b c = with_control (record c.control { fr = b }) c

-- bit 7 clear: CR; set: FR
abbrev pub control_written : ℕ → Channel → Channel
control_written b c = cond (bit b 7) (fr_written b c) (cr_written b c)

abbrev pub acr_written : ℕ → Channel → Channel
acr_written b c = with_control (record c.control { acr = b % 4 }) c

-- asleep, and RDRF clear
abbrev pub asleep_now : Receiving → Receiving
asleep_now r = record r { rdrf = false; asleep = true }

-- writing CDR puts the receiver to sleep and clears RDRF
abbrev pub cdr_written : ℕ → Channel → Channel
cdr_written b c =
    following all_but_tdre c (with_receiving (asleep_now c.receiving) (with_control (record c.control { cdr = b }) c))

-- CR bit 6 clear: CDR; set: ACR
abbrev pub auxiliary_written : ℕ → Channel → Channel
auxiliary_written b c = cond (bit c.control.cr 6) (acr_written b c) (cdr_written b c)

-- writing TDR fills it
abbrev pub tdr_written : ℕ → Channel → Channel
tdr_written b c = following all_but_tdre c (with_sender (filled b c.sender) c)

abbrev pub modem_changed : ModemLine → Bool → Channel → Channel
modem_changed line l c = following all_but_tdre c (with_modem (modem_set line l c.modem) c)

-- the format that a frame begins with
abbrev pub format : Channel → Format
format c = format_of c.control.cr c.control.fr

-- a tick of the receiver
abbrev pub heard_on : Bool → Channel → Option Report × Channel
heard_on l c =
    let t = heard_by (format c) c.control.cdr (bit c.control.acr 0) l c.receiving in
    (t.0, following all_but_tdre c (with_receiving t.1 c))

-- a tick of the transmitter
abbrev pub sent_on : Channel → Channel
sent_on c = following all_sources c (with_sender (sent (format c) (bit c.control.acr 1) c.modem.cts.level c.sender) c)

-- no part ticks
abbrev pub no_marks : Marks
no_marks = record { rxc = false; txc = false }

-- both parts tick as the count reaches the divisor, and it returns to 0
abbrev pub counting : ℕ → Channel → Marks × Channel
counting d c = cond (nat_lt (c.count + 1) d) (no_marks, with_count (c.count + 1) c) (record { rxc = true; txc = true }, with_count 0 c)

-- with rate code 15 the count rests, and the marks of the cycle decide
abbrev pub counting_by : Option ℕ → Marks → Channel → Marks × Channel
counting_by (Some d) m c = counting d c
counting_by None m c = (m, c)

abbrev pub clocked : Marks → Channel → Marks × Channel
clocked m c = counting_by (divisor (rate_code c.control.cr)) m c
