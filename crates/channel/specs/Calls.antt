-- The calls on a channel: what each answers, and the channel after it.
use Rattle.std.specs.Prelude.{ℕ, Bool, cond, Some, None, Option, Ok, Err, Result}
use Rattle.terms.specs.declared.refusal.Refusal.{Refusal}
use Rattle.terms.specs.declared.refusal.Refusal.TheVariants.{NothingToRead}
use Rattle.terms.specs.declared.register.Register.{Register}
use Rattle.terms.specs.declared.register.Register.TheVariants.{Interrupt, Control, Auxiliary, Data}
use Rattle.terms.specs.declared.note.Reading.{Reading}
use Rattle.terms.specs.declared.note.WriteNote.{WriteNote}
use Rattle.terms.specs.declared.report.Report.{Report}
use Rattle.channel.specs.declared.channel.Channel.{Channel}
use Rattle.channel.specs.declared.channel.Marks.{Marks}
use Rattle.channel.specs.declared.channel.ChannelAnswer.{ChannelAnswer}
use Rattle.channel.specs.Interrupts.{ier_written}
use Rattle.channel.specs.Sender.{tdr_note}
use Rattle.channel.specs.Receiving.{reading}
use Rattle.channel.specs.Channel.{isr_of, csr_of, txd_of, irq_of, isr_read, rdr_read, with_interrupts, control_written, auxiliary_written, tdr_written, clocked, heard_on, sent_on}

-- a byte with no note
abbrev pub plainly : ℕ → Result Reading Refusal
plainly b = Ok (record { byte = b; note = None })

-- a read: ISR, CSR, nothing, RDR
abbrev pub read_answer : Register → Channel → Result Reading Refusal
read_answer Interrupt c = plainly (isr_of c)
read_answer Control c = plainly (csr_of c)
read_answer Auxiliary c = Err NothingToRead
read_answer Data c = Ok (reading c.receiving)

abbrev pub after_read : Register → Channel → Channel
after_read Interrupt c = isr_read c
after_read Control c = c
after_read Auxiliary c = c
after_read Data c = rdr_read c

-- a write: IER, CR or FR, CDR or ACR, TDR; only the last has a note
abbrev pub write_answer : Register → Channel → Option WriteNote
write_answer Interrupt c = None
write_answer Control c = None
write_answer Auxiliary c = None
write_answer Data c = Some (tdr_note c.sender)

abbrev pub after_write : Register → ℕ → Channel → Channel
after_write Interrupt b c = with_interrupts (ier_written b c.interrupts) c
after_write Control b c = control_written b c
after_write Auxiliary b c = auxiliary_written b c
after_write Data b c = tdr_written b c

-- the receiver ticks, or not; then the transmitter, or not
abbrev pub heard_if : Bool → Bool → Channel → Option Report × Channel
heard_if ticks l c = cond ticks (heard_on l c) (None, c)

abbrev pub sent_if : Bool → Channel → Channel
sent_if ticks c = cond ticks (sent_on c) c

-- the levels as the cycle leaves them, and the report, if a frame ended
abbrev pub answering : Option Report → Channel → ChannelAnswer × Channel
answering r c = (record { txd = txd_of c; irq = irq_of c; report = r }, c)

-- a cycle: the count, then the receiver, then the transmitter
abbrev pub cycled : Bool → Marks → Channel → ChannelAnswer × Channel
cycled rxd m c =
    let t = clocked m c in
    let h = heard_if t.0.rxc rxd t.1 in
    answering h.0 (sent_if t.0.txc h.1)
