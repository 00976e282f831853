-- The receiving side: RDR, its flags, and the receiver.
use Rattle.std.specs.Prelude.{ℕ, Bool, true, false, cond, not, Some, None, Option, ◌==◌}
use Rattle.serial.specs.declared.format.Format.{Format}
use Rattle.serial.specs.declared.receiver.Received.{Received}
use Rattle.serial.specs.declared.receiver.Receiver.{Receiver}
use Rattle.serial.specs.Receiver.{heard}
use Rattle.terms.specs.declared.note.ReadNote.TheVariants.{Fresh, Old}
use Rattle.terms.specs.declared.note.Reading.{Reading}
use Rattle.terms.specs.declared.report.Report.{Report}
use Rattle.terms.specs.declared.report.ReportKind.{ReportKind}
use Rattle.terms.specs.declared.report.ReportKind.TheVariants.{Break, Passed, Lost, Kept}
use Rattle.channel.specs.declared.receiving.Errors.{Errors}
use Rattle.channel.specs.declared.receiving.Receiving.{Receiving}

abbrev pub no_errors : Errors
no_errors = record { par = false; fe = false; ovr = false; brk = false }

abbrev pub with_errors : Errors → Receiving → Receiving
with_errors e r = record r { errors = e }

abbrev pub with_asleep : Bool → Receiving → Receiving
with_asleep a r = record r { asleep = a }

abbrev pub with_receiver : Receiver → Receiving → Receiving
with_receiver v r = record r { receiver = v }

-- what a read of RDR answers: fresh if RDRF was set
abbrev pub reading : Receiving → Reading
reading r = record { byte = r.rdr; note = Some (cond r.rdrf Fresh Old) }

-- and it clears RDRF, PAR, FE, OVR and BRK
abbrev pub emptied : Receiving → Receiving
emptied r = record r { rdrf = false; errors = no_errors }

abbrev pub report : ReportKind → ℕ → Report
report k w = record { kind = k; word = w }

abbrev pub reported : ReportKind → ℕ → Option Report
reported k w = Some (report k w)

-- all bits were low: BRK
abbrev pub broke : Receiving → Option Report × Receiving
broke r = (reported Break 0, with_errors (record r.errors { brk = true }) r)

-- asleep: it wakes if the data equal CDR
abbrev pub passed_by : ℕ → ℕ → Receiving → Option Report × Receiving
passed_by w cdr r = (reported Passed w, with_asleep (not (w == cdr)) r)

-- RDRF was set: OVR, and RDR keeps its word
abbrev pub overrun : ℕ → Receiving → Option Report × Receiving
overrun w r = (reported Lost w, with_errors (record r.errors { ovr = true }) r)

-- PAR tells a wrong parity bit, or with ACR bit 0 set it is the parity bit
abbrev pub par_flag : Bool → Received → Bool
par_flag shown f = cond shown f.parity f.wrong

-- RDR takes the data, RDRF is set, FE tells a low stop bit, PAR the parity
abbrev pub kept : Received → Bool → Receiving → Option Report × Receiving
kept f shown r = (
  reported Kept f.word,
  record r { rdr = f.word; rdrf = true; errors = record r.errors { par = par_flag shown f; fe = not f.stop } },
)

-- the end of a frame: the first rule that applies
abbrev pub ending : Received → ℕ → Bool → Receiving → Option Report × Receiving
ending f cdr shown r = cond f.low (broke r) (cond r.asleep (passed_by f.word cdr r) (cond r.rdrf (overrun f.word r) (kept f shown r)))

abbrev pub perhaps_ending : Option Received → ℕ → Bool → Receiving → Option Report × Receiving
perhaps_ending None cdr shown r = (None, r)
perhaps_ending (Some f) cdr shown r = ending f cdr shown r

-- one tick, with the format now set, CDR, ACR bit 0 and the level of RxD
abbrev pub heard_by : Format → ℕ → Bool → Bool → Receiving → Option Report × Receiving
heard_by x cdr shown l r = let t = heard x l r.receiver in perhaps_ending t.0 cdr shown (with_receiver t.1 r)
