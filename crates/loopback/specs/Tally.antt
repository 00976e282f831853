-- What a direction counts; a count stops at the greatest number of its type.
use Rattle.std.specs.Prelude.{ℕ, ◌+◌, ◌-◌, ◌^◌, min, Bool, cond, List, ◌++◌, Some, None, Option}
use Rattle.std.proofs.Math.Utf8.{encode}
use Rattle.terms.specs.declared.channel_id.ChannelId.{ChannelId}
use Rattle.terms.specs.declared.note.ReadNote.{ReadNote}
use Rattle.terms.specs.declared.note.ReadNote.TheVariants.{Fresh, Old}
use Rattle.terms.specs.declared.note.WriteNote.{WriteNote}
use Rattle.terms.specs.declared.note.WriteNote.TheVariants.{Stored, Replaced}
use Rattle.terms.specs.declared.report.ReportKind.{ReportKind}
use Rattle.terms.specs.declared.report.ReportKind.TheVariants.{Break, Passed, Lost, Kept}
use Rattle.dacia.specs.Separation.{same}
use Rattle.loopback.specs.declared.tally.Count.{Count}
use Rattle.loopback.specs.declared.tally.Counts.{Counts}

-- one more
abbrev pub more : Count → Count
more c = record { 0 = min (c.0 + 1) (2 ^ 32 - 1) }

abbrev pub zero : Count
zero = record { 0 = 0 }

abbrev pub no_counts : Counts
no_counts = record { written = zero; replaced = zero; kept = zero; lost = zero; read = zero }

-- only a write to TDR has a note
abbrev pub write_counted : Option WriteNote → Counts → Counts
write_counted None c = c
write_counted (Some Stored) c = record c { written = more c.written }
write_counted (Some Replaced) c = record c { written = more c.written; replaced = more c.replaced }

abbrev pub report_counted : ReportKind → Counts → Counts
report_counted Break c = c
report_counted Passed c = c
report_counted Lost c = record c { lost = more c.lost }
report_counted Kept c = record c { kept = more c.kept }

-- a report of the channel ch counts for the words to that channel
abbrev pub report_to : ChannelId → ChannelId → ReportKind → Counts → Counts
report_to to ch k c = cond (same to ch) (report_counted k c) c

-- only a read of a full RDR is fresh
abbrev pub read_counted : Option ReadNote → Counts → Counts
read_counted None c = c
read_counted (Some Fresh) c = record c { read = more c.read }
read_counted (Some Old) c = c

-- the text of the words read, where there was memory for one more
abbrev pub read_text : Option ReadNote → ℕ → Bool → List ℕ → List ℕ
read_text None w stored t = t
read_text (Some Fresh) w stored t = cond stored (t ++ encode w) t
read_text (Some Old) w stored t = t
