-- The sending side: TDR and the transmitter.
use Rattle.std.specs.Prelude.{ℕ, Bool, true, false, cond, Some, None, Option}
use Rattle.serial.specs.declared.format.Format.{Format}
use Rattle.serial.specs.declared.transmitter.Transmitter.{Transmitter}
use Rattle.serial.specs.Transmitter.{ticked}
use Rattle.terms.specs.declared.note.WriteNote.{WriteNote}
use Rattle.terms.specs.declared.note.WriteNote.TheVariants.{Stored, Replaced}
use Rattle.channel.specs.declared.sender.Sender.{Sender}

abbrev pub is_empty : Option ℕ → Bool
is_empty None = true
is_empty (Some w) = false

-- the note of a write to TDR: it replaces a word that still stands there
abbrev pub tdr_note : Sender → WriteNote
tdr_note s = cond (is_empty s.tdr) Stored Replaced

-- and it fills TDR
abbrev pub filled : ℕ → Sender → Sender
filled w s = record { tdr = Some w; transmitter = s.transmitter }

-- TDR is empty once its word is taken
abbrev pub handed : Bool × Transmitter → Option ℕ → Sender
handed t tdr = record { tdr = cond t.0 None tdr; transmitter = t.1 }

-- one tick, with the format now set, whether a break is wanted, and the level of CTS
abbrev pub sent : Format → Bool → Bool → Sender → Sender
sent x wanted cts s = handed (ticked x wanted cts s.tdr s.transmitter) s.tdr
