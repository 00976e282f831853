-- The number of each note.
use Rattle.std.specs.Prelude.{ℕ}
use Rattle.terms.specs.declared.note.ReadNote.{ReadNote}
use Rattle.terms.specs.declared.note.ReadNote.TheVariants.{Fresh, Old}
use Rattle.terms.specs.declared.note.WriteNote.{WriteNote}
use Rattle.terms.specs.declared.note.WriteNote.TheVariants.{Stored, Replaced}

abbrev pub read_note_number : ReadNote → ℕ
read_note_number Fresh = 1
read_note_number Old = 2

abbrev pub write_note_number : WriteNote → ℕ
write_note_number Stored = 1
write_note_number Replaced = 2
