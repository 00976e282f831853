-- Delivery: the words written to one channel's TDR arrive at the other channel, in order and unaltered, and all of them in time.
-- The statement speaks only of calls and of what they answered.
use Rattle.std.specs.Prelude.{◌≡◌, ℕ, zero, suc, ◌+◌, ◌*◌, ◌≤◌, Bool, false, cond, ◌&&◌, List, [], ◌∷◌, ◌++◌, map, length, Some, None, Option, Ok, Err, Result, ◌==◌, slice_index}
use Rattle.terms.specs.declared.channel_id.ChannelId.{ChannelId}
use Rattle.terms.specs.declared.channel_id.ChannelId.TheVariants.{One, Two}
use Rattle.terms.specs.declared.modem_line.ModemLine.TheVariants.{Cts}
use Rattle.terms.specs.declared.note.Reading.{Reading}
use Rattle.terms.specs.declared.note.ReadNote.{ReadNote}
use Rattle.terms.specs.declared.note.ReadNote.TheVariants.{Fresh}
use Rattle.terms.specs.declared.note.WriteNote.{WriteNote}
use Rattle.terms.specs.declared.note.WriteNote.TheVariants.{Replaced}
use Rattle.terms.specs.declared.refusal.Refusal.{Refusal}
use Rattle.terms.specs.declared.register.Register.{Register}
use Rattle.terms.specs.declared.register.Register.TheVariants.{Interrupt, Control, Data}
use Rattle.terms.specs.declared.report.ReportKind.{ReportKind}
use Rattle.terms.specs.ModemLine.{modem_bit}
use Rattle.terms.specs.Note.{read_note_number, write_note_number}
-- the channel at the far end is the other one
use Rattle.terms.specs.ChannelId.{other as far}
use Rattle.serial.specs.declared.format.Format.{Format}
use Rattle.serial.specs.Format.{frame_bits, cut}
use Rattle.serial.specs.Frame.{bit}
use Rattle.channel.specs.Control.{rate_code, divisors, format_of}
use Rattle.dacia.specs.Access.{select_at}
use Rattle.dacia.specs.Chip.{answer_of, read_once}
use Rattle.dacia.specs.Separation.{same}
use Rattle.link.specs.Past.{Past, nothing_yet, arrived_of, kept_of, only, row_after, longest_after, past_cycle, past_write, past_read}
use Rattle.board.specs.declared.record.Record.{Record}
use Rattle.board.specs.Board.{State}
use Rattle.board.specs.Calls.{Call, Seen, did_read, did_enable, did_send, did_write_above, did_modem, did_cycle, did_sweep, did_refuse, Played, play, started}

-- the line that the words of a channel travel
abbrev pub line_of : ChannelId → State → List Bool
line_of One t = t.a
line_of Two t = t.b

-- the level of a channel's CTS, which is low at first
abbrev pub cts_after : ChannelId → Seen → Bool → Bool
cts_after ch (did_read s r) l = l
cts_after ch (did_enable e b n) l = l
cts_after ch (did_send e w n) l = l
cts_after ch (did_write_above s b n) l = l
cts_after ch (did_modem e line k) l = cond (same ch e && modem_bit line == modem_bit Cts) k l
cts_after ch (did_cycle a) l = l
cts_after ch (did_sweep k rs) l = l
cts_after ch (did_refuse n) l = l

abbrev pub cts_of : ChannelId → List Seen → Bool
cts_of ch [] = false
cts_of ch (e ∷ es) = cts_after ch e (cts_of ch es)

-- the words of the records of a channel, by the words that a report of each kind counts for
abbrev pub words_in : (ReportKind → ℕ → List ℕ) → ChannelId → List Record → List ℕ
words_in g ch [] = []
words_in g ch (r ∷ rs) = cond (same ch r.channel) (g r.kind r.word) [] ++ words_in g ch rs

-- the rows after k cycles with CTS at a level
abbrev pub row_over : Bool → ℕ → ℕ → ℕ
row_over cts zero row = row
row_over cts (suc k) row = row_after cts (row_over cts k row)

abbrev pub longest_over : Bool → ℕ → ℕ → ℕ → ℕ
longest_over cts zero row longest = longest
longest_over cts (suc k) row longest = longest_after cts (row_over cts k row) (longest_over cts k row longest)

-- a sweep of k cycles with its records
abbrev pub past_sweep : Bool → ChannelId → ℕ → List Record → Past → Past
past_sweep cts to k rs p = record p {
  arrived = p.arrived ++ words_in arrived_of to rs;
  kept = p.kept ++ words_in kept_of to rs;
  row = row_over cts k p.row;
  longest = longest_over cts k p.row p.longest;
}

-- the notes that tell of a fresh read, and of a word that was replaced
abbrev pub is_fresh : Option ReadNote → Bool
is_fresh None = false
is_fresh (Some n) = read_note_number n == read_note_number Fresh

abbrev pub is_replaced : Option WriteNote → Bool
is_replaced None = false
is_replaced (Some n) = write_note_number n == write_note_number Replaced

-- what a read, a write and a sweep add, by what they answered
abbrev pub past_reading : Result Reading Refusal → Past → Past
past_reading (Ok r) p = past_read (is_fresh r.note) r.byte p
past_reading (Err e) p = p

abbrev pub past_noted : Result (Option WriteNote) Refusal → ℕ → Past → Past
past_noted (Ok n) w p = past_write (is_replaced n) w p
past_noted (Err e) w p = p

-- what a call adds to the words from a channel, with the level of its CTS
abbrev pub past_after : ChannelId → Bool → Seen → Past → Past
past_after ch cts (did_read s r) p = cond (s == select_at (far ch) Data) (past_reading r p) p
past_after ch cts (did_enable e b n) p = p
past_after ch cts (did_send e w n) p = cond (same ch e) (past_noted n w p) p
past_after ch cts (did_write_above s b n) p = p
past_after ch cts (did_modem e line l) p = p
past_after ch cts (did_cycle a) p = past_cycle cts (answer_of (far ch) a).report p
past_after ch cts (did_sweep k rs) p = past_sweep cts (far ch) k rs p
past_after ch cts (did_refuse n) p = p

abbrev pub past_of : ChannelId → List Seen → Past
past_of ch [] = nothing_yet
past_of ch (e ∷ es) = past_after ch (cts_of ch es) e (past_of ch es)

-- the byte that a read at a select answers, if it were added to the list
abbrev pub byte_in : Result Reading Refusal → ℕ
byte_in (Ok r) = r.byte
byte_in (Err e) = 0

abbrev pub byte_at : ChannelId → Register → State → ℕ
byte_at ch g t = byte_in (read_once (select_at ch g) t.chip)

-- The words from the channel ch, in the format x with D cycles to a tick, over a line of d levels.
-- The far channel's words are a beginning of those that were written and not replaced, cut to their data bits; all of them once CTS was low
-- for 32 × F × D + d cycles in a row since the last write. The far channel shows no flag of a bad frame.
-- The fresh reads are the words kept, without the last exactly when RDRF shows, and that one is then in RDR.
pub record Delivered (ch : ChannelId) (x : Format) (D d : ℕ) (w : Played) : Type 0 where
  pub in_order : (rest : List ℕ) × ((past_of ch w.past).arrived ++ rest ≡ map (cut x) ((past_of ch w.past).unreplaced false))
  pub all_in_time : 32 * frame_bits x * D + d ≤ (past_of ch w.past).longest → (past_of ch w.past).arrived ≡ map (cut x) ((past_of ch w.past).unreplaced false)
  pub no_parity_flag : bit (byte_at (far ch) Interrupt w.board) 2 ≡ false
  pub no_framing_flag : bit (byte_at (far ch) Control w.board) 7 ≡ false
  pub no_break_flag : bit (byte_at (far ch) Control w.board) 2 ≡ false
  pub fresh_reads : (past_of ch w.past).fresh ++ only (bit (byte_at (far ch) Interrupt w.board) 0) (byte_at (far ch) Data w.board) ≡ (past_of ch w.past).kept

-- the divisor of a CR value
abbrev pub divisor_of : ℕ → ℕ
divisor_of cr = slice_index divisors (rate_code cr)

-- after every list of calls, from either channel
abbrev pub Delivers : ℕ → ℕ → State → Type 0
Delivers cr fr t = (ch : ChannelId) (ks : List Call) → Delivered ch (format_of cr fr) (divisor_of cr) (length (line_of ch t)) (play ks (started t))
