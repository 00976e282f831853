-- Worked figures of the chip, over the definitions of its calls.
use Rattle.std.specs.Prelude.{◌≡◌, ℕ, zero, suc, Bool, true, false, List, [], ◌∷◌, ◌++◌, map, replicate, Some, None, Ok, Result}
use Rattle.terms.specs.declared.channel_id.ChannelId.TheVariants.{One}
use Rattle.terms.specs.declared.note.Reading.{Reading}
use Rattle.terms.specs.declared.note.ReadNote.TheVariants.{Fresh}
use Rattle.terms.specs.declared.refusal.Refusal.{Refusal}
use Rattle.terms.specs.declared.report.Report.{Report}
use Rattle.terms.specs.declared.report.ReportKind.TheVariants.{Break, Passed, Lost, Kept}
use Rattle.serial.specs.Frame.{bit, frame}
use Rattle.serial.specs.Format.{frame_bits}
use Rattle.channel.specs.Control.{format_of}
use Rattle.channel.specs.Calls.{plainly}
use Rattle.channel.specs.Receiving.{report}
use Rattle.dacia.specs.declared.chip.Chip.{Chip}
use Rattle.dacia.specs.Chip.{newly_reset, read_once}
use Rattle.dacia.specs.Separation.{Call, read, write, cycle, step, Answer, silent, byte, note, refused, reports, Shown, seen}
use Rattle.figures.specs.declared.FirstBytes.{FirstBytes}

-- the chip after a list of calls
abbrev pub after : List Call → Chip → Chip
after [] c = c
after (k ∷ ks) c = after ks (step k c)

-- a level for n ticks each
abbrev pub stretched : ℕ → List Bool → List Bool
stretched n [] = []
stretched n (l ∷ ls) = replicate n l ++ stretched n ls

-- n bits of a frame, from bit k on
abbrev pub bits_from : ℕ → ℕ → ℕ → List Bool
bits_from f k zero = []
bits_from f k (suc n) = bit f k ∷ bits_from f (suc k) n

-- the levels of a word on the line, one to a tick
abbrev pub levels : ℕ → ℕ → ℕ → List Bool
levels cr fr w = let x = format_of cr fr in stretched 16 (bits_from (frame x w) 0 (frame_bits x))

-- a cycle that is a tick of the receivers, with a level on RxD1; and one that is a tick of the transmitters
abbrev pub rx_tick : Bool → Call
rx_tick l = cycle (record { rxd = record { one = l; two = true }; marks = record { rxc = true; txc = false } })

abbrev pub tx_tick : Call
tx_tick = cycle (record { rxd = record { one = true; two = true }; marks = record { rxc = false; txc = true } })

abbrev pub hearing : List Bool → List Call
hearing ls = map rx_tick ls

-- channel 1 at rate code 15 with 8 data bits, no parity and one stop bit, RDRF clear
abbrev pub eight_bits : List Call
eight_bits = write 1 0x0f ∷ write 1 0xe0 ∷ []

abbrev pub ready_for_words : List Call
ready_for_words = eight_bits ++ read 3 ∷ []

-- the reports of channel 1, but none
abbrev pub report_in : Answer → List Report
report_in silent = []
report_in (byte b n) = []
report_in (note n) = []
report_in (refused n) = []
report_in (reports None) = []
report_in (reports (Some r)) = r ∷ []

abbrev pub all_reports : List Shown → List Report
all_reports [] = []
all_reports (s ∷ ss) = report_in s.answered ++ all_reports ss

abbrev pub reports_of : List Call → List Report
reports_of ks = all_reports (seen One ks newly_reset)

-- the levels of TxD1 after each call
abbrev pub sending_of : List Call → Chip → List Bool
sending_of ks c = map (λ s. s.txd) (seen One ks c)

abbrev pub freshly : ℕ → Result Reading Refusal
freshly b = Ok (record { byte = b; note = Some Fresh })

abbrev pub first_bytes : Result FirstBytes Refusal
first_bytes = Ok (record { isr = 0xc1; csr = 0x43 })

pub record Figures : Type 0 where
  -- a reset chip
  pub reset_isr : read_once 0 newly_reset ≡ plainly 0xc1
  pub reset_csr : read_once 1 newly_reset ≡ plainly 0x43
  -- $41 in 8 bits, no parity, one stop bit, 16 ticks to a bit
  pub sends_41 :
      sending_of (replicate 160 tx_tick) (after (eight_bits ++ write 3 0x41 ∷ []) newly_reset)
      ≡ stretched 16 (false ∷ true ∷ false ∷ false ∷ false ∷ false ∷ false ∷ true ∷ false ∷ true ∷ [])
  -- the parity bit of $41 in 7 bits: even at FR $CC, odd at FR $C4
  pub even_parity : bit (frame (format_of 0 0xcc) 0x41) 8 ≡ false
  pub odd_parity : bit (frame (format_of 0 0xc4) 0x41) 8 ≡ true
  -- a start bit lasts at least nine ticks
  pub eight_low : reports_of (ready_for_words ++ hearing (replicate 8 false ++ replicate 200 true)) ≡ []
  pub nine_low : reports_of (ready_for_words ++ hearing (replicate 9 false ++ replicate 200 true)) ≡ report Kept 0xff ∷ []
  -- ten low bits, with RDRF set and with RDRF clear: bit 0 of ISR stays as it was
  pub break_full : reports_of (eight_bits ++ hearing (replicate 160 false)) ≡ report Break 0 ∷ []
  pub break_full_isr : read_once 0 (after (eight_bits ++ hearing (replicate 160 false)) newly_reset) ≡ plainly 0xc3
  pub break_empty : reports_of (ready_for_words ++ hearing (replicate 160 false)) ≡ report Break 0 ∷ []
  pub break_empty_isr : read_once 0 (after (ready_for_words ++ hearing (replicate 160 false)) newly_reset) ≡ plainly 0xc2
  -- a second word unread
  pub lost_word : reports_of (ready_for_words ++ hearing (levels 0x0f 0xe0 0x31 ++ levels 0x0f 0xe0 0x46)) ≡ report Kept 0x31 ∷ report Lost 0x46 ∷ []
  pub first_stays : read_once 3 (after (ready_for_words ++ hearing (levels 0x0f 0xe0 0x31 ++ levels 0x0f 0xe0 0x46)) newly_reset) ≡ freshly 0x31
  -- CDR $41: asleep up to and with the word $41
  pub compares :
      reports_of (ready_for_words ++ write 2 0x41 ∷ hearing (levels 0x0f 0xe0 0x10 ++ levels 0x0f 0xe0 0x41 ++ levels 0x0f 0xe0 0x42))
      ≡ report Passed 0x10 ∷ report Passed 0x41 ∷ report Kept 0x42 ∷ []
