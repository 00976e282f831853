-- Worked figures of the board, over the definitions of its calls.
use Rattle.std.specs.Prelude.{◌≡◌, ℕ, true, [], ◌∷◌, replicate}
use Rattle.terms.specs.declared.channel_id.ChannelId.TheVariants.{One}
use Rattle.terms.specs.declared.modem_line.ModemLine.TheVariants.{Cts}
use Rattle.channel.specs.Calls.{plainly}
use Rattle.dacia.specs.Chip.{read_once, after_read_once, modem_on}
use Rattle.link.specs.Past.{Past}
use Rattle.board.specs.Board.{State, set_up_chip}
use Rattle.board.specs.Calls.{send, cycle, play, started}
use Rattle.board.specs.Delivery.{past_of}

-- a board with wires that was set up with CR $0E and FR $E0: 8 data bits, no parity, one stop bit, a tick every 6 cycles
abbrev pub wired : State
wired = record { chip = set_up_chip 0x0e 0xe0; a = []; b = [] }

-- what is seen of the words from channel 1, after $41 was written to TDR1 and k cycles went by
abbrev pub after41 : ℕ → Past
after41 k = past_of One (play (send One 0x41 ∷ replicate k cycle) (started wired)).past

pub record BoardFigures : Type 0 where
  -- CTS1 goes high: ISR1 shows the change once
  pub cts_isr : read_once 0 (modem_on One Cts true wired.chip) ≡ plainly 0xa0
  pub cts_isr_again : read_once 0 (after_read_once 0 (modem_on One Cts true wired.chip)) ≡ plainly 0x80
  -- the word is kept by channel 2 in cycle 924, and nothing arrives before
  pub nothing_before : (after41 923).arrived ≡ []
  pub kept_in_924 : (after41 924).kept ≡ 0x41 ∷ []
